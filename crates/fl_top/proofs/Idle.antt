-- An update of all leaves nothing to do, and another one after it writes nothing.
use Rattle.std.proofs.Common.{◌≡◌, inl, inr, ℕ, List, [], ◌∷◌, Option, Some, None, Result, Ok, refl, sym, ◌∙◌, ap, subst, arith}
use Rattle.fp_host.specs.Paths.{Elements}
use Rattle.fp_host.specs.Remote.{Holdings}
use Rattle.fp_host.specs.View.{View}
use Rattle.fp_host.specs.Outcome.{Disk, shows}
use Rattle.fp_host.proofs.Shown.{now_left}
use Rattle.fp_small.specs.Files.{KeepsFiles}
use Rattle.fp_small.specs.declared.refusal.Refusal.{Refusal}
use Rattle.fp_small.specs.declared.state.State.{State}
use Rattle.dep_states.specs.After.{IsGood, after_all}
use Rattle.dep_states.specs.Shown.{Shows}
use Rattle.dep_states.specs.Sound.{IsSound}
use Rattle.dep_states.proofs.Good.{shown_good}
use Rattle.fl_words.specs.Forms.{command_of}
use Rattle.fl_words.specs.declared.command.Change.{Change}
use Rattle.fl_words.specs.declared.command.Change.TheVariants.{UpdateAll}
use Rattle.fl_words.specs.declared.command.Command.{Command}
use Rattle.fl_words.specs.declared.command.Command.TheVariants.{Change as Changing}
use Rattle.fl_change.specs.Answer.{Answer, IsIdle, ops_of}
use Rattle.fl_change.specs.Changes.{IsStill}
use Rattle.fl_change.specs.Turns.{changing}
use Rattle.fl_change.specs.World.{World, world_in}
use Rattle.fl_change.proofs.Updates.{second_is_idle}
use Rattle.fl_top.specs.Answer.{Given, answer, answer_to, shown_answer, IsOver}
use Rattle.fl_top.specs.Exports.{IsAtRest}
use Rattle.fl_top.specs.Return.{Answers, WasRun, WordsWereRun}
use Rattle.fl_top.specs.Told.{Told, IsGiven, IsGivenTo, IsChange}
use Rattle.fl_top.specs.Moment.{RunsWords}
use Rattle.fl_top.specs.Status.{status_of, status_by, status_at}
use Rattle.fl_top.proofs.Ending.{command_plain}
use Rattle.fl_top.proofs.Over.{over_is, over_same, gives_world}

abbrev all : List Change
all = UpdateAll ∷ []

-- ---- what the first one left

-- a state that is shown, over which another one is idle
record IsLeft (held : Holdings) (v : View) : Type 0 where
  state : State
  shown : Shows (shows v) state
  idle : IsIdle (changing all held (world_in state (shows v)))
  unrefused : (changing all held (world_in state (shows v))).refusal ≡ None
  sound : IsSound v

-- each refusal of the answer has the status 1
abbrev HasPlain : Answer → Type 0
HasPlain a = (r : Refusal) → a.refusal ≡ Some r → 1 ≡ status_of r

not_refused : (a : Answer) → HasPlain a → 0 ≡ status_at a → a.refusal ≡ None
not_refused a plain status = by a.refusal refl
  where
    by : (o : Option Refusal) → a.refusal ≡ o → a.refusal ≡ None
    by None none = none
    by (Some r) some = absurd (let both : 0 ≡ 1 = status ∙ ap status_by some ∙ sym (plain r some) in omega (arith, both))

left_at : (held : Holdings) (a : Answer) (x : World) (t : State) {v : View} → IsGood x.state → a ≡ changing all held x → a.refusal ≡ None → t ≡ after_all x.state (ops_of a) → Shows (shows v) t → IsSound v → IsLeft held v
left_at held a x t {v = v} good is none after shown sound =
    let unrefused : (changing all held x).refusal ≡ None = subst (λ (z : Answer). z.refusal ≡ None) is none in
    let leads : t ≡ after_all x.state (ops_of (changing all held x)) = after ∙ ap (λ (z : Answer). after_all x.state (ops_of z)) is in
    let idle = second_is_idle held x (world_in t (shows v)) good unrefused leads shown.refs_ascend in
    record { state = t; shown = shown; idle = idle.0; unrefused = idle.1; sound = sound }

left_over : (held : Holdings) (a : Answer) (s : State) {u v : View} → IsSound u → Shows (shows u) s → a ≡ changing all held (world_in s (shows u)) → HasPlain a → WasRun held a 0 u v → IsLeft held v
left_over held a s {u = u} {v = v} sound at is plain ran =
    let done : Answers held a 0 u v = ran.answers (inl refl) in
    left_at held a (world_in s (shows u)) (after_all s (ops_of a)) (shown_good (shows u) s at) is (not_refused a plain done.status_is) refl (done.shown sound s at) (ran.sound sound)

-- ---- by words that ask for it

module _ (words : List (List ℕ)) (is : command_of words ≡ Some (Changing UpdateAll)) where
  answer_is : (given : Given) (shown : Result World Elements) → shown_answer (changing all given.held) shown ≡ answer words given shown
  answer_is given shown = ap (λ (o : Option Command). answer_to words o given shown) (sym is)

  answers_world : (given : Given) (disk : Disk) (shown : Result World Elements) (s : State) → Shows disk s → IsOver (answer words given) disk shown → answer words given shown ≡ changing all given.held (world_in s disk)
  answers_world given disk shown s at counts =
      sym (answer_is given shown) ∙ over_is (changing all given.held) disk shown s at (over_same (shown_answer (changing all given.held)) (answer words given) disk shown (answer_is given) counts)

  is_given : (t : Told) (given : Given) → t.holds ≡ Some given.held → IsGiven t (command_of words) given
  is_given t given told =
      let gave : IsGivenTo (Changing UpdateAll) t given = record { input = inl refl; held = inr told; files = inl refl; report = inl refl; commit = tt } in
      subst (λ (o : Option Command). IsGiven t o given) (sym is) gave

  plainly : (given : Given) (shown : Result World Elements) → HasPlain (answer words given shown)
  plainly given shown = subst HasPlain (answer_is given shown) (command_plain (Changing UpdateAll) given shown)

  -- given no input
  abbrev given_of : Holdings → Given
  given_of held = record { input = []; held = held; files = λ name commit. None; report = record { findings = []; objects = 0 }; commit = [] }

  module _ (first : Told) (held : Holdings) {u v : View} (sound : IsSound u) (told : first.holds ≡ Some held) (ran : WordsWereRun words first 0 u v) where
    left : IsLeft held v
    left =
        let gave = is_given first (given_of held) told in
        let found = ran.given (inl refl) (given_of held) gave in
        let at = sound.shown (shows u) (now_left u) in
        left_over held (answer words (given_of held) found.0) at.state sound at.shows
        (answers_world (given_of held) (shows u) found.0 at.state at.shows found.1) (plainly (given_of held) found.0)
        (ran.ended (given_of held) gave found.0 found.1 (inl (inr (inl sound))))

    pub second_answers : (given : Given) (shown : Result World Elements) → given.held ≡ held → IsOver (answer words given) (shows v) shown → (ops_of (answer words given shown) ≡ []) × ((answer words given shown).refusal ≡ None)
    second_answers given shown same counts =
        let there : answer words given shown ≡ changing all held (world_in left.state (shows v)) =
        answers_world given (shows v) shown left.state left.shown counts ∙ ap (λ (h : Holdings). changing all h (world_in left.state (shows v))) same in
        (subst (λ (z : Answer). ops_of z ≡ []) (sym there) left.idle.0, subst (λ (z : Answer). z.refusal ≡ None) (sym there) left.unrefused)

    pub second_writes_nothing : (second : Told) {w : View} → second.holds ≡ Some held → IsAtRest v → RunsWords words second v w → IsStill v w × KeepsFiles v w
    second_writes_nothing second again rest runs =
        let shown : Result World Elements = Ok (world_in left.state (shows v)) in
        let counts : IsOver (answer words (given_of held)) (shows v) shown = inl (gives_world (shows v) left.state left.shown) in
        let there = answers_world (given_of held) (shows v) shown left.state left.shown counts in
        let idle : IsIdle (answer words (given_of held) shown) = subst IsIdle (sym there) left.idle in
        let change : IsChange (command_of words) = subst IsChange (sym is) refl in (
          runs.rests change (given_of held) (is_given second (given_of held) again) shown counts (inl (inr (inl left.sound))) rest idle,
          (runs.changes (λ asks. (held, again), λ asks. inl left.sound)).files,
        )
