-- The answer over each result that counts: the one over the world that was read, or the refusal of
-- the path that doesn't read.
use Rattle.std.proofs.Common.{◌≡◌, inl, inr, [], ℕ, List, Option, None, Result, Ok, Err, refl, sym, ◌∙◌, ap}
use Rattle.fp_host.specs.Paths.{Elements}
use Rattle.fp_host.specs.View.{View}
use Rattle.fp_host.specs.Outcome.{Disk, shows}
use Rattle.fp_host.proofs.Shown.{now_left}
use Rattle.fp_small.specs.Places.{repo}
use Rattle.fp_small.specs.declared.state.State.{State}
use Rattle.fp_small.specs.declared.refusal.Refusal.TheVariants.{BadWords, Damaged}
use Rattle.ost_model.specs.Objects.{Have, store}
use Rattle.dep_states.specs.Shown.{Shows}
use Rattle.dep_states.specs.Damaged.{IsFirstDamaged}
use Rattle.dep_states.specs.Sound.{IsSound}
use Rattle.dep_states.proofs.Single.{one_result, damaged_shows_none}
use Rattle.dep_open.specs.Open.{NotShown}
use Rattle.fl_words.specs.Forms.{command_of, bad_index}
use Rattle.fl_words.specs.declared.command.Command.{Command}
use Rattle.fl_change.specs.World.{World, world_in, used_of}
use Rattle.fl_change.specs.Answer.{Answer, refusal_answer}
use Rattle.fl_top.specs.Answer.{Given, answer, answer_to, shown_answer, GivesWorld, IsOver}

-- ---- what an image gives

-- its world is the one with its objects
world_is : (disk : Disk) (x : World) (s : State) → x.state ≡ s → x.have ≡ used_of x.state (store repo disk) → x ≡ world_in s disk
world_is disk x s same have = ap (λ (h : Have). record { state = x.state; have = h }) have ∙ ap (λ (t : State). world_in t disk) same

one_world : (disk : Disk) (one two : Result World Elements) → GivesWorld disk one → GivesWorld disk two → one ≡ two
one_world disk (Ok x) (Ok y) first second =
    let same : Ok x.state ≡ Ok y.state = one_result disk (Ok x.state) (Ok y.state) first.0 second.0 in
    let states : x.state ≡ y.state = cc same in
    ap (λ (z : World). Ok z) (world_is disk x y.state states first.1 ∙ sym (world_is disk y y.state refl second.1))
one_world disk (Ok x) (Err p) first second = let same : Ok x.state ≡ Err p = one_result disk (Ok x.state) (Err p) first.0 second in absurd (cc same)
one_world disk (Err p) (Ok y) first second = let same : Err p ≡ Ok y.state = one_result disk (Err p) (Ok y.state) first second.0 in absurd (cc same)
one_world disk (Err p) (Err q) first second = let same : Err p ≡ Err q = one_result disk (Err p) (Err q) first second in let paths : p ≡ q = cc same in ap (λ (r : Elements). Err r) paths

pub gives_world : (disk : Disk) (s : State) → Shows disk s → GivesWorld disk (Ok (world_in s disk))
gives_world disk s is = (is, refl)

-- ---- the answer

pub over_given : (by : Result World Elements → Answer) (disk : Disk) (shown other : Result World Elements) → GivesWorld disk other → IsOver by disk shown → by shown ≡ by other
over_given by disk shown other given counts = elim counts [
  | inl is ↦ ap by (one_world disk shown other is given)
  | inr always ↦ sym (always other)
]

pub over_is : (f : World → Answer) (disk : Disk) (shown : Result World Elements) (s : State) → Shows disk s → IsOver (shown_answer f) disk shown → shown_answer f shown ≡ f (world_in s disk)
over_is f disk shown s is counts = over_given (shown_answer f) disk shown (Ok (world_in s disk)) (gives_world disk s is) counts

pub over_damaged : (f : World → Answer) (disk : Disk) (shown : Result World Elements) (p : Elements) → IsFirstDamaged disk p → IsOver (shown_answer f) disk shown → shown_answer f shown ≡ refusal_answer (Damaged p)
over_damaged f disk shown p is counts = over_given (shown_answer f) disk shown (Err p) is counts

-- where a path doesn't read, no state is shown
pub not_shown : {disk : Disk} {p : Elements} → IsFirstDamaged disk p → NotShown disk
not_shown {disk = disk} {p = p} is s shown = damaged_shows_none disk p s is.damages shown

-- ---- which answers count

-- there is an answer that counts
abbrev pub Counts : (Result World Elements → Answer) → Disk → Type 0
Counts by disk = (shown : Result World Elements) × IsOver by disk shown

pub counts_shown : (by : Result World Elements → Answer) (disk : Disk) (s : State) → Shows disk s → Counts by disk
counts_shown by disk s is = (Ok (world_in s disk), inl (gives_world disk s is))

pub counts_damaged : (by : Result World Elements → Answer) (disk : Disk) (p : Elements) → IsFirstDamaged disk p → Counts by disk
counts_damaged by disk p is = (Err p, inl is)

-- an answer that is the same whatever the image gives
abbrev pub IsConstant : (Result World Elements → Answer) → Type 0
IsConstant by = (shown other : Result World Elements) → by other ≡ by shown

pub counts_constant : (by : Result World Elements → Answer) (disk : Disk) → IsConstant by → Counts by disk
counts_constant by disk same = (Err [], inr (λ other. same (Err []) other))

-- what counts for one counts for the other, where they are the same
pub over_same : (f g : Result World Elements → Answer) (disk : Disk) (shown : Result World Elements) → ((r : Result World Elements) → f r ≡ g r) → IsOver g disk shown → IsOver f disk shown
over_same f g disk shown same counts = elim counts [
  | inl is ↦ inl is
  | inr always ↦ inr (λ other. same other ∙ always other ∙ sym (same shown))
]

pub counts_same : (f g : Result World Elements → Answer) (disk : Disk) → ((r : Result World Elements) → f r ≡ g r) → Counts g disk → Counts f disk
counts_same f g disk same counts = (counts.0, over_same f g disk counts.0 same counts.1)

-- ---- laws

-- answers that count are the same
pub one_answer : (by : Result World Elements → Answer) (disk : Disk) (shown other : Result World Elements) → IsOver by disk shown → IsOver by disk other → by shown ≡ by other
one_answer by disk shown other one two = elim two [
  | inl is ↦ over_given by disk shown other is one
  | inr always ↦ always shown
]

-- over what is sound there is one
pub sound_counts : (by : Result World Elements → Answer) (u : View) → IsSound u → Counts by (shows u)
sound_counts by u sound = let is = sound.shown (shows u) (now_left u) in counts_shown by (shows u) is.state is.shows

-- words that are no command are answered over each image
pub words_count : (words : List (List ℕ)) (given : Given) (disk : Disk) → command_of words ≡ None → Counts (answer words given) disk
words_count words given disk none = counts_constant (answer words given) disk (λ shown other. same other ∙ sym (same shown))
  where
    same : (shown : Result World Elements) → answer words given shown ≡ refusal_answer (BadWords (bad_index words))
    same shown = ap (λ (o : Option Command). answer_to words o given shown) none
