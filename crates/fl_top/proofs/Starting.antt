-- What a run is before anything is done, and what it is once the installation was opened.
use Rattle.std.proofs.Common.{◌≡◌, inl, inr, ℕ, Bool, false, List, [], ◌∷◌, ◌++◌, Option, Some, None, Result, Ok, Err, refl, sym, ◌∙◌, ap, subst}
use Rattle.std.proofs.lemmas.List.{append-nil}
use Rattle.fp_host.specs.Paths.{Elements}
use Rattle.fp_host.specs.Remote.{Holdings}
use Rattle.fp_host.specs.View.{View, IsTree}
use Rattle.fp_host.specs.Outcome.{Disk, Leaves, Follows, Nothing, shows}
use Rattle.fp_host.specs.Frame.{Keeps, NoPath, NoName}
use Rattle.fp_host.proofs.Follow.{follows_refl}
use Rattle.fp_host.proofs.Shown.{now_left}
use Rattle.fp_small.specs.Files.{KeepsFiles}
use Rattle.fp_small.specs.Shares.{Shares}
use Rattle.fp_small.proofs.Sharing.{shares_refl, shares_empty}
use Rattle.dep_states.proofs.SharedAs.{shared_refl, shared_on, shared_by}
use Rattle.fp_small.specs.Places.{repo}
use Rattle.ost_model.specs.Objects.{object_path}
use Rattle.fp_small.proofs.Keeping.{files_stay, files_kept, files_on}
use Rattle.fp_small.specs.declared.state.State.{State}
use Rattle.fp_small.specs.declared.op.Op.{Op}
use Rattle.fp_small.specs.declared.refusal.Refusal.{Refusal}
use Rattle.fp_small.specs.declared.refusal.Refusal.TheVariants.{Damaged}
use Rattle.dep_states.specs.Shown.{Shows}
use Rattle.dep_states.specs.Sound.{IsSound, Opens}
use Rattle.dep_states.specs.After.{Done, after_all}
use Rattle.dep_states.proofs.Single.{one_state}
use Rattle.dep_open.specs.Open.{NotShown, IsOpened, Opened, StaysUnread}
use Rattle.dep_open.specs.declared.open_end.OpenEnd.{OpenEnd}
use Rattle.dep_open.specs.declared.open_end.OpenEnd.TheVariants as open_end
use Rattle.fl_change.specs.World.{World, world, world_at}
use Rattle.fl_change.specs.Answer.{Answer, pieces_text, ops_in, ops_of, has_acted, refusal_answer}
use Rattle.fl_top.specs.Answer.{shown_answer, IsAtOnce}
use Rattle.fl_change.specs.Ends.{end_of_open}
use Rattle.fl_change.specs.Performs.{AreToldFor, Performs, IsDone, IsHalted, Performed, PerformsOver, PerformedOver, ChangesFrom}
use Rattle.fl_top.specs.Moment.{ShowsAfter, IsPrefix, IsJust, Runs, RunsChanges}
use Rattle.fl_top.specs.Return.{Stands, Completes, Finishes, Ended, ChangesHaveEnded, LookHasEnded}
use Rattle.fl_top.specs.Told.{IsReady}
use Rattle.fl_top.specs.Counting.{EachOver}
use Rattle.fl_change.specs.declared.end.RunEnd.{RunEnd}
use Rattle.fl_change.specs.declared.end.RunEnd.TheVariants.{Refused, Fault, RemoteFault, NoMemory}
use Rattle.fl_change.specs.Changes.{IsUntouched, HasText, OnlyTidied, IsStill}
use Rattle.fl_change.proofs.Changing.{change_on, change_none, tidied_on, tidied_none, still_on, same_untouched}
use Rattle.fl_change.proofs.Same.{unmoved, same_shown, same_sound, same_settled}
use Rattle.fl_top.proofs.Altering.{alter_none, alter_changes, rest_none, rest_tidied}
use Rattle.fl_top.proofs.Over.{over_is, over_damaged, not_shown, counts_shown, counts_damaged}
use Rattle.fl_change.proofs.Worlds.{store_same, shows_same, worlds_state}
use Rattle.fl_change.proofs.Doing.{none_yet}
use Rattle.fl_change.proofs.Tidying.{first_moved}
use Rattle.ost_store.specs.Created.{Creates, NoObject}
use Rattle.ost_store.proofs.Creating.{creates_refl, creates_frame}
use Rattle.fl_change.specs.Created.{CreatesInTurn}
use Rattle.fl_change.proofs.Created.{no_ops_created, created_off}
use Rattle.fl_top.specs.Exports.{StaysAtRest}

-- ---- nothing is printed and nothing shown changes, no new file gets a byte, and no object is made

pub record Keeping (u w : View) : Type 0 where
  pub printed : w.printed ≡ u.printed
  pub follows : Follows Nothing u w
  pub names : (q : Elements) → w.names q ≡ u.names q
  pub files : KeepsFiles u w
  pub empty : Shares NoPath u w
  pub creates : Creates repo NoObject u w

pub kept : {u w : View} → Keeps Nothing NoName NoPath u w → Keeping u w
kept keeps = record { printed = keeps.printed; follows = keeps.follows; names = λ q. elim (keeps.names q) [ inl same ↦ same | inr put ↦ absurd put ]; files = files_kept keeps; empty = shares_empty keeps; creates = creates_frame NoName keeps (λ q id below put. put) }

pub still_keeping : {u w : View} → Keeping u w → IsStill u w
still_keeping keeping = record { names = keeping.names; unwritten = keeping.empty }

-- a step that gives nothing leaves what some stop before would have left
pub shows_before : {u w : View} → Follows Nothing u w → IsSound u → (disk : Disk) → Leaves w disk → IsJust [] u disk
shows_before follows sound disk left =
    let from = follows.from disk left in
    let was = sound.shown from.0 from.1 in
    record {
      shown = (from.0, from.1, was.state, was.shows, same_shown (unmoved from.2) was.shows);
      sound = same_sound (unmoved from.2) (sound.sound from.0 from.1);
    }

-- none of the operations is done or acknowledged
prefix_none : (a : Answer) {u : View} {disk : Disk} → IsJust [] u disk → IsPrefix a [] u disk
prefix_none a just = record { done = []; undone = ops_of a; prefix = refl; more = []; holds = refl; shown = just.shown; sound = just.sound }

pub begun : (a : Answer) {u w : View} → Keeping u w → (IsAtOnce a.refusal → IsUntouched u w) → Runs a u w
begun a keeping untouched = record {
  only_rests = λ none s at. rest_none keeping.names;
  said = [];
  so_far = none_yet a keeping.printed;
  prefix = λ sound disk left. prefix_none a (shows_before keeping.follows sound disk left);
  untouched = untouched;
}

-- a refusal of the world isn't one of the words or of the input
abbrev pub IsLate : (Holdings → World → Answer) → Type 0
IsLate f = (held : Holdings) (x : World) → IsAtOnce (f held x).refusal → ⊥

pub over_late : (f : World → Answer) → ((x : World) → IsAtOnce (f x).refusal → ⊥) → (shown : Result World Elements) → IsAtOnce (shown_answer f shown).refusal → ⊥
over_late f late (Err path) at_once = at_once
over_late f late (Ok x) at_once = late x at_once

pub begun_over : (holds : Option Holdings) (May : Op → Type 0) (f : Holdings → World → Answer) → IsLate f → {u w : View} → Keeping u w → StaysUnread u w → RunsChanges holds May f u w
begun_over holds May f late {u = u} keeping unread = record {
  runs = λ ready held is shown counts. begun (shown_answer (f held) shown) keeping (λ at_once. absurd (over_late (f held) (late held) shown at_once));
  changes = λ known. alter_none keeping.names keeping.files;
  rests = λ change ready held is shown counts rest idle. still_keeping keeping;
  untouched = λ none. same_untouched (unread none);
}

pub stood : (a : Answer) {u w : View} → Keeping u w → Stands a u w
stood a keeping = record { said = []; so_far = none_yet a keeping.printed; just = shows_before keeping.follows }

-- ---- once it was opened

pub shown_after : (u : View) (s : State) (done : List Done) (disk : Disk) → Shows (shows u) s → Shows disk (after_all s done) → ShowsAfter u done disk
shown_after u s [] disk at shown = (shows u, now_left u, s, at, shown)
shown_after u s (op ∷ ops) disk at shown = (s, at, shown)

-- an installation that was opened, with the trees before and after
pub record Begun (s : State) (u v : View) : Type 0 where
  pub before : IsTree u
  pub keeping : Keeping u v
  pub opened : IsOpened s u v

-- where a state is shown, what is ready is sound
pub ready_sound : {s : State} {u : View} → Shows (shows u) s → IsReady u → IsSound u
ready_sound {s = s} shown ready = elim ready [ inl sound ↦ sound | inr none ↦ absurd (none s shown) ]

-- what stands was seen before
pub begun_seen : {s : State} {u v : View} → Begun s u v → IsTree v → (q : Elements) → shows v q ≡ shows u q
begun_seen {u = u} {v = v} begun tree q = shows_same u v begun.before tree begun.keeping.files q (begun.keeping.names q)

-- the world that is worked on is the one that the image shows
pub begun_world : (s : State) {u v : View} → Begun s u v → IsTree v → world_at s v ≡ world_at s u
begun_world s {u = u} {v = v} begun tree = ap (world s) (store_same u v begun.before tree begun.keeping.files (λ d kind. begun.keeping.names (object_path repo d kind)))

runs_opened : (a : Answer) (s : State) {u v w : View} → (IsAtOnce a.refusal → ⊥) → IsOpened s u v → Keeping u v → Performs a s v w → Runs a u w
runs_opened a s {u = u} {w = w} late opened keeping performs = record {
  only_rests = λ none t at. rest_tidied (subst (λ (z : State). OnlyTidied z u w) (one_state (shows u) s t opened.shown at) (tidied_on (tidied_none keeping.names) (performs.only_tidied none)));
  said = performs.said;
  so_far = first_moved keeping.printed performs.so_far;
  prefix = λ sound disk left.
      let some = performs.some disk left in
      record {
        done = some.done;
        undone = some.undone;
        prefix = some.prefix;
        more = some.more;
        holds = some.holds;
        shown = shown_after u s some.done disk opened.shown some.shown;
        sound = some.sound;
      };
  untouched = λ at_once. absurd (late at_once);
}

-- where all is at rest and nothing is done
stays_opened : (a : Answer) (s : State) {u v w : View} → ((q : Elements) → shows v q ≡ shows u q) → Keeping u v → Performs a s v w → StaysAtRest a u w
stays_opened a s seen keeping performs = λ rest idle.
    still_on (still_keeping keeping) (performs.still idle (same_settled seen rest.settled)) performs.files

-- what is known at each moment of work that may do these operations
pub record Working (holds : Option Holdings) (May : Op → Type 0) (f : Holdings → World → Answer) (s : State) (v w : View) : Type 0 where
  pub performs : PerformsOver (Opens s) holds f s v w
  pub changes : AreToldFor May holds → ChangesFrom May s v w

pub runs_over : (holds : Option Holdings) (May : Op → Type 0) (f : Holdings → World → Answer) (s : State) {u v w : View} → IsLate f → Begun s u v → IsTree v → Working holds May f s v w → RunsChanges holds May f u w
runs_over holds May f s {u = u} {v = v} {w = w} late begun tree work = record {
  runs = λ ready held is shown counts.
      let opens = begun.opened.opens (ready_sound begun.opened.shown ready) in
      subst (λ (a : Answer). Runs a u w) (ap (f held) (begun_world s begun tree) ∙ sym (over_is (f held) (shows u) shown s begun.opened.shown counts))
      (runs_opened (f held (world_at s v)) s (late held (world_at s v)) begun.opened begun.keeping (work.performs.performs held is opens));
  changes = λ known. alter_changes (change_on u v w (change_none begun.keeping.names begun.keeping.files) (work.changes known.0 (λ asks. begun.opened.opens (ready_sound begun.opened.shown (known.1 asks)))));
  rests = λ change ready held is shown counts.
      let opens = begun.opened.opens (ready_sound begun.opened.shown ready) in
      subst (λ (a : Answer). StaysAtRest a u w) (ap (f held) (begun_world s begun tree) ∙ sym (over_is (f held) (shows u) shown s begun.opened.shown counts))
      (stays_opened (f held (world_at s v)) s (begun_seen begun tree) begun.keeping (work.performs.performs held is opens));
  untouched = λ none. absurd (none s begun.opened.shown);
}

pub completes : (held : Holdings) (a : Answer) (s : State) (x : World) {u v w : View} → x.state ≡ s → IsOpened s u v → Keeping u v → ((q : Elements) → shows v q ≡ shows u q) → KeepsFiles v w → world_at s u ≡ x → IsDone held a x v w → Completes held a u w
completes held a s x {u = u} {w = w} same opened keeping seen files here is = record {
  printed = is.printed ∙ ap (λ (p : List ℕ). p ++ pieces_text a.pieces) keeping.printed;
  just = λ sound disk left. record { shown = shown_after u s (ops_of a) disk opened.shown (opens.shown disk left); sound = opens.sound disk left };
  shown = λ sound t at.
      let one : s ≡ t = one_state (shows u) s t opened.shown at in
      subst (λ (z : State). Shows (shows w) (after_all z (ops_of a))) one (opens.shown (shows w) (now_left w));
  tidied = λ sound why. is.tidied (λ idle. elim why [ inl settled ↦ same_settled seen settled | inr some ↦ absurd (some idle.0) ]);
  text = λ some t at.
      let one : s ≡ t = one_state (shows u) s t opened.shown at in
      subst (λ (z : State). HasText (after_all z (ops_of a)) w) (same ∙ one) (is.text some);
  files = files_on keeping.files files;
  shares = λ unpulled. shared_on (shared_by (λ q f no. absurd no) keeping.empty) (is.shares unpulled) files;
  creates = λ unpulled t at.
      let one : s ≡ t = one_state (shows u) s t opened.shown at in
      subst (λ (z : World). CreatesInTurn held z (ops_of a) u w) (sym here ∙ ap (λ (z : State). world_at z u) one)
      (created_off held x (ops_of a) keeping.creates (is.creates unpulled) keeping.files files);
}
  where
    opens : Opens (after_all s (ops_of a)) w
    opens = subst (λ (z : State). Opens z w) (worlds_state held x (ops_of a) ∙ ap (λ (z : State). after_all z (ops_of a)) same) is.holds.opens

stands : (a : Answer) (s : State) {u v w : View} → IsOpened s u v → Keeping u v → IsHalted a s v w → Stands a u w
stands a s {u = u} opened keeping is = record {
  said = is.said;
  so_far = first_moved keeping.printed is.so_far;
  just = λ sound disk left. record { shown = shown_after u s (ops_in is.said) disk opened.shown (is.opens.shown disk left); sound = is.opens.sound disk left };
}

-- it isn't a refusal
abbrev pub IsNoRefusal : RunEnd → Type 0
IsNoRefusal e = (refusal : Refusal) → e ≡ Refused refusal → ⊥

ended : (held : Holdings) (a : Answer) (s : State) (e : RunEnd) {u v : View} (w : View) → IsNoRefusal e → Begun s u v → Performed held a (world_at s v) (Err e) v w → Ended held a (Err e) u w
ended held a s (Refused refusal) w other begun is = absurd (other refusal refl)
ended held a s Fault w other begun is = tt
ended held a s RemoteFault w other begun is = stands a s begun.opened begun.keeping is
ended held a s NoMemory w other begun is = stands a s begun.opened begun.keeping is

pub failed_over : (holds : Option Holdings) (f : Holdings → World → Answer) (s : State) (e : RunEnd) {before now : Bool} {u v : View} (w : View) → IsNoRefusal e → Begun s u v → IsTree v → PerformedOver (Opens s) holds f s before now (Err e) v w → ChangesHaveEnded holds f (Err e) u w
failed_over holds f s e {u = u} {v = v} w other begun tree is = record {
  ended = λ ready held told shown counts.
      let opens = begun.opened.opens (ready_sound begun.opened.shown ready) in
      subst (λ (a : Answer). Ended held a (Err e) u w) (ap (f held) (begun_world s begun tree) ∙ sym (over_is (f held) (shows u) shown s begun.opened.shown counts))
      (ended held (f held (world_at s v)) s e w other begun (is.performed held told opens));
  given = λ by held. counts_shown (shown_answer (f held)) (shows u) s begun.opened.shown;
  made = tt;
}

-- the changes were made
pub done_over : (holds : Option Holdings) (f : Holdings → World → Answer) (s t : State) {before now : Bool} {u v : View} (w : View) → Begun s u v → IsTree v → PerformsOver (Opens s) holds f s v w → PerformedOver (Opens s) holds f s before now (Ok t) v w
    → IsReady u → (held : Holdings) → holds ≡ Some held → EachOver (shown_answer (f held)) u (λ a. (a.refusal ≡ None) × Completes held a u w)
done_over holds f s t {u = u} {v = v} w begun tree work is ready held told shown counts =
    let opens = begun.opened.opens (ready_sound begun.opened.shown ready) in
    let done = is.performed held told opens in
    subst (λ (a : Answer). (a.refusal ≡ None) × Completes held a u w) (ap (f held) (begun_world s begun tree) ∙ sym (over_is (f held) (shows u) shown s begun.opened.shown counts))
    (done.0, completes held (f held (world_at s v)) s (world_at s v) refl begun.opened begun.keeping (begun_seen begun tree) (work.performs held told opens).files (sym (begun_world s begun tree)) done.2)

-- they were made up to a refusal
pub refused_over : (holds : Option Holdings) (f : Holdings → World → Answer) (s : State) (refusal : Refusal) (acted : Bool) {u v : View} (w : View) → Begun s u v → IsTree v → PerformsOver (Opens s) holds f s v w → PerformedOver (Opens s) holds f s false acted (Err (Refused refusal)) v w
    → IsReady u → (held : Holdings) → holds ≡ Some held → EachOver (shown_answer (f held)) u (λ a. (a.refusal ≡ Some refusal) × Completes held a u w × Opens (after_all s (ops_of a)) w × (acted ≡ has_acted false (ops_of a)))
refused_over holds f s refusal acted {u = u} {v = v} w begun tree work is ready held told shown counts =
    let opens = begun.opened.opens (ready_sound begun.opened.shown ready) in
    let done = is.performed held told opens in
    let a = f held (world_at s v) in
    subst (λ (a : Answer). (a.refusal ≡ Some refusal) × Completes held a u w × Opens (after_all s (ops_of a)) w × (acted ≡ has_acted false (ops_of a))) (ap (f held) (begun_world s begun tree) ∙ sym (over_is (f held) (shows u) shown s begun.opened.shown counts)) (
      done.0,
      completes held a s (world_at s v) refl begun.opened begun.keeping (begun_seen begun tree) (work.performs held told opens).files (sym (begun_world s begun tree)) done.1,
      subst (λ (z : State). Opens z w) (worlds_state held (world_at s v) (ops_of a)) done.1.holds.opens,
      is.acted held told opens,
    )

-- ---- where it wasn't opened

-- where no operation is done nothing is owed to the exported files
pub finishes_none : (held : Holdings) (a : Answer) {u w : View} → ops_of a ≡ [] → Completes held a u w → Finishes held a u w
finishes_none held a none done = record { completes = done; exports = λ some. absurd (some none) }

damaged : (held : Holdings) (path : Elements) {u w : View} → Keeping u w → NotShown (shows u) → Completes held (refusal_answer (Damaged path)) u w
damaged held path {u = u} keeping none = record {
  printed = keeping.printed ∙ sym (append-nil u.printed);
  just = shows_before keeping.follows;
  shown = λ sound s at. absurd (none s at);
  tidied = λ sound why. let is = sound.shown (shows u) (now_left u) in absurd (none is.state is.shows);
  text = λ some s at. absurd (none s at);
  files = keeping.files;
  shares = λ unpulled. shared_by (λ q f no. absurd no) keeping.empty;
  creates = λ unpulled s at. absurd (none s at);
}

-- out of memory before anything is done
pub halted_look : (f : World → Answer) {u w : View} → Keeping u w → LookHasEnded (shown_answer f) (Err NoMemory) u w
halted_look f keeping = record { ended = λ shown counts held. stood (shown_answer f shown) keeping; given = λ by. absurd by; made = tt }

pub look_not_open : (f : World → Answer) (e : OpenEnd) {u w : View} → Keeping u w → Opened (Err e) u w → LookHasEnded (shown_answer f) (Err (end_of_open e)) u w
look_not_open f (open_end.Damaged path) {u = u} {w = w} keeping is = record {
  ended = λ shown counts held. subst (λ (a : Answer). Ended held a (Err (Refused (Damaged path))) u w) (sym (over_damaged f (shows u) shown path is counts)) (refl, finishes_none held (refusal_answer (Damaged path)) refl (damaged held path keeping (not_shown is)));
  given = λ by. counts_damaged (shown_answer f) (shows u) path is;
  made = tt;
}
look_not_open f open_end.Fault keeping is = record { ended = λ shown counts held. tt; given = λ by. absurd by; made = tt }
look_not_open f open_end.NoMemory keeping is = halted_look f keeping

-- so it ends for a command that changes something
pub looked_ends : (holds : Option Holdings) (f : Holdings → World → Answer) (r : Result (Unit {0}) RunEnd) {u w : View} → ((held : Holdings) → LookHasEnded (shown_answer (f held)) r u w) → ChangesHaveEnded holds f r u w
looked_ends holds f r looked = record { ended = λ ready held is shown counts. (looked held).ended shown counts held; given = λ by held. (looked held).given by; made = tt }

pub ended_open : (holds : Option Holdings) (f : Holdings → World → Answer) (e : OpenEnd) {u w : View} → Keeping u w → Opened (Err e) u w → ChangesHaveEnded holds f (Err (end_of_open e)) u w
ended_open holds f e keeping is = looked_ends holds f (Err (end_of_open e)) (λ held. look_not_open (f held) e keeping is)

-- nothing changes
pub unchanged : {u : View} → Keeping u u
unchanged = record { printed = refl; follows = follows_refl; names = λ q. refl; files = files_stay; empty = shares_refl; creates = creates_refl }

-- a refusal without a look at the installation
at_once : (held : Holdings) (refusal : Refusal) (u : View) → Completes held (refusal_answer refusal) u u
at_once held refusal u = record {
  printed = sym (append-nil u.printed);
  just = shows_before follows_refl;
  shown = λ sound s at. at;
  tidied = λ sound why. elim why [ inl tidy ↦ tidy | inr some ↦ absurd (some refl) ];
  text = λ some s at. absurd (cc some);
  files = files_stay;
  shares = λ unpulled. shared_refl;
  creates = λ unpulled s at. no_ops_created held (world_at s u) [] refl creates_refl;
}

pub refused_at_once : (held : Holdings) (refusal : Refusal) (u : View) → Finishes held (refusal_answer refusal) u u
refused_at_once held refusal u = finishes_none held (refusal_answer refusal) refl (at_once held refusal u)
