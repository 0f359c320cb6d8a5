-- The last part of a run.
use Rattle.std.proofs.Common.{◌≡◌, inl, inr, ℕ, List, [], ◌∷◌, Bool, true, false, nat_le, length, ◌≤◌, ◌<◌, ◌+◌, arith, IsErrOf, Option, Some, None, Result, Ok, Err, IsErrAnd, if◌then◌else◌, refl, sym, ◌∙◌, ap, subst}
use Rattle.std.proofs.lemmas.Result.{err_from_is_err_and}
use Rattle.fp_host.specs.Paths.{Elements}
use Rattle.fp_host.specs.Remote.{Holdings}
use Rattle.fp_host.specs.View.{View}
use Rattle.fp_host.specs.Outcome.{shows}
use Rattle.fp_host.specs.Causes.{IsCaused}
use Rattle.fp_host.specs.Moments.{Moments, Goes, Rose}
use Rattle.fp_host.specs.Frame.{Unchanged}
use Rattle.fp_host.proofs.Cause.{Rose-later}
use Rattle.fp_host.proofs.Framed.{IsTold}
use Rattle.fp_host.proofs.Goes.{begins, stays, goes_on}
use Rattle.fp_small.specs.declared.refusal.Refusal.{Refusal}
use Rattle.fp_small.specs.declared.refusal.Refusal.TheVariants.{BadWords, BadRecord, Limit}
use Rattle.fp_base.specs.declared.what.What.TheVariants.{Input}
use Rattle.fl_lines.specs.Lines.{refusal_text}
use Rattle.fl_words.specs.Forms.{command_of, bad_index}
use Rattle.fl_words.specs.declared.command.Command.{Command}
use Rattle.fl_words.specs.declared.command.Command.TheVariants.{Change as Changing, List as Listed, Batch, Exercise as Exercising}
use Rattle.fl_words.specs.declared.command.Change.{Change}
use Rattle.fl_words.specs.declared.command.Listing.{Listing}
use Rattle.fl_installed.specs.Deployed.{DeployedFiles}
use Rattle.fl_words.specs.declared.batch.BatchError.{BatchError}
use Rattle.fl_words.specs.declared.batch.BatchError.TheVariants as batch
use Rattle.fl_words.specs.Batch.{batch_of, IsBadBatch}
use Rattle.fl_change.specs.World.{World}
use Rattle.fl_change.specs.Answer.{Answer, refusal_answer}
use Rattle.fl_top.specs.Answer.{Given, answer, answer_to, answer_over, listing_answer, shown_answer, over_input, of_batch, IsOver, IsAtOnce}
use Rattle.fl_change.specs.Turns.{changing, MayDo}
use Rattle.fl_top.specs.Asked.{OpsBy, OpsFor}
use Rattle.fp_small.specs.declared.op.Op.{Op}
use Rattle.fl_top.specs.Moment.{Runs, RunsWords, RunsChanges, RunsLook, RunsCommand}
use Rattle.fl_top.specs.Return.{WasRun, WordsWereRun, ChangesHaveEnded, LookHasEnded, CommandHasEnded, CommandWasRun, Ended, Closed, IsGivenBy, IsClosedBy, MadeWhere}
use Rattle.fl_top.specs.Told.{Told, IsGiven, IsGivenTo, Looks, MakesNone, IsChange, IsKnown, IsReady, Serves, HasCauses, MayAnswer, files_at}
use Rattle.fl_top.specs.Taken.{WasTaken, Takes, TakenBy}
use Rattle.fl_change.specs.Says.{Says, Refuses}
use Rattle.fl_top.specs.Status.{only_looks, changes_state, reads_input, IsAnswered, IsOfWords}
use Rattle.fl_change.specs.declared.end.RunEnd.{RunEnd}
use Rattle.fl_change.specs.declared.end.RunEnd.TheVariants as run
use Rattle.fl_top.specs.declared.command_end.CommandEnd.{CommandEnd}
use Rattle.fl_top.specs.declared.command_end.CommandEnd.TheVariants.{Refused, Fault, RemoteFault, InputFault, NoMemory}
use Rattle.fl_top.specs.declared.input.InputEnd.{InputEnd}
use Rattle.fl_top.specs.declared.input.InputEnd.TheVariants as input
use Rattle.fl_top.specs.Input.{input_most, IsWhole, IsTaken, IsDrained, InputStops}
use Rattle.fl_top.specs.Ends.{end_of_run, end_of_input, end_of_batch}
use Rattle.fl_change.proofs.Changing.{not_touched, keeps_files, still_not, still_on, still_untouched}
use Rattle.fl_top.specs.Exports.{Alters, StaysAtRest}
use Rattle.fl_words.specs.Words.{Work, work_of, altering, looking, checking, making}
use Rattle.fl_top.specs.Kinds.{is_altering, is_looking}
use Rattle.fl_top.specs.Remotes.{MakesFor, MadeBy, MadeAs, MadeFor}
use Rattle.fl_top.proofs.Altering.{alter_on, alter_to, alter_not, alter_untouched}
use Rattle.fl_change.proofs.Working.{asks_to}
use Rattle.fl_top.proofs.Over.{IsConstant, over_same, counts_same, counts_constant}
use Rattle.fl_top.proofs.Starting.{begun, stood, unchanged, refused_at_once, IsLate, over_late}
use Rattle.fl_gen.specs.Exercise.{exercise_changes}
use Rattle.fl_top.specs.Exercising.{exercising}
use Rattle.fl_top.proofs.Refusing.{changing_late, exercising_late}
use Rattle.fl_top.proofs.Ending.{refusing, untouched_on, ran_done, ran_fault, ran_input, ran_halted, ran_refused, command_plain, not_answered}

-- ---- a command

-- the error of a `?`
pub is_end : (r : Result (Unit {0}) CommandEnd) (e : CommandEnd) → IsErrAnd r (λ end. end ≡ e) → r ≡ Err e
is_end r e is = let p = err_from_is_err_and r is in p.1 ∙ ap (λ (x : CommandEnd). Err x) p.2

-- an end of the work on the installation is one of the command
pub closed : (held : Holdings) (a : Answer) (e : RunEnd) (u w : View) → Ended held a (Err e) u w → Closed held a (Err (end_of_run e)) u w
closed held a (run.Refused refusal) u w is = is
closed held a run.Fault u w is = tt
closed held a run.RemoteFault u w is = is
closed held a run.NoMemory u w is = is

pub given_by : (e : RunEnd) → IsClosedBy (Err (end_of_run e)) → IsGivenBy (Err e)
given_by (run.Refused refusal) by = tt
given_by run.Fault by = absurd by
given_by run.RemoteFault by = absurd by
given_by run.NoMemory by = absurd by

-- a command that changes no state
pub not_changes : (command k : Command) → command ≡ k → changes_state k ≡ false → IsChange (Some command) → ⊥
not_changes command k is keeps change = let both : true ≡ false = sym change ∙ (ap changes_state is ∙ keeps) in cc both

-- one that may change it looks at it, and makes no remote
looks_by : (work : Work) → is_altering work ≡ true → is_looking work ≡ false
looks_by altering is = refl
looks_by looking is = absurd (cc is)
looks_by checking is = absurd (cc is)
looks_by (making remote name) is = absurd (cc is)

looks_not : (command : Command) → changes_state command ≡ true → only_looks command ≡ false
looks_not command is = looks_by (work_of command) is

made_by : (work : Work) (left : Option (List ℕ)) (u w : View) → is_altering work ≡ true → MadeAs work left u w
made_by altering left u w is = tt
made_by looking left u w is = tt
made_by checking left u w is = tt
made_by (making remote name) left u w is = absurd (cc is)

made_none : (command : Command) (left : Option (List ℕ)) (u w : View) → changes_state command ≡ true → MadeBy command left u w
made_none command left u w is = made_by (work_of command) left u w is

look_by : (work : Work) (left : Option (List ℕ)) (u w : View) → is_looking work ≡ true → MadeAs work left u w
look_by altering left u w is = tt
look_by looking left u w is = tt
look_by checking left u w is = tt
look_by (making remote name) left u w is = absurd (cc is)

pub look_made : (command : Command) (left : Option (List ℕ)) (u w : View) → only_looks command ≡ true → MadeBy command left u w
look_made command left u w is = look_by (work_of command) left u w is

-- where it was done, by an end
pub made_where : (r : Result (Unit {0}) CommandEnd) (command : Command) (left : Option (List ℕ)) (u w : View) → MadeBy command left u w → MadeWhere r command left u w
made_where (Ok t) command left u w made = made
made_where (Err e) command left u w made = tt

-- the answer to it is this over the world that it works on
abbrev pub IsAnswer : Command → Told → (Holdings → World → Answer) → Type 0
IsAnswer command t f = (given : Given) → IsGivenTo command t given → (shown : Result World Elements) → shown_answer (f given.held) shown ≡ answer_over command given shown

-- an answer that counts for the command counts for it
counts_for : (command : Command) (f : World → Answer) (given : Given) (u : View) (shown : Result World Elements) → ((r : Result World Elements) → shown_answer f r ≡ answer_over command given r) → IsOver (answer_over command given) (shows u) shown → IsOver (shown_answer f) (shows u) shown
counts_for command f given u shown is counts = over_same (shown_answer f) (answer_over command given) (shows u) shown is counts

-- a command that changes something, whose refusals are none of the words or of the input, answers
-- where the installation is ready
ready_for : (command : Command) (f : World → Answer) (given : Given) (u : View) (shown : Result World Elements) → changes_state command ≡ true → ((x : World) → IsAtOnce (f x).refusal → ⊥) → shown_answer f shown ≡ answer_over command given shown → MayAnswer (Some command) u (answer_over command given shown) → IsReady u
ready_for command f given u shown changes late is may = elim may [
  | inl serves ↦ elim serves [
    | inl keeps ↦ absurd (let both : true ≡ false = sym changes ∙ keeps in cc both)
    | inr ready ↦ ready
  ]
  | inr at_once ↦ absurd (over_late f late shown (subst (λ (a : Answer). IsAtOnce a.refusal) (sym is) at_once))
]

-- what the remotes hold is told, where the state may change
holds_told : (command : Command) (t : Told) (given : Given) → changes_state command ≡ true → IsGivenTo command t given → t.holds ≡ Some given.held
holds_told command t given changes gave = elim gave.held [
  | inl none ↦ absurd (let both : true ≡ false = sym changes ∙ none in cc both)
  | inr told ↦ told
]

-- what is known of a command that changes something, by these operations
pub record IsChanging (command : Command) (t : Told) (May : Op → Type 0) (f : Holdings → World → Answer) : Type 0 where
  pub changes : changes_state command ≡ true
  pub late : IsLate f
  pub is : IsAnswer command t f
  pub may : (op : Op) → May op → OpsBy command t.left op

runs_change : (command : Command) (t : Told) (May : Op → Type 0) (f : Holdings → World → Answer) (u w : View) → IsChanging command t May f → RunsChanges t.holds May f u w → RunsCommand command t u w
runs_change command t May f u w known p = record {
  runs = λ given gave shown counts may.
      let is = known.is given gave in
      subst (λ (x : Answer). Runs x u w) (is shown)
      (p.runs (ready_for command (f given.held) given u shown known.changes (known.late given.held) (is shown) may) given.held (holds_told command t given known.changes gave) shown (counts_for command (f given.held) given u shown is counts));
  changes = λ ready. alter_to known.may (p.changes (λ asks. ready.0 (asks_to known.may asks), λ asks. ready.1 (asks_to known.may asks)));
  rests = λ change given gave shown counts may.
      let is = known.is given gave in
      subst (λ (x : Answer). StaysAtRest x u w) (is shown)
      (p.rests tt (ready_for command (f given.held) given u shown known.changes (known.late given.held) (is shown) may) given.held (holds_told command t given known.changes gave) shown (counts_for command (f given.held) given u shown is counts));
  untouched = λ why. elim why [ inl looks ↦ absurd (let both : true ≡ false = sym looks ∙ looks_not command known.changes in cc both) | inr none ↦ p.untouched none.1 ];
}

ended_change : (command : Command) (t : Told) (May : Op → Type 0) (f : Holdings → World → Answer) (r : Result (Unit {0}) RunEnd) (s : Result (Unit {0}) CommandEnd) (u w : View) → IsChanging command t May f
    → ((held : Holdings) (a : Answer) → Ended held a r u w → Closed held a s u w) → (IsClosedBy s → IsGivenBy r) → ChangesHaveEnded t.holds f r u w → CommandHasEnded command t s u w
ended_change command t May f r s u w known close give q = record {
  ended = λ given gave shown counts may.
      let is = known.is given gave in
      subst (λ (x : Answer). Closed given.held x s u w) (is shown) (close given.held (shown_answer (f given.held) shown)
      (q.ended (ready_for command (f given.held) given u shown known.changes (known.late given.held) (is shown) may) given.held (holds_told command t given known.changes gave) shown (counts_for command (f given.held) given u shown is counts)));
  given = λ by given gave. counts_same (answer_over command given) (shown_answer (f given.held)) (shows u) (λ r. sym (known.is given gave r)) (q.given (give by) given.held);
  made = made_where s command t.left u w (made_none command t.left u w known.changes);
}

-- one that changes something
pub goes_change : {a b : Option Moments} (command : Command) (t : Told) (May : Op → Type 0) (f : Holdings → World → Answer) → IsTold a → IsChanging command t May f
    → Goes a b (RunsChanges t.holds May f) (ChangesHaveEnded t.holds f (Ok tt)) → Goes a b (RunsCommand command t) (CommandHasEnded command t (Ok tt))
goes_change command t May f known is goes = begins known goes
    (λ u w tree p. runs_change command t May f u w is p)
    (λ u w tree p q. ended_change command t May f (Ok tt) (Ok tt) u w is (λ held a e. e) (λ by. by) q)

pub goes_not_changed : {a b : Option Moments} (command : Command) (t : Told) (May : Op → Type 0) (f : Holdings → World → Answer) (e : RunEnd) (r : Result (Unit {0}) CommandEnd) → IsTold a → IsChanging command t May f
    → Goes a b (RunsChanges t.holds May f) (ChangesHaveEnded t.holds f (Err e)) → IsErrAnd r (λ end. end ≡ end_of_run e) → Goes a b (RunsCommand command t) (CommandHasEnded command t r)
goes_not_changed {a = a} {b = b} command t May f e r known is goes err =
    subst (λ (x : Result (Unit {0}) CommandEnd). Goes a b (RunsCommand command t) (CommandHasEnded command t x)) (sym (is_end r (end_of_run e) err))
    (begins known goes (λ u w tree p. runs_change command t May f u w is p) (λ u w tree p q. ended_change command t May f (Err e) (Err (end_of_run e)) u w is (λ held a x. closed held a e u w x) (given_by e) q))

-- the answer of a command that looks is this over the world
abbrev pub IsLook : Command → Told → (World → Answer) → Type 0
IsLook command t f = (given : Given) → IsGivenTo command t given → (shown : Result World Elements) → shown_answer f shown ≡ answer_over command given shown

-- a command that only looks is given the deployed files
pub given_files : (command : Command) (t : Told) (given : Given) → only_looks command ≡ true → IsGivenTo command t given → given.files ≡ files_at t.moments
given_files command t given looks gave = elim gave.files [
  | inl none ↦ absurd (let both : true ≡ false = sym looks ∙ none in cc both)
  | inr is ↦ is
]

-- so is a listing
pub listing_look : (listing : Listing) (t : Told) → IsLook (Listed listing) t (listing_answer (files_at t.moments) listing)
listing_look listing t given gave shown = sym (ap (λ (files : DeployedFiles). shown_answer (listing_answer files listing) shown) (given_files (Listed listing) t given refl gave))

runs_look : (command : Command) (t : Told) (f : World → Answer) (u w : View) → IsLook command t f → RunsLook (shown_answer f) u w → RunsCommand command t u w
runs_look command t f u w is p = record {
  runs = λ given gave shown counts may. subst (λ (x : Answer). Runs x u w) (is given gave shown) (p.runs shown (counts_for command f given u shown (is given gave) counts) given.held);
  changes = λ known. alter_untouched (p.untouched tt);
  rests = λ change given gave shown counts may rest idle. still_untouched (p.untouched tt);
  untouched = λ why. p.untouched tt;
}

ended_look : (command : Command) (t : Told) (f : World → Answer) (r : Result (Unit {0}) RunEnd) (s : Result (Unit {0}) CommandEnd) (u w : View) → only_looks command ≡ true → IsLook command t f
    → ((held : Holdings) (a : Answer) → Ended held a r u w → Closed held a s u w) → (IsClosedBy s → IsGivenBy r) → LookHasEnded (shown_answer f) r u w → CommandHasEnded command t s u w
ended_look command t f r s u w looks is close give q = record {
  ended = λ given gave shown counts may. subst (λ (x : Answer). Closed given.held x s u w) (is given gave shown) (close given.held (shown_answer f shown) (q.ended shown (counts_for command f given u shown (is given gave) counts) given.held));
  given = λ by given gave. counts_same (answer_over command given) (shown_answer f) (shows u) (λ r. sym (is given gave r)) (q.given (give by));
  made = made_where s command t.left u w (look_made command t.left u w looks);
}

-- one that looks
pub goes_look : {a b : Option Moments} (command : Command) (t : Told) (f : World → Answer) → IsTold a → only_looks command ≡ true → IsLook command t f
    → Goes a b (RunsLook (shown_answer f)) (LookHasEnded (shown_answer f) (Ok tt)) → Goes a b (RunsCommand command t) (CommandHasEnded command t (Ok tt))
goes_look command t f known looks is goes = begins known goes
    (λ u w tree p. runs_look command t f u w is p)
    (λ u w tree p q. ended_look command t f (Ok tt) (Ok tt) u w looks is (λ held a e. e) (λ by. by) q)

pub goes_not_looked : {a b : Option Moments} (command : Command) (t : Told) (f : World → Answer) (e : RunEnd) (r : Result (Unit {0}) CommandEnd) → IsTold a → only_looks command ≡ true → IsLook command t f
    → Goes a b (RunsLook (shown_answer f)) (LookHasEnded (shown_answer f) (Err e)) → IsErrAnd r (λ end. end ≡ end_of_run e) → Goes a b (RunsCommand command t) (CommandHasEnded command t r)
goes_not_looked {a = a} {b = b} command t f e r known looks is goes err =
    subst (λ (x : Result (Unit {0}) CommandEnd). Goes a b (RunsCommand command t) (CommandHasEnded command t x)) (sym (is_end r (end_of_run e) err))
    (begins known goes (λ u w tree p. runs_look command t f u w is p) (λ u w tree p q. ended_look command t f (Err e) (Err (end_of_run e)) u w looks is (λ held a x. closed held a e u w x) (given_by e) q))

-- a fault of the command is one of the work
pub run_fault : (r : Result (Unit {0}) RunEnd) (s : Result (Unit {0}) CommandEnd) (e : RunEnd) → r ≡ Err e → IsErrAnd s (λ end. end ≡ end_of_run e) → IsErrOf s Fault → IsErrOf r run.Fault
run_fault r s e is err fault = is ∙ ap (λ (x : RunEnd). Err x) (of_run e (let both : Err (end_of_run e) ≡ Err Fault = sym (is_end s (end_of_run e) err) ∙ fault in cc both))
  where
    of_run : (e : RunEnd) → end_of_run e ≡ Fault → e ≡ run.Fault
    of_run (run.Refused refusal) same = absurd (cc same)
    of_run run.Fault same = refl
    of_run run.RemoteFault same = absurd (cc same)
    of_run run.NoMemory same = absurd (cc same)

-- and so is a fault of the remotes
pub run_remote : (r : Result (Unit {0}) RunEnd) (s : Result (Unit {0}) CommandEnd) (e : RunEnd) → r ≡ Err e → IsErrAnd s (λ end. end ≡ end_of_run e) → IsErrOf s RemoteFault → IsErrOf r run.RemoteFault
run_remote r s e is err fault = is ∙ ap (λ (x : RunEnd). Err x) (of_run e (let both : Err (end_of_run e) ≡ Err RemoteFault = sym (is_end s (end_of_run e) err) ∙ fault in cc both))
  where
    of_run : (e : RunEnd) → end_of_run e ≡ RemoteFault → e ≡ run.RemoteFault
    of_run (run.Refused refusal) same = absurd (cc same)
    of_run run.Fault same = absurd (cc same)
    of_run run.RemoteFault same = refl
    of_run run.NoMemory same = absurd (cc same)

-- an end before the work is none
pub input_remote : (s : Result (Unit {0}) CommandEnd) (e : InputEnd) → IsErrAnd s (λ end. end ≡ end_of_input e) → IsErrOf s RemoteFault → ⊥
input_remote s e err fault = of_input e (let both : Err (end_of_input e) ≡ Err RemoteFault = sym (is_end s (end_of_input e) err) ∙ fault in cc both)
  where
    of_input : (e : InputEnd) → end_of_input e ≡ RemoteFault → ⊥
    of_input input.TooLong same = cc same
    of_input input.Fault same = cc same
    of_input input.NoMemory same = cc same

pub batch_remote : (s : Result (Unit {0}) CommandEnd) (e : BatchError) → IsErrAnd s (λ end. end ≡ end_of_batch e) → IsErrOf s RemoteFault → ⊥
batch_remote s e err fault = of_batch_end e (let both : Err (end_of_batch e) ≡ Err RemoteFault = sym (is_end s (end_of_batch e) err) ∙ fault in cc both)
  where
    of_batch_end : (e : BatchError) → end_of_batch e ≡ RemoteFault → ⊥
    of_batch_end (batch.BadRecord line) same = cc same
    of_batch_end batch.NoMemory same = cc same

-- and its end is no failure of the input
pub run_input : (s : Result (Unit {0}) CommandEnd) (e : RunEnd) → IsErrAnd s (λ end. end ≡ end_of_run e) → IsErrOf s InputFault → ⊥
run_input s e err fault = of_run e (let both : Err (end_of_run e) ≡ Err InputFault = sym (is_end s (end_of_run e) err) ∙ fault in cc both)
  where
    of_run : (e : RunEnd) → end_of_run e ≡ InputFault → ⊥
    of_run (run.Refused refusal) same = cc same
    of_run run.Fault same = cc same
    of_run run.RemoteFault same = cc same
    of_run run.NoMemory same = cc same

-- ---- its cause

serves_change : (command : Command) (v : View) → changes_state command ≡ true → Serves (Some command) v → IsReady v
serves_change command v changes serves = elim serves [
  | inl keeps ↦ absurd (let both : true ≡ false = sym changes ∙ keeps in cc both)
  | inr ready ↦ ready
]

-- the cause of what changes something, and of what passes its fault on
pub caused_change : {a : Option Moments} {F G : Type 0} (command : Command) (before now : ℕ) → changes_state command ≡ true → IsCaused F a IsReady before now → (G → F) → IsCaused G a (HasCauses (Some command)) before now
caused_change command before now changes cause passes = record { later = cause.later; fault = λ is m told can. cause.fault (passes is) m told (serves_change command m.now changes can.serves) }

-- of a call after others, which leave the count no lower
pub caused_after : {a b : Option Moments} {R Q : View → View → Type 0} {C D : View → Type 0} {F G : Type 0} (n m k : ℕ) → n ≤ m → Goes a b R Q → ((u w : View) → Q u w → C u → D w) → IsCaused F b D m k → (G → F) → IsCaused G a C n k
caused_after n m k le goes leads cause passes = record {
  later = omega (arith, le, cause.later);
  fault = λ is known told at. let one = goes.told known told in Rose-later n m k le (cause.fault (passes is) one.0 one.1 (leads known.now one.0.now one.3 at));
}

-- nothing was done
pub not_begun : (command : Command) (t : Told) (u : View) → RunsCommand command t u u
not_begun command t u = record {
  runs = λ given gave shown counts may. begun (answer_over command given shown) unchanged (λ why. not_touched);
  changes = λ known. alter_not;
  rests = λ change given gave shown counts may rest idle. still_not;
  untouched = λ why. not_touched;
}

-- What ends a command before the installation is looked at: so it ends whatever the image gives.
pub record EndsEarly (command : Command) (given : Given) (e : CommandEnd) : Type 0 where
  pub closed : (shown : Result World Elements) (u : View) → Closed given.held (answer_over command given shown) (Err e) u u
  pub same : IsClosedBy (Err e) → IsConstant (answer_over command given)

pub goes_none : {a : Option Moments} (command : Command) (t : Told) (e : CommandEnd) (r : Result (Unit {0}) CommandEnd) → IsTold a → IsErrAnd r (λ end. end ≡ e)
    → ((given : Given) → IsGivenTo command t given → EndsEarly command given e) → Goes a a (RunsCommand command t) (CommandHasEnded command t r)
goes_none {a = a} command t e r known err ends =
    subst (λ (x : Result (Unit {0}) CommandEnd). Goes a a (RunsCommand command t) (CommandHasEnded command t x)) (sym (is_end r e err)) (stays known (not_begun command t) (λ u tree. record {
      ended = λ given gave shown counts may. (ends given gave).closed shown u;
      given = λ by given gave. counts_constant (answer_over command given) (shows u) ((ends given gave).same by);
      made = tt;
    }))

-- the input failed, before anything is done
pub input_failed : {a : Option Moments} (left : Option (List ℕ)) (before now : ℕ) (e : InputEnd) (r : Result (Unit {0}) CommandEnd) → IsTold a → IsErrAnd r (λ end. end ≡ end_of_input e) → InputStops left before now e → IsErrOf r InputFault → Rose before now × Unchanged a a
input_failed {a = a} left before now e r known err stops is = of_input e stops (let both : Err (end_of_input e) ≡ Err InputFault = sym (is_end r (end_of_input e) err) ∙ is in cc both)
  where
    of_input : (e : InputEnd) → InputStops left before now e → end_of_input e ≡ InputFault → Rose before now × Unchanged a a
    of_input input.TooLong stops same = absurd (cc same)
    of_input input.Fault stops same = (stops, record { goes = stays known (λ u. refl) (λ u t. (refl, tt)) })
    of_input input.NoMemory stops same = absurd (cc same)

-- it is refused
pub refused_early : (command : Command) (given : Given) (refusal : Refusal) → ((shown : Result World Elements) → refusal_answer refusal ≡ answer_over command given shown) → EndsEarly command given (Refused refusal)
refused_early command given refusal is = record {
  closed = λ shown u. subst (λ (y : Answer). Closed given.held y (Err (Refused refusal)) u u) (is shown) (refl, refused_at_once given.held refusal u);
  same = λ by shown other. sym (is other) ∙ is shown;
}

-- the input fails
failed_early : (command : Command) (given : Given) → EndsEarly command given InputFault
failed_early command given = record { closed = λ shown u. refl; same = λ by. absurd by }

-- out of memory
pub halted_early : (command : Command) (given : Given) → EndsEarly command given NoMemory
halted_early command given = record { closed = λ shown u. stood (answer_over command given shown) unchanged; same = λ by. absurd by }

-- ---- a command that reads the input

too_long : (input : List ℕ) → input_most < length input → nat_le (length input) input_most ≡ false
too_long input more = grind arith

not_long : (input : List ℕ) → length input ≤ input_most → nat_le (length input) input_most ≡ true
not_long input few = grind arith

-- its answer is this by the whole input
pub record ByInput (command : Command) (f : Given → Result World Elements → List ℕ → Answer) : Type 0 where
  pub reads : reads_input command ≡ true
  pub is : (given : Given) (shown : Result World Elements) → answer_over command given shown ≡ over_input (f given shown) given.input

-- all of the input is given
pub given_all : (command : Command) (t : Told) (given : Given) → reads_input command ≡ true → IsGivenTo command t given → t.left ≡ Some given.input
given_all command t given reads gave = elim gave.input [
  | inl none ↦ absurd (let both : true ≡ false = sym reads ∙ none in cc both)
  | inr told ↦ told
]

by_length : (f : List ℕ → Answer) (input : List ℕ) (b : Bool) → nat_le (length input) input_most ≡ b → over_input f input ≡ (if b then f input else refusal_answer (Limit Input (input_most + 1)))
by_length f input b is = ap (λ (c : Bool). if c then f input else refusal_answer (Limit Input (input_most + 1))) is

-- the answer to it, whose bytes were read
pub read_is : (command : Command) (f : Given → Result World Elements → List ℕ → Answer) → ByInput command f → (t : Told) (bytes : List ℕ) → IsWhole t.left bytes → (given : Given) → IsGivenTo command t given → (shown : Result World Elements) → f given shown bytes ≡ answer_over command given shown
read_is command f by t bytes whole given gave shown =
    let all = whole given.input (given_all command t given by.reads gave) in
    ap (f given shown) all.0 ∙ sym (by_length (f given shown) given.input true (not_long given.input all.1)) ∙ sym (by.is given shown)

-- the input wasn't read
pub input_ends : (command : Command) (f : Given → Result World Elements → List ℕ → Answer) → ByInput command f → (t : Told) (before now : ℕ) (e : InputEnd) → InputStops t.left before now e → (given : Given) → IsGivenTo command t given → EndsEarly command given (end_of_input e)
input_ends command f by t before now input.TooLong stops given gave =
    let long = too_long given.input (stops given.input (given_all command t given by.reads gave)) in
    refused_early command given (Limit Input (input_most + 1)) (λ shown. sym (by_length (f given shown) given.input false long) ∙ sym (by.is given shown))
input_ends command f by t before now input.Fault stops given gave = failed_early command given
input_ends command f by t before now input.NoMemory stops given gave = halted_early command given

-- ---- a batch

abbrev pub batch_by : Given → Result World Elements → List ℕ → Answer
batch_by given shown bytes = of_batch (batch_of bytes) given.held shown

pub batch_input : ByInput Batch batch_by
batch_input = record { reads = refl; is = λ given shown. refl }

pub batch_ends : (t : Told) (bytes : List ℕ) (e : BatchError) → IsWhole t.left bytes → IsBadBatch bytes e → (given : Given) → IsGivenTo Batch t given → EndsEarly Batch given (end_of_batch e)
batch_ends t bytes (batch.BadRecord line) whole bad given gave =
    refused_early Batch given (BadRecord line) (λ shown. ap (λ (x : Result (List Change) ℕ). of_batch x given.held shown) (sym bad) ∙ read_is Batch batch_by batch_input t bytes whole given gave shown)
batch_ends t bytes batch.NoMemory whole bad given gave = halted_early Batch given

batch_answers : (t : Told) (bytes : List ℕ) (changes : List Change) → IsWhole t.left bytes → batch_of bytes ≡ Ok changes → IsAnswer Batch t (changing changes)
batch_answers t bytes changes whole is given gave shown = ap (λ (x : Result (List Change) ℕ). of_batch x given.held shown) (sym is) ∙ read_is Batch batch_by batch_input t bytes whole given gave shown

pub batch_changes : (t : Told) (bytes : List ℕ) (changes : List Change) → IsWhole t.left bytes → batch_of bytes ≡ Ok changes → IsChanging Batch t (MayDo changes) (changing changes)
batch_changes t bytes changes whole is = record {
  changes = refl;
  late = changing_late changes;
  is = batch_answers t bytes changes whole is;
  may = λ op may. (changes, record { bytes = bytes; whole = whole; read = is }, may);
}

-- one change
pub change_changes : (t : Told) (change : Change) → IsChanging (Changing change) t (MayDo (change ∷ [])) (changing (change ∷ []))
change_changes t change = record { changes = refl; late = changing_late (change ∷ []); is = λ given gave shown. refl; may = λ op may. may }

-- an exercise
pub exercise_changing : (t : Told) (apps : ℕ) → IsChanging (Exercising apps) t (MayDo (exercise_changes apps)) (exercising apps)
exercise_changing t apps = record { changes = refl; late = exercising_late apps; is = λ given gave shown. refl; may = λ op may. may }

-- ---- what it takes of the input

pub drained_by : (r : Result (Unit {0}) CommandEnd) (old new : Option (List ℕ)) → IsTaken old new → TakenBy r old new
drained_by (Ok t) old new taken = λ all told few. taken all told
drained_by (Err (Refused refusal)) old new taken = λ all told few. taken all told
drained_by (Err Fault) old new taken = tt
drained_by (Err RemoteFault) old new taken = tt
drained_by (Err InputFault) old new taken = tt
drained_by (Err NoMemory) old new taken = tt

stopped_by : (e : InputEnd) (old new : Option (List ℕ)) (before now : ℕ) → InputStops old before now e → TakenBy (Err (end_of_input e)) old new
stopped_by input.TooLong old new before now stops = λ all told few. absurd (let more = stops all told in omega (arith, more, few))
stopped_by input.Fault old new before now stops = tt
stopped_by input.NoMemory old new before now stops = tt

pub not_taken : (e : InputEnd) (r : Result (Unit {0}) CommandEnd) (old new : Option (List ℕ)) (before now : ℕ) → IsErrAnd r (λ end. end ≡ end_of_input e) → InputStops old before now e → TakenBy r old new
not_taken e r old new before now err stops = subst (λ (x : Result (Unit {0}) CommandEnd). TakenBy x old new) (sym (is_end r (end_of_input e) err)) (stopped_by e old new before now stops)

-- a command that reads nothing takes nothing
pub takes_none : (command : Command) (r : Result (Unit {0}) CommandEnd) (left : Option (List ℕ)) → reads_input command ≡ false → Takes command r left left
takes_none command r left is = record { read = λ reads. absurd (let both : true ≡ false = sym reads ∙ is in cc both); left = λ none. refl }

pub takes_all : (command : Command) (r : Result (Unit {0}) CommandEnd) (old new : Option (List ℕ)) → reads_input command ≡ true → TakenBy r old new → Takes command r old new
takes_all command r old new is taken = record { read = λ reads. taken; left = λ none. absurd (let both : true ≡ false = sym is ∙ none in cc both) }

pub taken_at : (command : Command) (r : Result (Unit {0}) CommandEnd) (status : ℕ) (old new : Option (List ℕ)) → Takes command r old new → (TakenBy r old new → IsAnswered status → IsDrained old new) → WasTaken (Some command) status old new
taken_at command r status old new takes drained = (λ reads answered. drained (takes.read reads) answered, takes.left)

-- ---- its status

pub goes_done : {a b : Option Moments} (command : Command) (t : Told) → IsTold a → Goes a b (RunsCommand command t) (CommandHasEnded command t (Ok tt)) → Goes a b (RunsCommand command t) (CommandWasRun command t 0)
goes_done command t known goes = begins known goes (λ u w tree r. r) (λ u w tree r q. record {
  ended = λ given gave shown counts may. ran_done given.held (answer_over command given shown) (r.runs given gave shown counts may) (q.ended given gave shown counts may);
  given = λ answered given gave. q.given tt given gave;
  made = λ done. q.made;
})

pub goes_fault : {a b : Option Moments} (command : Command) (t : Told) → IsTold a → Goes a b (RunsCommand command t) (CommandHasEnded command t (Err Fault)) → Goes a b (RunsCommand command t) (CommandWasRun command t 3)
goes_fault command t known goes = begins known goes (λ u w tree r. r) (λ u w tree r q. record {
  ended = λ given gave shown counts may. ran_fault given.held (answer_over command given shown) (r.runs given gave shown counts may);
  given = λ answered given gave. absurd (not_answered 3 (omega arith) answered);
  made = λ done. absurd (let is : 3 ≡ 0 = done in omega (arith, is));
})

pub goes_input : {a b : Option Moments} (command : Command) (t : Told) → IsTold a → Goes a b (RunsCommand command t) (CommandHasEnded command t (Err InputFault)) → Goes a b (RunsCommand command t) (CommandWasRun command t 5)
goes_input command t known goes = begins known goes (λ u w tree r. r) (λ u w tree r q. record {
  ended = λ given gave shown counts may. ran_input given.held (answer_over command given shown) (r.runs given gave shown counts may) (q.ended given gave shown counts may);
  given = λ answered given gave. absurd (not_answered 5 (omega arith) answered);
  made = λ done. absurd (let is : 5 ≡ 0 = done in omega (arith, is));
})

pub goes_remote : {a b : Option Moments} (command : Command) (t : Told) → IsTold a → Goes a b (RunsCommand command t) (CommandHasEnded command t (Err RemoteFault)) → Goes a b (RunsCommand command t) (CommandWasRun command t 4)
goes_remote command t known goes = begins known goes (λ u w tree r. r) (λ u w tree r q. record {
  ended = λ given gave shown counts may. ran_halted given.held (answer_over command given shown) 4 (omega arith) (r.runs given gave shown counts may) (q.ended given gave shown counts may);
  given = λ answered given gave. absurd (not_answered 4 (omega arith) answered);
  made = λ done. absurd (let is : 4 ≡ 0 = done in omega (arith, is));
})

pub goes_memory : {a b : Option Moments} (command : Command) (t : Told) → IsTold a → Goes a b (RunsCommand command t) (CommandHasEnded command t (Err NoMemory)) → Goes a b (RunsCommand command t) (CommandWasRun command t 6)
goes_memory command t known goes = begins known goes (λ u w tree r. r) (λ u w tree r q. record {
  ended = λ given gave shown counts may. ran_halted given.held (answer_over command given shown) 6 (omega arith) (r.runs given gave shown counts may) (q.ended given gave shown counts may);
  given = λ answered given gave. absurd (not_answered 6 (omega arith) answered);
  made = λ done. absurd (let is : 6 ≡ 0 = done in omega (arith, is));
})

-- a refusal's status isn't 0
not_refused : (text : List ℕ) (status result : ℕ) → 1 ≤ status → (v w : View) → Refuses text status result v w → result ≡ 0 → ⊥
not_refused text status result some v w refuses done = elim refuses [
  | inl said ↦ omega (arith, some, said.0, done)
  | inr other ↦ elim other [ inl three ↦ omega (arith, three, done) | inr six ↦ omega (arith, six.0, done) ]
]

pub goes_refused : {a b c : Option Moments} (command : Command) (t : Told) (r : Refusal) (result : ℕ) → IsTold b → Goes a b (RunsCommand command t) (CommandHasEnded command t (Err (Refused r)))
    → Goes b c (Says (refusal_text r)) (Refuses (refusal_text r) 1 result) → Goes a c (RunsCommand command t) (CommandWasRun command t result)
goes_refused command t r result known_b first second =
    goes_on known_b first second
    (λ u v w tree p q s. record {
      runs = λ given gave shown counts may. let e = q.ended given gave shown counts may in refusing given.held (answer_over command given shown) r e.0 (p.runs given gave shown counts may) e.1.completes s;
      changes = λ known. alter_on u v w (p.changes known) (alter_untouched s.untouched);
      rests = λ change given gave shown counts may rest idle. still_on (p.rests change given gave shown counts may rest idle) (still_untouched s.untouched) (keeps_files s.untouched);
      untouched = λ why. untouched_on (p.untouched why) s;
    })
    (λ u v w tree p q s last. record {
      ended = λ given gave shown counts may.
          let e = q.ended given gave shown counts may in
          let a = answer_over command given shown in
          ran_refused given.held a r 1 result e.0 (command_plain command given shown r e.0) e.1 (refusing given.held a r e.0 (p.runs given gave shown counts may) e.1.completes s) last;
      given = λ answered given gave. q.given tt given gave;
      made = λ done. absurd (not_refused (refusal_text r) 1 result (omega arith) v w last done);
    })

-- ---- the words

answer_is : (words : List (List ℕ)) (command : Command) (given : Given) → command_of words ≡ Some command → (shown : Result World Elements) → answer_over command given shown ≡ answer words given shown
answer_is words command given is shown = ap (λ (o : Option Command). answer_to words o given shown) (sym is)

no_answer : (words : List (List ℕ)) (index : ℕ) (given : Given) → command_of words ≡ None → index ≡ bad_index words → (shown : Result World Elements) → refusal_answer (BadWords index) ≡ answer words given shown
no_answer words index given none is shown = ap (λ (i : ℕ). refusal_answer (BadWords i)) is ∙ ap (λ (o : Option Command). answer_to words o given shown) (sym none)

given_to : (words : List (List ℕ)) (command : Command) (t : Told) (given : Given) → command_of words ≡ Some command → IsGiven t (command_of words) given → IsGivenTo command t given
given_to words command t given is gave = subst (λ (o : Option Command). IsGiven t o given) is gave

may_answer : (words : List (List ℕ)) (command : Command) (u : View) (given : Given) (shown : Result World Elements) → command_of words ≡ Some command → MayAnswer (command_of words) u (answer words given shown) → MayAnswer (Some command) u (answer_over command given shown)
may_answer words command u given shown is may =
    subst (λ (a : Answer). MayAnswer (Some command) u a) (sym (answer_is words command given is shown)) (subst (λ (o : Option Command). MayAnswer o u (answer words given shown)) is may)

pub goes_command : {a b : Option Moments} (words : List (List ℕ)) (t : Told) (command : Command) (status : ℕ) → IsTold a → command_of words ≡ Some command → Goes a b (RunsCommand command t) (CommandWasRun command t status) → Goes a b (RunsWords words t) (WordsWereRun words t status)
goes_command words t command status known is goes = begins known goes
    (λ u w tree r. record {
      runs = λ given gave shown counts may. subst (λ (a : Answer). Runs a u w) (answer_is words command given is shown) (r.runs given (given_to words command t given is gave) shown (counted u given shown counts) (may_answer words command u given shown is may));
      changes = λ known. subst (λ (o : Option Command). Alters (OpsFor o t.left) (MakesFor o) u w) (sym is) (r.changes (subst (λ (o : Option Command). IsKnown (OpsFor o t.left) t.holds u) is known));
      rests = λ change given gave shown counts may.
          subst (λ (a : Answer). StaysAtRest a u w) (answer_is words command given is shown)
          (r.rests (subst IsChange is change) given (given_to words command t given is gave) shown (counted u given shown counts) (may_answer words command u given shown is may));
      untouched = λ why. r.untouched (elim why [ inl looks ↦ inl (subst Looks is looks) | inr none ↦ inr (subst MakesNone is none.0, none.1) ]);
    })
    (λ u w tree r q. record {
      ended = λ given gave shown counts may. subst (λ (a : Answer). WasRun given.held a status u w) (answer_is words command given is shown) (q.ended given (given_to words command t given is gave) shown (counted u given shown counts) (may_answer words command u given shown is may));
      given = λ answered given gave. counts_same (answer words given) (answer_over command given) (shows u) (λ r. sym (answer_is words command given is r)) (q.given answered given (given_to words command t given is gave));
      made = λ done. subst (λ (o : Option Command). MadeFor o t.left u w) (sym is) (q.made done);
    })
  where
    counted : (u : View) (given : Given) (shown : Result World Elements) → IsOver (answer words given) (shows u) shown → IsOver (answer_over command given) (shows u) shown
    counted u given shown counts = over_same (answer_over command given) (answer words given) (shows u) shown (answer_is words command given is) counts

pub goes_no_command : {a b : Option Moments} (words : List (List ℕ)) (t : Told) (index result : ℕ) → IsTold a → command_of words ≡ None → index ≡ bad_index words → Goes a b (Says (refusal_text (BadWords index))) (Refuses (refusal_text (BadWords index)) 2 result) → Goes a b (RunsWords words t) (WordsWereRun words t result)
goes_no_command words t index result known none is goes = begins known goes
    (λ u w tree s. record {
      runs = λ given gave shown counts may. subst (λ (a : Answer). Runs a u w) (no_answer words index given none is shown) (runs given.held u w s);
      changes = λ known. alter_untouched s.untouched;
      rests = λ change. absurd (subst IsChange none change);
      untouched = λ why. s.untouched;
    })
    (λ u w tree s e. record {
      ended = λ given gave shown counts may. subst (λ (a : Answer). WasRun given.held a result u w) (no_answer words index given none is shown) (ran_refused given.held (refusal_answer (BadWords index)) (BadWords index) 2 result refl refl (refused_at_once given.held (BadWords index) u) (runs given.held u w s) e);
      given = λ answered given gave. counts_constant (answer words given) (shows u) (λ shown other. sym (no_answer words index given none is other) ∙ no_answer words index given none is shown);
      made = λ done. subst (λ (o : Option Command). MadeFor o t.left u w) (sym none) tt;
    })
  where
    runs : (held : Holdings) (u w : View) → Says (refusal_text (BadWords index)) u w → Runs (refusal_answer (BadWords index)) u w
    runs held u w s = refusing held (refusal_answer (BadWords index)) (BadWords index) refl (begun (refusal_answer (BadWords index)) unchanged (λ why. not_touched)) (refused_at_once held (BadWords index) u).completes s

-- out of memory for the words
pub goes_unread : {a : Option Moments} (words : List (List ℕ)) (t : Told) → IsTold a → Goes a a (RunsWords words t) (WordsWereRun words t 6)
goes_unread words t known = stays known
    (λ u. record {
      runs = λ given gave shown counts may. begun (answer words given shown) unchanged (λ why. not_touched);
      changes = λ known. alter_not;
      rests = λ change given gave shown counts may rest idle. still_not;
      untouched = λ why. not_touched;
    })
    (λ u tree. record {
      ended = λ given gave shown counts may. ran_halted given.held (answer words given shown) 6 (omega arith) (begun (answer words given shown) unchanged (λ why. not_touched)) (stood (answer words given shown) unchanged);
      given = λ answered given gave. absurd (not_answered 6 (omega arith) answered);
      made = λ done. absurd (let is : 6 ≡ 0 = done in omega (arith, is));
    })

-- and nothing was taken of the input
pub took_nothing : (o : Option Command) (left : Option (List ℕ)) → WasTaken o 6 left left
took_nothing None left = refl
took_nothing (Some command) left = (λ reads answered. absurd (not_answered 6 (omega arith) answered), λ none. refl)

-- it is an end of each command, and of words that are none
pub starves : (o : Option Command) → IsOfWords o 6
starves None = inr (inr refl)
starves (Some command) = inr (inr (inr (inr (inr refl))))
