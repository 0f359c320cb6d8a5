-- A command that shows its input.
use Rattle.std.proofs.Common.{◌≡◌, ℕ, List, IsErrOf, Option, Some, Result, Ok, Err, IsErrAnd, refl, sym, ◌∙◌, ap, subst}
use Rattle.fp_host.specs.Paths.{Elements}
use Rattle.fp_host.specs.View.{View}
use Rattle.fp_host.specs.Outcome.{shows}
use Rattle.fp_host.specs.Causes.{IsCaused}
use Rattle.fp_host.specs.Moments.{Moments, Goes}
use Rattle.fp_host.specs.declared.host.HostEnd.{HostEnd}
use Rattle.fp_host.specs.declared.host.HostEnd.TheVariants as host
use Rattle.fp_host.proofs.Framed.{IsTold}
use Rattle.fp_host.proofs.Goes.{begins}
use Rattle.fl_words.specs.declared.command.Command.{Command}
use Rattle.fl_change.specs.World.{World}
use Rattle.fl_change.specs.Answer.{Answer, text_answer}
use Rattle.fl_top.specs.Answer.{Given, shown_by, answer_over}
use Rattle.fl_top.specs.Moment.{Runs, RunsCommand}
use Rattle.fl_top.specs.Return.{Stands, CommandHasEnded, Closed}
use Rattle.fl_top.specs.Told.{Told, IsGivenTo, HasCauses}
use Rattle.fl_change.specs.Says.{Says, SaidBy}
use Rattle.fl_words.specs.declared.command.Command.TheVariants.{Show as Showing}
use Rattle.fl_words.specs.declared.command.Shown.{Shown}
use Rattle.fl_top.specs.Input.{IsWhole}
use Rattle.fl_change.specs.Ends.{end_of_host}
use Rattle.fl_top.specs.Ends.{end_of_run, Prints}
use Rattle.fl_change.specs.declared.end.RunEnd.{RunEnd}
use Rattle.fl_change.specs.declared.end.RunEnd.TheVariants as run
use Rattle.fl_top.specs.declared.command_end.CommandEnd.{CommandEnd}
use Rattle.fl_top.specs.declared.command_end.CommandEnd.TheVariants.{Fault, RemoteFault}
use Rattle.fl_top.proofs.Altering.{alter_untouched}
use Rattle.fl_top.proofs.Starting.{unchanged, stood}
use Rattle.fl_top.proofs.Listed.{telling, tells}
use Rattle.fl_top.proofs.Over.{counts_constant}
use Rattle.fl_top.proofs.Finishing.{is_end, EndsEarly, refused_early, halted_early, ByInput, read_is}
use Rattle.fp_host.specs.Remote.{Holdings}

-- ---- its answer

abbrev pub show_by : Shown → Given → Result World Elements → List ℕ → Answer
show_by thing given shown bytes = shown_by thing bytes

pub show_input : (thing : Shown) → ByInput (Showing thing) (show_by thing)
show_input thing = record { reads = refl; is = λ given shown. refl }

-- the answer to it, whose bytes were read
shown_is : (thing : Shown) (t : Told) (bytes : List ℕ) → IsWhole t.left bytes → (given : Given) → IsGivenTo (Showing thing) t given → (shown : Result World Elements) → shown_by thing bytes ≡ answer_over (Showing thing) given shown
shown_is thing t bytes whole given gave shown = read_is (Showing thing) (show_by thing) (show_input thing) t bytes whole given gave shown

-- ---- where nothing is printed

-- it isn't what was asked for
pub show_ends : (thing : Shown) (t : Told) (bytes : List ℕ) (e : RunEnd) → IsWhole t.left bytes → Prints (shown_by thing bytes) (Err e) → (given : Given) → IsGivenTo (Showing thing) t given → EndsEarly (Showing thing) given (end_of_run e)
show_ends thing t bytes (run.Refused refusal) whole prints given gave = refused_early (Showing thing) given refusal (λ shown. sym prints ∙ shown_is thing t bytes whole given gave shown)
show_ends thing t bytes run.Fault whole prints given gave = absurd prints
show_ends thing t bytes run.RemoteFault whole prints given gave = absurd prints
show_ends thing t bytes run.NoMemory whole prints given gave = halted_early (Showing thing) given

-- and no call of the host failed
pub no_fault : (thing : Shown) (bytes : List ℕ) (e : RunEnd) (r : Result (Unit {0}) CommandEnd) → Prints (shown_by thing bytes) (Err e) → IsErrAnd r (λ end. end ≡ end_of_run e) → IsErrOf r Fault → ⊥
no_fault thing bytes e r shown err fault = of_run e shown (let both : Err (end_of_run e) ≡ Err Fault = sym (is_end r (end_of_run e) err) ∙ fault in cc both)
  where
    of_run : (e : RunEnd) → Prints (shown_by thing bytes) (Err e) → end_of_run e ≡ Fault → ⊥
    of_run (run.Refused refusal) shown same = cc same
    of_run run.Fault shown same = shown
    of_run run.RemoteFault shown same = cc same
    of_run run.NoMemory shown same = cc same

-- ---- what is printed

runs_shown : (thing : Shown) (t : Told) (bytes text : List ℕ) → IsWhole t.left bytes → shown_by thing bytes ≡ text_answer text → (u w : View) → Says text u w → RunsCommand (Showing thing) t u w
runs_shown thing t bytes text whole shown u w said = record {
  runs = λ given gave image counts may. subst (λ (a : Answer). Runs a u w) (sym shown ∙ shown_is thing t bytes whole given gave image) (telling text said);
  changes = λ known. alter_untouched said.untouched;
  rests = λ change. absurd (cc change);
  untouched = λ why. said.untouched;
}

closed_said : (held : Holdings) (text : List ℕ) (a : Answer) (r : Result (Unit {0}) HostEnd) (e : HostEnd) (u w : View) → r ≡ Err e → SaidBy text r u w → Closed held a (Err (end_of_run (end_of_host e))) u w
closed_said held text a r host.Fault u w is said = tt
closed_said held text a r host.NoMemory u w is said = let same : w ≡ u = subst (λ (x : Result (Unit {0}) HostEnd). SaidBy text x u w) is said in subst (λ (x : View). Stands a u x) (sym same) (stood a unchanged)

pub goes_shown : {a b : Option Moments} (thing : Shown) (t : Told) (bytes text : List ℕ) → IsTold a → IsWhole t.left bytes → shown_by thing bytes ≡ text_answer text
    → Goes a b (Says text) (SaidBy text (Ok tt)) → Goes a b (RunsCommand (Showing thing) t) (CommandHasEnded (Showing thing) t (Ok tt))
goes_shown thing t bytes text known whole shown goes = begins known goes
    (λ u w tree says. runs_shown thing t bytes text whole shown u w says)
    (λ u w tree says said. record {
      ended = λ given gave image counts may. subst (λ (a : Answer). Closed given.held a (Ok tt) u w) (sym shown ∙ shown_is thing t bytes whole given gave image) (refl, tells given.held text said);
      given = λ by given gave. counts_constant (answer_over (Showing thing) given) (shows u) (λ image other. refl);
      made = tt;
    })

pub goes_not_shown : {a b : Option Moments} (thing : Shown) (t : Told) (bytes text : List ℕ) (s : Result (Unit {0}) HostEnd) (e : HostEnd) (r : Result (Unit {0}) CommandEnd) → IsTold a → IsWhole t.left bytes → shown_by thing bytes ≡ text_answer text
    → s ≡ Err e → Goes a b (Says text) (SaidBy text s) → IsErrAnd r (λ end. end ≡ end_of_run (end_of_host e)) → Goes a b (RunsCommand (Showing thing) t) (CommandHasEnded (Showing thing) t r)
goes_not_shown {a = a} {b = b} thing t bytes text s e r known whole shown was goes err =
    subst (λ (x : Result (Unit {0}) CommandEnd). Goes a b (RunsCommand (Showing thing) t) (CommandHasEnded (Showing thing) t x)) (sym (is_end r (end_of_run (end_of_host e)) err))
    (begins known goes
    (λ u w tree says. runs_shown thing t bytes text whole shown u w says)
    (λ u w tree says said. record {
      ended = λ given gave image counts may. closed_said given.held text (answer_over (Showing thing) given image) s e u w was said;
      given = λ by given gave. counts_constant (answer_over (Showing thing) given) (shows u) (λ image other. refl);
      made = tt;
    }))

-- a fault of the command is one of the host
pub said_fault : (s : Result (Unit {0}) HostEnd) (r : Result (Unit {0}) CommandEnd) (e : HostEnd) → s ≡ Err e → IsErrAnd r (λ end. end ≡ end_of_run (end_of_host e)) → IsErrOf r Fault → IsErrOf s host.Fault
said_fault s r e was err fault = was ∙ ap (λ (x : HostEnd). Err x) (of_host e (let both : Err (end_of_run (end_of_host e)) ≡ Err Fault = sym (is_end r (end_of_run (end_of_host e)) err) ∙ fault in cc both))
  where
    of_host : (e : HostEnd) → end_of_run (end_of_host e) ≡ Fault → e ≡ host.Fault
    of_host host.Fault same = refl
    of_host host.NoMemory same = absurd (cc same)

pub show_causes : {a : Option Moments} {F : Type 0} {before now : ℕ} (command : Command) → IsCaused F a (λ v. Unit {0}) before now → IsCaused F a (HasCauses (Some command)) before now
show_causes command cause = record { later = cause.later; fault = λ is m told serves. cause.fault is m told tt }

-- and no call of the remotes
pub no_remote : (thing : Shown) (bytes : List ℕ) (e : RunEnd) (r : Result (Unit {0}) CommandEnd) → Prints (shown_by thing bytes) (Err e) → IsErrAnd r (λ end. end ≡ end_of_run e) → IsErrOf r RemoteFault → ⊥
no_remote thing bytes e r shown err fault = of_run e shown (let both : Err (end_of_run e) ≡ Err RemoteFault = sym (is_end r (end_of_run e) err) ∙ fault in cc both)
  where
    of_run : (e : RunEnd) → Prints (shown_by thing bytes) (Err e) → end_of_run e ≡ RemoteFault → ⊥
    of_run (run.Refused refusal) shown same = cc same
    of_run run.Fault shown same = shown
    of_run run.RemoteFault shown same = shown
    of_run run.NoMemory shown same = cc same

pub said_remote : (r : Result (Unit {0}) CommandEnd) (e : HostEnd) → IsErrAnd r (λ end. end ≡ end_of_run (end_of_host e)) → IsErrOf r RemoteFault → ⊥
said_remote r e err fault = of_host e (let both : Err (end_of_run (end_of_host e)) ≡ Err RemoteFault = sym (is_end r (end_of_run (end_of_host e)) err) ∙ fault in cc both)
  where
    of_host : (e : HostEnd) → end_of_run (end_of_host e) ≡ RemoteFault → ⊥
    of_host host.Fault same = cc same
    of_host host.NoMemory same = cc same
