-- The store is checked, and what is found is printed.
use Rattle.std.proofs.Common.{◌≡◌, inl, inr, ◌≤◌, ℕ, List, [], true, false, Option, Some, Result, Ok, Err, IsErrAnd, IsErrOf, refl, sym, ◌∙◌, ap, subst}
use Rattle.fp_host.specs.View.{View}
use Rattle.fp_host.specs.Paths.{Elements}
use Rattle.fp_host.specs.Outcome.{shows}
use Rattle.fp_host.specs.Calls.{says, Step}
use Rattle.fp_host.specs.Causes.{end_of, IsCaused, IsCounted}
use Rattle.fp_host.specs.Moments.{Moments, Makes, Goes, HasCause}
use Rattle.fp_host.proofs.Cause.{caused, clash_step, passed_on}
use Rattle.fp_host.specs.Frame.{AtEnd, Unchanged}
use Rattle.fp_host.specs.declared.host.HostError.{HostError}
use Rattle.fp_host.specs.declared.host.HostError.TheVariants as error
use Rattle.fp_host.specs.declared.host.HostEnd.{HostEnd}
use Rattle.fp_host.specs.declared.host.HostEnd.TheVariants as host
use Rattle.fp_host.proofs.Framed.{IsTold}
use Rattle.fp_host.proofs.Goes.{begins, goes_on, knowing, makes_goes}
use Rattle.fp_host.proofs.Ending.{goes_known, ends_both, ends_looks}
use Rattle.fp_small.specs.Places.{repo}
use Rattle.fp_small.specs.declared.state.State.{State}
use Rattle.ost_store.specs.Names.{CanList}
use Rattle.ost_fsck.specs.declared.report.Report.{Report}
use Rattle.ost_fsck.proofs.Single.{one_report}
use Rattle.dep_states.specs.Shown.{Shows}
use Rattle.dep_open.specs.Open.{Reads}
use Rattle.dep_open.specs.declared.open_end.OpenEnd.{OpenEnd}
use Rattle.dep_open.specs.declared.open_end.OpenEnd.TheVariants as open_end
use Rattle.fl_words.specs.declared.command.Command.{Command}
use Rattle.fl_words.specs.declared.command.Command.TheVariants.{Fsck}
use Rattle.fl_change.specs.World.{World}
use Rattle.fl_change.specs.Answer.{Answer, text_answer}
use Rattle.fl_change.specs.Ends.{end_of_host, end_of_open}
use Rattle.fl_change.specs.Says.{Says, WasSaid}
use Rattle.fl_change.specs.declared.end.RunEnd.{RunEnd}
use Rattle.fl_change.specs.declared.end.RunEnd.TheVariants as run
use Rattle.fl_change.proofs.Saying.{says_step, was_said}
use Rattle.fl_change.proofs.Changing.{same_untouched}
use Rattle.fl_top.proofs.Altering.{alter_untouched}
use Rattle.fl_change.proofs.Working.{is_err}
use Rattle.fl_top.specs.Answer.{Given, shown_answer, checked, IsOver}
use Rattle.fl_top.specs.Fsck.{report_text, Finds, HasReport, IsListable, IsReportText}
use Rattle.fl_top.specs.Status.{checks_store}
use Rattle.fl_top.specs.Ends.{end_of_run}
use Rattle.fl_top.specs.Moment.{Runs, RunsCheck, RunsCommand}
use Rattle.fl_top.specs.Told.{Told, IsGivenTo, Checks}
use Rattle.fl_top.specs.Return.{Ended, Closed, CheckHasEnded, CommandHasEnded, IsGivenBy, IsClosedBy}
use Rattle.fl_top.specs.declared.command_end.CommandEnd.{CommandEnd}
use Rattle.fl_top.proofs.Starting.{begun, look_not_open, halted_look}
use Rattle.fl_top.proofs.Over.{over_is, counts_shown, not_shown}
use Rattle.fl_top.proofs.Listed.{reads_opened, keeping, telling, tells}
use Rattle.fl_top.proofs.Looking.{still_check}
use Rattle.fl_top.proofs.Finishing.{is_end, closed, given_by, made_where}
use Rattle.fp_host.specs.Remote.{Holdings}

-- ---- the state is read first

nothing_checked : {u w : View} → w ≡ u → RunsCheck u w
nothing_checked same = still_check (λ report finds shown counts. begun (shown_answer (checked report) shown) (keeping same) (λ why. same_untouched same)) (same_untouched same)

-- a store that isn't looked at has each report
unread_found : (e : OpenEnd) (u : View) → Reads u (Err e) → IsGivenBy (Err (end_of_open e)) → HasReport (shows u)
unread_found (open_end.Damaged path) u is by = (record { findings = []; objects = 0 }, inr (not_shown is))
unread_found open_end.Fault u is by = absurd by
unread_found open_end.NoMemory u is by = absurd by

unread : (e : OpenEnd) {u w : View} → w ≡ u → Reads u (Err e) → CheckHasEnded (Err (end_of_open e)) u w
unread e {u = u} {w = w} same is = record {
  ended = λ report finds. (look_not_open (checked report) e (keeping same) (reads_opened e u w is)).ended;
  given = λ by. record { found = unread_found e u is by; counts = λ report. (look_not_open (checked report) e (keeping same) (reads_opened e u w is)).given by };
  made = tt;
}

pub goes_unread : {a b : Option Moments} (e : OpenEnd) (r : Result (Unit {0}) RunEnd) → IsTold a → Unchanged a b → AtEnd (λ u w. Reads u (Err e)) a b → IsErrAnd r (λ end. end ≡ end_of_open e) → Goes a b RunsCheck (CheckHasEnded r)
goes_unread {a = a} {b = b} e r known still tell is =
    subst (λ (x : Result (Unit {0}) RunEnd). Goes a b RunsCheck (CheckHasEnded x)) (sym (is_err r (end_of_open e) is))
    (begins known (goes_known still.goes tell) (λ u w t same. nothing_checked same) (λ u w t same q. unread e q.0.0 q.1))

-- ---- then the store

module _ (s : State) where
  opened : {a b : Option Moments} → IsTold a → Unchanged a b → AtEnd (λ u w. Reads u (Ok s)) a b → Goes a b RunsCheck (λ u w. (w ≡ u) × Shows (shows u) s)
  opened known still tell = begins known (goes_known still.goes tell) (λ u w t same. nothing_checked same) (λ u w t same q. (q.0.0, q.1))

  -- the host failed, or there was no memory
  no_report : (e : HostEnd) {u w : View} → w ≡ u → CheckHasEnded (Err (end_of_host e)) u w
  no_report host.Fault same = record { ended = λ report finds shown counts held. tt; given = λ by. absurd by; made = tt }
  no_report host.NoMemory same = record {
    ended = λ report finds. (halted_look (checked report) (keeping same)).ended;
    given = λ by. absurd by;
    made = tt;
  }

  pub goes_not_checked : {a b c : Option Moments} (e : HostEnd) (r : Result (Unit {0}) RunEnd) → IsTold a → IsTold b → Unchanged a b → AtEnd (λ u w. Reads u (Ok s)) a b → Unchanged b c → IsErrAnd r (λ end. end ≡ end_of_host e) → Goes a c RunsCheck (CheckHasEnded r)
  goes_not_checked {a = a} {c = c} e r known known_b still tell quiet is =
      subst (λ (x : Result (Unit {0}) RunEnd). Goes a c RunsCheck (CheckHasEnded x)) (sym (is_err r (end_of_host e) is))
      (goes_on known_b (opened known still tell) quiet.goes (λ u v w t p q n. nothing_checked (n ∙ q.0)) (λ u v w t p q n l. no_report e (l.0 ∙ q.0)))

  -- ---- and it is printed

  module _ (text : List ℕ) where
    record HasChecked (u w : View) : Type 0 where
      same : w ≡ u
      shown : Shows (shows u) s
      read : IsReportText (shows u) text

    all_checked : {a b c : Option Moments} → IsTold a → IsTold b → Unchanged a b → AtEnd (λ u w. Reads u (Ok s)) a b → Unchanged b c → AtEnd (λ u w. IsReportText (shows u) text) b c → Goes a c RunsCheck HasChecked
    all_checked known known_b still tell quiet tells =
        goes_on known_b (opened known still tell) (goes_known quiet.goes tells)
        (λ u v w t p q n. nothing_checked (n ∙ q.0))
        (λ u v w t p q n l. record { same = l.0.0 ∙ q.0; shown = q.1; read = subst (λ (x : View). IsReportText (shows x) text) q.0 l.1 })

    -- it is the text of each report
    text_is : {u v : View} → HasChecked u v → (report : Report) → Finds (shows u) report → text ≡ report_text report
    text_is {u = u} q report finds = elim finds [
      | inl reports ↦ q.read.is ∙ ap report_text (one_report repo (shows u) q.read.report report q.read.reports reports)
      | inr none ↦ absurd (none s q.shown)
    ]

    answer_is : {u v : View} → HasChecked u v → (report : Report) → Finds (shows u) report → (shown : Result World Elements) → IsOver (shown_answer (checked report)) (shows u) shown → text_answer text ≡ shown_answer (checked report) shown
    answer_is {u = u} q report finds shown counts = ap text_answer (text_is q report finds) ∙ sym (over_is (checked report) (shows u) shown s q.shown counts)

    is_told : {u v w : View} → HasChecked u v → Says text v w → RunsCheck u w
    is_told {u = u} {w = w} q says_it =
        let from : Says text u w = subst (λ (x : View). Says text x w) q.same says_it in
        still_check (λ report finds shown counts. subst (λ (a : Answer). Runs a u w) (answer_is q report finds shown counts) (telling text from)) from.untouched

    was_told : {u v w : View} → HasChecked u v → WasSaid text v w → CheckHasEnded (Ok tt) u w
    was_told {u = u} {w = w} q said_it = record {
      ended = λ report finds shown counts held. subst (λ (a : Answer). Ended held a (Ok tt) u w) (answer_is q report finds shown counts) (refl, tells held text (subst (λ (x : View). WasSaid text x w) q.same said_it));
      given = λ by. record { found = (q.read.report, inl q.read.reports); counts = λ report. counts_shown (shown_answer (checked report)) (shows u) s q.shown };
      made = tt;
    }

    not_told : (e : HostError) (u v w : View) → Step (says text) (Err e) v w → CheckHasEnded (Err (end_of_host (end_of e))) u w
    not_told error.Failed u v w step = record { ended = λ report finds shown counts held. tt; given = λ by. absurd by; made = tt }
    not_told error.Clash u v w step = record { ended = λ report finds shown counts held. tt; given = λ by. absurd by; made = tt }
    not_told error.NoMemory u v w step = absurd step.how

    pub goes_not_told : {a b c d : Option Moments} (e : HostError) (r : Result (Unit {0}) RunEnd) → IsTold a → IsTold b → IsTold c → Unchanged a b → AtEnd (λ u w. Reads u (Ok s)) a b → Unchanged b c → AtEnd (λ u w. IsReportText (shows u) text) b c
        → Makes (Step (says text) (Err e)) c d → IsErrAnd r (λ end. end ≡ end_of_host (end_of e)) → Goes a d RunsCheck (CheckHasEnded r)
    goes_not_told {a = a} {d = d} e r known known_b known_c still tell quiet tells call err =
        subst (λ (x : Result (Unit {0}) RunEnd). Goes a d RunsCheck (CheckHasEnded x)) (sym (is_err r (end_of_host (end_of e)) err))
        (goes_on known_c (all_checked known known_b still tell quiet tells) (makes_goes call) (λ u v w t p q step. is_told q (says_step step)) (λ u v w t p q step last. not_told e u v w last))

    pub goes_told : {a b c d : Option Moments} → IsTold a → IsTold b → IsTold c → Unchanged a b → AtEnd (λ u w. Reads u (Ok s)) a b → Unchanged b c → AtEnd (λ u w. IsReportText (shows u) text) b c
        → Makes (Step (says text) (Ok tt)) c d → Goes a d RunsCheck (CheckHasEnded (Ok tt))
    goes_told known known_b known_c still tell quiet tells call =
        goes_on known_c (all_checked known known_b still tell quiet tells) (makes_goes call) (λ u v w t p q step. is_told q (says_step step)) (λ u v w t p q step last. was_told q (was_said last))

-- ---- as a command

-- what the command is given is found in the store
abbrev IsFoundIn : Told → View → Type 0
IsFoundIn t u = (given : Given) → IsGivenTo Fsck t given → Finds (shows u) given.report

found_in : (t : Told) (m : Moments) → t.moments ≡ Some m → IsFoundIn t m.now
found_in t m is given gave = elim gave.report [
  | inl none ↦ absurd (let both : true ≡ false = none in cc both)
  | inr found ↦ found m is
]

runs_checked : (t : Told) (u w : View) → IsFoundIn t u → RunsCheck u w → RunsCommand Fsck t u w
runs_checked t u w found p = record {
  runs = λ given gave shown counts may. p.runs given.report (found given gave) shown counts given.held;
  changes = λ known. alter_untouched (p.untouched tt);
  rests = λ change. absurd (cc change);
  untouched = λ why. p.untouched tt;
}

ended_checked : (t : Told) (r : Result (Unit {0}) RunEnd) (s : Result (Unit {0}) CommandEnd) (u w : View) → ((held : Holdings) (a : Answer) → Ended held a r u w → Closed held a s u w) → (IsClosedBy s → IsGivenBy r) → IsFoundIn t u → CheckHasEnded r u w → CommandHasEnded Fsck t s u w
ended_checked t r s u w close give found q = record {
  ended = λ given gave shown counts may. close given.held (shown_answer (checked given.report) shown) (q.ended given.report (found given gave) shown counts given.held);
  given = λ by given gave. (q.given (give by)).counts given.report;
  made = made_where s Fsck t.left u w tt;
}

pub goes_check : {a b : Option Moments} (t : Told) → t.moments ≡ a → Goes a b RunsCheck (CheckHasEnded (Ok tt)) → Goes a b (RunsCommand Fsck t) (CommandHasEnded Fsck t (Ok tt))
goes_check {a = a} t at goes = knowing {P = IsFoundIn t} (λ m is. found_in t m (at ∙ is)) goes
    (λ u w found p. runs_checked t u w found p)
    (λ u w found q. ended_checked t (Ok tt) (Ok tt) u w (λ held x e. e) (λ by. by) found q)

pub goes_not_check : {a b : Option Moments} (t : Told) (e : RunEnd) (r : Result (Unit {0}) CommandEnd) → t.moments ≡ a → Goes a b RunsCheck (CheckHasEnded (Err e)) → IsErrAnd r (λ end. end ≡ end_of_run e) → Goes a b (RunsCommand Fsck t) (CommandHasEnded Fsck t r)
goes_not_check {a = a} {b = b} t e r at goes err =
    subst (λ (x : Result (Unit {0}) CommandEnd). Goes a b (RunsCommand Fsck t) (CommandHasEnded Fsck t x)) (sym (is_end r (end_of_run e) err))
    (knowing {P = IsFoundIn t} (λ m is. found_in t m (at ∙ is)) goes
    (λ u w found p. runs_checked t u w found p)
    (λ u w found q. ended_checked t (Err e) (Err (end_of_run e)) u w (λ held x k. closed held x e u w k) (given_by e) found q))

-- ---- what is found, and by which command

pub not_checks : (command k : Command) → command ≡ k → checks_store k ≡ false → Checks (Some command) → ⊥
not_checks command k is none checks = let both : true ≡ false = sym checks ∙ ap checks_store is ∙ none in cc both

-- ---- why it fails

run_of_open : (e : OpenEnd) → end_of_open e ≡ run.Fault → e ≡ open_end.Fault
run_of_open (open_end.Damaged path) same = absurd (cc same)
run_of_open open_end.Fault same = refl
run_of_open open_end.NoMemory same = absurd (cc same)

run_of_host : (e : HostEnd) → end_of_host e ≡ run.Fault → e ≡ host.Fault
run_of_host host.Fault same = refl
run_of_host host.NoMemory same = absurd (cc same)

-- the end of a run that this end of a part was passed on as
passed : (r : Result (Unit {0}) RunEnd) (end : RunEnd) → IsErrAnd r (λ x. x ≡ end) → IsErrOf r run.Fault → end ≡ run.Fault
passed r end err is = let both : Err end ≡ Err run.Fault = sym (is_err r end err) ∙ is in cc both

-- the state wasn't read
pub open_caused : {T : Type 0} {a : Option Moments} (fa fb : ℕ) (q : Result T OpenEnd) (e : OpenEnd) (r : Result (Unit {0}) RunEnd) → q ≡ Err e → IsErrAnd r (λ end. end ≡ end_of_open e) → IsCounted (IsErrOf q open_end.Fault) a fa fb → IsCaused (IsErrOf r run.Fault) a IsListable fa fb
open_caused fa fb q e r was err cause = record { later = cause.later; fault = λ is m at can. cause.fault (was ∙ ap (λ (x : OpenEnd). Err x) (run_of_open e (passed r (end_of_open e) err is))) m at tt }

-- the store wasn't
pub list_caused : {T : Type 0} {a b : Option Moments} (s : State) (fa fb fc : ℕ) (q : Result T HostEnd) (e : HostEnd) (r : Result (Unit {0}) RunEnd) → IsTold a → fa ≤ fb → Unchanged a b → AtEnd (λ u w. Reads u (Ok s)) a b → q ≡ Err e → IsErrAnd r (λ end. end ≡ end_of_host e)
    → IsCaused (IsErrOf q host.Fault) b (CanList repo) fb fc → IsCaused (IsErrOf r run.Fault) a IsListable fa fc
list_caused s fa fb fc q e r known le still tell was err cause =
    passed_on (IsErrOf r run.Fault) (IsErrOf q host.Fault) IsListable (CanList repo) fa fb fc known le (ends_both (ends_looks known still) tell) cause
    (λ is. was ∙ ap (λ (x : HostEnd). Err x) (run_of_host e (passed r (end_of_host e) err is)))
    (λ u v tree p can. elim can [
      | inl list ↦ subst (CanList repo) (sym p.0.0) list
      | inr none ↦ absurd (none s p.1)
    ])

-- the text wasn't printed
pub said_caused : {a b c : Option Moments} {Q : View → View → Type 0} (text : List ℕ) (fa fb fc : ℕ) (e : HostError) (r : Result (Unit {0}) RunEnd) → IsTold a → fa ≤ fb → AtEnd Q a b → Makes (Step (says text) (Err e)) b c → HasCause {T = Unit {0}} b fb fc (Err e)
    → IsErrAnd r (λ end. end ≡ end_of_host (end_of e)) → IsCaused (IsErrOf r run.Fault) a IsListable fa fc
said_caused text fa fb fc e r known le first call cause err =
    caused {T = Unit {0}} (IsErrOf r run.Fault) IsListable (λ v. Unit {0}) fa fb fc e known le first call cause
    (λ is. run_of_host (end_of e) (passed r (end_of_host (end_of e)) err is))
    (λ v w step clash can. clash_step step clash tt) (λ u v tree p can. tt)
