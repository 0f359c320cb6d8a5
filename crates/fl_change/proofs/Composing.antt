-- The parts of one operation.
use Rattle.std.proofs.Common.{◌≡◌, ◌⊎◌, inl, inr, ℕ, List, Bool, true, Option, Some, None, Result, Ok, Err, IsErrOf, OnOk, refl, sym, ◌∙◌, ap, subst, arith}
use Rattle.fp_host.specs.Calls.{says, Step}
use Rattle.fp_host.specs.Causes.{IsCaused, end_of}
use Rattle.fp_host.specs.Frame.{AtEnd}
use Rattle.fp_host.specs.Moments.{Moments, Goes, Always, Makes, Rose, HasCause}
use Rattle.fp_host.specs.Remote.{Holdings, nothing as no_entry}
use Rattle.fp_host.specs.View.{View, IsTree}
use Rattle.fp_host.specs.declared.host.HostError.{HostError}
use Rattle.fp_host.specs.declared.host.HostError.TheVariants as error
use Rattle.fp_host.specs.declared.host.HostEnd.{HostEnd}
use Rattle.fp_host.specs.declared.host.HostEnd.TheVariants as host
use Rattle.fp_host.proofs.Cause.{clash_step}
use Rattle.fp_host.proofs.Framed.{IsTold}
use Rattle.fp_host.proofs.Goes.{makes_goes, ends_tree}
use Rattle.fp_host.proofs.Ending.{goes_known}
use Rattle.fp_small.specs.declared.state.State.{State}
use Rattle.fp_small.specs.declared.op.Op.{Op}
use Rattle.fp_small.specs.declared.refusal.Refusal.{Refusal}
use Rattle.ost_walk.specs.Ends.{Outside}
use Rattle.dep_states.specs.After.{Done, May, plain, state_after}
use Rattle.dep_states.specs.Effects.{Effect, effect_of, BringsCommit, brings, writes}
use Rattle.dep_states.specs.Sound.{Opens}
use Rattle.dep_tidy.specs.Tidy.{Tidies}
use Rattle.op_change.specs.Bringing.{AreTold}
use Rattle.op_change.specs.Applied.{Brings, have_for, op_refusal, AppliesWith, Applies, WasApplied}
use Rattle.op_change.specs.Attempts.{Attempts}
use Rattle.op_change.specs.declared.ending.ApplyEnd.{ApplyEnd}
use Rattle.op_change.specs.declared.ending.ApplyEnd.TheVariants as applies
use Rattle.op_change.proofs.Brings.{true_now}
use Rattle.op_change.proofs.Pulling.{true_files}
use Rattle.fl_lines.specs.Lines.{op_text}
use Rattle.fl_change.specs.World.{world_at, supplied}
use Rattle.fl_change.specs.Answer.{ops_of, done_answer, unless, has_acted}
use Rattle.fl_change.specs.Ends.{end_of_host, end_of_apply}
use Rattle.fl_change.specs.Performs.{Acted, PerformsOver, PerformedOver, AsksBy, OpensBy, ChangesFrom, Works, Acts, Rests, Just, done_of, WasDoneBy, DoneOver, WasTidiedAfter}
use Rattle.fl_change.specs.Refs.{op_over}
use Rattle.fl_change.specs.Says.{Says, WasSaid}
use Rattle.fl_change.specs.declared.end.RunEnd.{RunEnd}
use Rattle.fl_change.specs.declared.end.RunEnd.TheVariants.{Refused, Fault, RemoteFault, NoMemory}
use Rattle.fl_change.proofs.Brought.{plainly}
use Rattle.fl_change.proofs.Changing.{applied_changes, tidied_changes, change_untouched}
use Rattle.fl_change.proofs.Doing.{Applied, applying, apply_refused, apply_halted, applied, saying, said, tidying, tidied, was_acted, untidied}
use Rattle.fl_change.proofs.Saying.{says_step, was_said}
use Rattle.fl_change.proofs.Same.{same_opens}
use Rattle.fl_change.proofs.Working.{goes_to, goes_first, IsFirst, works_as, works_on, opens_stayed}

-- ---- what an operation promises

-- a commit is brought, or none
by_effect : (e : Effect) → BringsCommit e ⊎ (BringsCommit e → ⊥)
by_effect (brings name origin commit) = inl tt
by_effect (writes write) = inr (λ b. b)

brings_or_not : (op : Op) → Brings op ⊎ (Brings op → ⊥)
brings_or_not op = by_effect (effect_of op)

-- the end of the operation is that of the work
remote_end : (e : ApplyEnd) → end_of_apply e ≡ RemoteFault → e ≡ applies.RemoteFault
remote_end (applies.Refused r) is = absurd (cc is)
remote_end applies.Fault is = absurd (cc is)
remote_end applies.RemoteFault is = refl
remote_end applies.NoMemory is = absurd (cc is)

host_end : (e : ApplyEnd) → end_of_apply e ≡ Fault → e ≡ applies.Fault
host_end (applies.Refused r) is = absurd (cc is)
host_end applies.Fault is = refl
host_end applies.RemoteFault is = absurd (cc is)
host_end applies.NoMemory is = absurd (cc is)

module _ (op : Op) (s : State) (u v : Outside) where
  -- what is answered over the objects that there are
  answers_at : {result : Result State ApplyEnd} → Attempts s op result u v → (held : Holdings) → u.holdings ≡ Some held → (x : View) → IsFirst u.told x → Opens s x → AppliesWith (have_for s op held x) s op result
  answers_at clauses held told x first opens = clauses.answers (have_for s op held x)
      (record {
        moments = first.0;
        held = held;
        told_is = first.1;
        holdings_are = told;
        is = ap (λ (y : View). have_for s op held y) (sym first.2);
      })
      (λ b. true_now first.0 first.1 (true_files (subst (Opens s) (sym first.2) opens)))

  performs_at : (x y : View) → Applies s op u.holdings x y → PerformsOver (Rests s) u.holdings (op_over op) s x y
  performs_at x y step = record { performs = λ held told rests. applying u.holdings held told op s rests step }

  changes_at : (x y : View) → Applies s op u.holdings x y → ChangesFrom (Just op) s x y
  changes_at x y step ready = applied_changes s op x y refl (step.changes (λ b. ready (op, refl, b)))

  opens_of : (t : State) → Attempts s op (Ok t) u v → (AsksBy (Just op) → AreTold u.holdings) → (x y : View) → IsFirst u.told x → WasApplied s op u.holdings x y → OpensBy s (Ok t) x y
  opens_of t clauses known x y first was opens = elim (brings_or_not op) [
    | inl b ↦
        let told = known (op, refl, b) in
        let a = answers_at clauses told.0 told.1 x first opens in
        subst (λ (z : State). Opens z y) (sym a.1) (was.opens told.0 (λ b. told.1) opens)
    | inr none ↦
        let held : Holdings = λ url path. no_entry in
        let is : t ≡ state_after s (plain op) = clauses.plain none in
        subst (λ (z : State). Opens z y) (ap (state_after s) (plainly (have_for s op held x) op none).done ∙ sym is) (was.opens held (λ b. absurd (none b)) opens)
  ]

  -- ---- it is done

  abbrev pub IsApplied : State → View → View → Type 0
  IsApplied t x y = (held : Holdings) → u.holdings ≡ Some held → Rests s x → Applied held op s t x y

  tree_at : IsTold u.told → (x : View) → IsFirst u.told x → IsTree x
  tree_at told x first = subst IsTree first.2 (told first.0 first.1)

  pub works_applied : (t : State) → May s op → IsTold u.told → IsTold v.told → Attempts s op (Ok t) u v → Works (Just op) s (PerformsOver (Rests s) u.holdings (op_over op) s) (IsApplied t) (Ok t) u v
  works_applied t may told_u told_v clauses = record {
    goes = goes_to in_trees (λ x y r. performs_at x y r.0)
        (λ x y q held told rests. applied u.holdings held told op s t may (tree_at told_u x q.0.1) q.1 rests q.0.0.0 q.0.0.1 (answers_at clauses held told x q.0.1 rests.opens));
    opens = λ known. record { goes = goes_to (goes_first (goes_known clauses.moments clauses.success)) (λ x y r. tt) (λ x y q. opens_of t clauses known x y q.1 q.0.1) };
    changes = λ known. goes_to clauses.moments changes_at changes_at;
    same = clauses.same;
    host = record { later = clauses.host.later; fault = λ is. absurd (cc is.1) };
    remote = record { later = clauses.remote.later; rose = λ is. absurd (cc is) };
    unasked = λ none. (clauses.unasked (λ b. none (op, refl, b)), λ is. cc is);
  }
    where
      in_trees : Goes u.told v.told (λ x y. Applies s op u.holdings x y × IsFirst u.told x)
          (λ x y. ((Applies s op u.holdings x y × WasApplied s op u.holdings x y) × IsFirst u.told x) × IsTree y)
      in_trees = ends_tree told_v (goes_first (goes_known clauses.moments clauses.success)) (λ x y tree q. (q, tree))

  -- ---- it isn't

  -- what is refused leaves the state
  opens_not : (e : ApplyEnd) → Attempts s op (Err e) u v → (AsksBy (Just op) → AreTold u.holdings) → (x y : View) → IsFirst u.told x → Applies s op u.holdings x y → OpensBy s (Err (end_of_apply e)) x y
  opens_not (applies.Refused r) clauses known x y first step = λ opens. elim (brings_or_not op) [
    | inl b ↦ let told = known (op, refl, b) in (s, step.refused told.0 (λ b. told.1) r (answers_at clauses told.0 told.1 x first opens) opens)
    | inr none ↦ absurd (clauses.plain none)
  ]
  opens_not applies.Fault clauses known x y first step = tt
  opens_not applies.RemoteFault clauses known x y first step = tt
  opens_not applies.NoMemory clauses known x y first step = tt

  -- where no commit is brought it is none of the remotes
  plain_end : Attempts s op (Err applies.RemoteFault) u v → (Brings op → ⊥) → ⊥
  plain_end clauses none = clauses.plain none

  not_applied : (Q : View → View → Type 0) (e : ApplyEnd) → Attempts s op (Err e) u v → Goes u.told v.told (PerformsOver (Rests s) u.holdings (op_over op) s) Q → Works (Just op) s (PerformsOver (Rests s) u.holdings (op_over op) s) Q (Err (end_of_apply e)) u v
  not_applied Q e clauses goes = record {
    goes = goes;
    opens = λ known. record { goes = goes_to (goes_first clauses.moments) (λ x y r. tt) (λ x y q. opens_not e clauses known x y q.1 q.0) };
    changes = λ known. goes_to clauses.moments changes_at changes_at;
    same = clauses.same;
    host = record {
      later = clauses.host.later;
      fault = λ is m told opens. clauses.host.fault ((λ b. is.0 (op, refl, b)), ap (λ (x : ApplyEnd). Err x) (host_end e (cc is.1))) m told opens;
    };
    remote = record { later = clauses.remote.later; rose = λ is. clauses.remote.rose (ap (λ (x : ApplyEnd). Err x) (remote_end e (cc is))) };
    unasked = λ none. (clauses.unasked (λ b. none (op, refl, b)), λ is. plain_end (subst (λ (x : ApplyEnd). Attempts s op (Err x) u v) (remote_end e (cc is)) clauses) (λ b. none (op, refl, b)));
  }

  pub works_not_applied : (e : ApplyEnd) → Attempts s op (Err e) u v → Works (Just op) s (PerformsOver (Rests s) u.holdings (op_over op) s) (DoneOver u.holdings op s (Err (end_of_apply e))) (Err (end_of_apply e)) u v
  works_not_applied (applies.Refused r) clauses = not_applied (DoneOver u.holdings op s (Err (Refused r))) (applies.Refused r) clauses
      (goes_to (goes_first (goes_known clauses.moments (clauses.refused r refl))) (λ x y p. performs_at x y p.0)
      (λ x y q. record { done = λ held told rests. apply_refused u.holdings held told op s rests r (answers_at clauses held told x q.1 rests.opens) q.0.0 q.0.1 }))
  works_not_applied applies.Fault clauses = not_applied (DoneOver u.holdings op s (Err Fault)) applies.Fault clauses
      (goes_to clauses.moments performs_at (λ x y q. record { done = λ held told rests. tt }))
  works_not_applied applies.RemoteFault clauses = not_applied (DoneOver u.holdings op s (Err RemoteFault)) applies.RemoteFault clauses
      (goes_to (goes_known clauses.moments (clauses.remote_fault refl)) performs_at
      (λ x y q. record { done = λ held told rests. apply_halted u.holdings held told op s rests q.0 (q.1.opens (held, told) rests.opens) }))
  works_not_applied applies.NoMemory clauses = not_applied (DoneOver u.holdings op s (Err NoMemory)) applies.NoMemory clauses
      (goes_to (goes_known clauses.moments (clauses.starved refl)) performs_at
      (λ x y q. record { done = λ held told rests. apply_halted u.holdings held told op s rests q.0 (q.1.opens (λ b. (held, told)) rests.opens) }))

-- ---- its line

-- what a call that prints tells
pub record Saying (piece : List ℕ) (result : Result (Unit {0}) HostError) (u v : Outside) : Type 0 where
  pub step : Makes (Step (says piece) result) u.told v.told
  pub cause : HasCause u.told u.host_faults v.host_faults result
  pub holdings : v.holdings ≡ u.holdings
  pub remote_faults : v.remote_faults ≡ u.remote_faults

says_as : (text : List ℕ) {piece : List ℕ} {r : Result (Unit {0}) HostError} {v w : View} → piece ≡ text → Step (says piece) r v w → Says text v w
says_as text {r = r} {v = v} {w = w} same step = says_step (subst (λ (l : List ℕ). Step (says l) r v w) same step)

says_changes : {May : Op → Type 0} (s : State) (text : List ℕ) {piece : List ℕ} {r : Result (Unit {0}) HostError} → piece ≡ text → (v w : View) → Step (says piece) r v w → ChangesFrom May s v w
says_changes s text same v w step ready = change_untouched (says_as text same step).untouched

-- a line that was said leaves the state
pub works_said : {May : Op → Type 0} (text : List ℕ) (t : State) (piece : List ℕ) {u v : Outside} → piece ≡ text → Saying piece (Ok tt) u v → Works May t (Says text) (WasSaid text) (Ok t) u v
works_said text t piece same call = record {
  goes = goes_to (makes_goes call.step) (λ x y r. says_as text same r) (λ x y q. was_said (subst (λ (l : List ℕ). Step (says l) (Ok tt) x y) same q));
  opens = λ known. record { goes = goes_to (makes_goes call.step) (λ x y r. tt) (λ x y q opens. same_opens (says_as text same q).follows opens) };
  changes = λ known. goes_to (makes_goes call.step) (says_changes t text same) (says_changes t text same);
  same = call.holdings;
  host = record { later = call.cause.later; fault = λ is. absurd (cc is.1) };
  remote = record { later = omega (arith, call.remote_faults); rose = λ is. absurd (cc is) };
  unasked = λ none. (call.remote_faults, λ is. cc is);
}

-- the host failed at it
line_rose : (piece : List ℕ) (e : HostError) {u v : Outside} → Saying piece (Err e) u v → end_of_host (end_of e) ≡ Fault → (m : Moments) → u.told ≡ Some m → Rose u.host_faults v.host_faults
line_rose piece error.Failed call is m told = call.cause.failed refl
line_rose piece error.Clash call is m told = let one = call.step.told m told in absurd (clash_step one.3 refl tt)
line_rose piece error.NoMemory call is m told = absurd (cc is)

-- it needs no memory
line_end : (piece : List ℕ) (e : HostError) (v w : View) → Step (says piece) (Err e) v w → end_of_host (end_of e) ≡ Fault
line_end piece error.Failed v w step = refl
line_end piece error.Clash v w step = refl
line_end piece error.NoMemory v w step = absurd step.how

no_remote : (e : HostError) → end_of_host (end_of e) ≡ RemoteFault → ⊥
no_remote error.Failed is = cc is
no_remote error.Clash is = cc is
no_remote error.NoMemory is = cc is

pub works_not_said : {May : Op → Type 0} (text : List ℕ) (t : State) (piece : List ℕ) (e : HostError) {u v : Outside} → piece ≡ text → Saying piece (Err e) u v → Works May t (Says text) (λ x y. end_of_host (end_of e) ≡ Fault) (Err (end_of_host (end_of e))) u v
works_not_said text t piece e same call = record {
  goes = goes_to (makes_goes call.step) (λ x y r. says_as text same r) (λ x y q. line_end piece e x y q);
  opens = λ known. record { goes = goes_to (makes_goes call.step) (λ x y r. tt) (λ x y q. opens_stayed t (end_of_host (end_of e)) (same_opens (says_as text same q).follows)) };
  changes = λ known. goes_to (makes_goes call.step) (says_changes t text same) (says_changes t text same);
  same = call.holdings;
  host = record { later = call.cause.later; fault = λ is m told opens. line_rose piece e call (cc is.1) m told };
  remote = record { later = omega (arith, call.remote_faults); rose = λ is. absurd (no_remote e (cc is)) };
  unasked = λ none. (call.remote_faults, λ is. no_remote e (cc is));
}

-- ---- the operation and its line

module _ (op : Op) (s t : State) (u v w : Outside) where
  while_said : (x y z : View) → IsApplied op s u v t x y → Says (op_text op) y z → PerformsOver (Rests s) u.holdings (op_over op) s x z
  while_said x y z q n = record { performs = λ held told rests. saying held op s t x (q held told rests) n }

  pub works_done : (piece : List ℕ) → May s op → IsTold u.told → IsTold v.told → piece ≡ op_text op → Attempts s op (Ok t) u v → Saying piece (Ok tt) v w → Works (Just op) s (PerformsOver (Rests s) u.holdings (op_over op) s) (DoneOver u.holdings op s (Ok t)) (Ok t) u w
  works_done piece may told_u told same clauses call = works_on told (works_applied op s u v t may told_u told clauses) (works_said (op_text op) t piece same call)
      (λ x y z p q n. while_said x y z q n)
      (λ x y z p q n l. record { done = λ held known rests. said held op s t x (q held known rests) l })

  pub works_silent : (piece : List ℕ) (e : HostError) → May s op → IsTold u.told → IsTold v.told → piece ≡ op_text op → Attempts s op (Ok t) u v → Saying piece (Err e) v w → Works (Just op) s (PerformsOver (Rests s) u.holdings (op_over op) s) (DoneOver u.holdings op s (Err (end_of_host (end_of e)))) (Err (end_of_host (end_of e))) u w
  works_silent piece e may told_u told same clauses call = works_on told (works_applied op s u v t may told_u told clauses) (works_not_said (op_text op) t piece e same call)
      (λ x y z p q n. while_said x y z q n)
      (λ x y z p q n l. subst (λ (r : RunEnd). DoneOver u.holdings op s (Err r) x z) (sym l) (record { done = λ held known rests. tt }))

-- ---- tidying

-- what a tidying tells, and in the end this
pub record Tidying (Q : View → View → Type 0) (s : State) (result : Result State HostEnd) (u v : Outside) : Type 0 where
  pub moments : Always (Tidies s) u.told v.told
  pub success : OnOk result (AtEnd Q u.told v.told)
  pub state : (t : State) → result ≡ Ok t → t ≡ s
  pub host : IsCaused (IsErrOf result host.Fault) u.told (Opens s) u.host_faults v.host_faults
  pub holdings : v.holdings ≡ u.holdings
  pub remote_faults : v.remote_faults ≡ u.remote_faults

tidy_changes : {May : Op → Type 0} (s : State) (x y : View) → Tidies s x y → ChangesFrom May s x y
tidy_changes s x y tidies ready = tidied_changes s x y tidies

pub works_tidied : {May : Op → Type 0} {Q : View → View → Type 0} (s t : State) {u v : Outside} → Tidying Q s (Ok t) u v → Works May s (Tidies s) (λ x y. Tidies s x y × Q x y) (Ok t) u v
works_tidied s t call = record {
  goes = goes_known call.moments call.success;
  opens = λ known. record { goes = goes_to call.moments (λ x y r. tt) (λ x y r opens. subst (λ (z : State). Opens z y) (sym (call.state t refl)) (r.opens opens)) };
  changes = λ known. goes_to call.moments (tidy_changes s) (tidy_changes s);
  same = call.holdings;
  host = record { later = call.host.later; fault = λ is. absurd (cc is.1) };
  remote = record { later = omega (arith, call.remote_faults); rose = λ is. absurd (cc is) };
  unasked = λ none. (call.remote_faults, λ is. cc is);
}

tidy_end : (e : HostEnd) → end_of_host e ≡ Fault → e ≡ host.Fault
tidy_end host.Fault is = refl
tidy_end host.NoMemory is = absurd (cc is)

tidy_no_remote : (e : HostEnd) → end_of_host e ≡ RemoteFault → ⊥
tidy_no_remote host.Fault is = cc is
tidy_no_remote host.NoMemory is = cc is

pub works_untidied : {May : Op → Type 0} {Q : View → View → Type 0} (s : State) (e : HostEnd) {u v : Outside} → Tidying Q s (Err e) u v → Works May s (Tidies s) (Tidies s) (Err (end_of_host e)) u v
works_untidied s e call = record {
  goes = call.moments;
  opens = λ known. record { goes = goes_to call.moments (λ x y r. tt) (λ x y r. opens_stayed s (end_of_host e) r.opens) };
  changes = λ known. goes_to call.moments (tidy_changes s) (tidy_changes s);
  same = call.holdings;
  host = record { later = call.host.later; fault = λ is m told opens. call.host.fault (ap (λ (x : HostEnd). Err x) (tidy_end e (cc is.1))) m told opens };
  remote = record { later = omega (arith, call.remote_faults); rose = λ is. absurd (tidy_no_remote e (cc is)) };
  unasked = λ none. (call.remote_faults, λ is. tidy_no_remote e (cc is));
}

-- ---- one operation, wholly

-- what is refused was not done
none_acted : (o : Option Refusal) (done : Done) (r : Refusal) (before : Bool) → (unless o (done_answer done)).refusal ≡ Some r → before ≡ has_acted before (ops_of (unless o (done_answer done)))
none_acted None done r before is = let clash : None ≡ Some r = is in absurd (cc clash)
none_acted (Some refusal) done r before is = refl

not_acted : (held : Holdings) (op : Op) (s : State) (e : RunEnd) (before : Bool) (v w : View) → WasDoneBy held op s (Err e) v w → Acted (op_over op held (world_at s v)) (Err e) before before
not_acted held op s (Refused r) before v w is = none_acted (op_refusal (supplied held (world_at s v) op) op) (done_of op held (world_at s v)) r before is.0
not_acted held op s Fault before v w is = tt
not_acted held op s RemoteFault before v w is = tt
not_acted held op s NoMemory before v w is = tt

pub acts_not_done : (op : Op) (s : State) (e : RunEnd) {before : Bool} {u v : Outside} → Works (Just op) s (PerformsOver (Rests s) u.holdings (op_over op) s) (DoneOver u.holdings op s (Err e)) (Err e) u v → Acts (Rests s) (Just op) (op_over op) s before before (Err e) u v
acts_not_done op s e {before = before} works = works_as (λ x y first p. p)
    (λ x y first p q. record {
      performed = λ held told rests. q.done held told rests;
      acted = λ held told rests. not_acted held op s e before x y (q.done held told rests);
    })
    works

module _ (op : Op) (s t : State) (u v w : Outside) (told : IsTold v.told) (works : Works (Just op) s (PerformsOver (Rests s) u.holdings (op_over op) s) (DoneOver u.holdings op s (Ok t)) (Ok t) u v) where
  while_tidied : (x y z : View) → DoneOver u.holdings op s (Ok t) x y → Tidies t y z → PerformsOver (Rests s) u.holdings (op_over op) s x z
  while_tidied x y z q n = record { performs = λ held known rests. tidying held op s t x (q.done held known rests) n }

  pub acts_done : (t' : State) {before : Bool} → Tidying (WasTidiedAfter op t) t (Ok t') v w → Acts (Rests s) (Just op) (op_over op) s before true (Ok t') u w
  acts_done t' {before = before} call = works_on told works (works_tidied t t' call)
      (λ x y z p q n. while_tidied x y z q n)
      (λ x y z p q n l. record {
        performed = λ held known rests. tidied held op s t x t' (call.state t' refl) (q.done held known rests) l.0 l.1;
        acted = λ held known rests. was_acted held op s t x t' before (q.done held known rests);
      })

  pub acts_untidied : (e : HostEnd) {before now : Bool} → Tidying (WasTidiedAfter op t) t (Err e) v w → Acts (Rests s) (Just op) (op_over op) s before now (Err (end_of_host e)) u w
  acts_untidied e {before = before} {now = now} call = works_on told works (works_untidied t e call)
      (λ x y z p q n. while_tidied x y z q n)
      (λ x y z p q n l. by e x y z q n)
    where
      by : (e : HostEnd) (x y z : View) → DoneOver u.holdings op s (Ok t) x y → Tidies t y z → PerformedOver (Rests s) u.holdings (op_over op) s before now (Err (end_of_host e)) x z
      by host.Fault x y z q n = record { performed = λ held known rests. tt; acted = λ held known rests. tt }
      by host.NoMemory x y z q n = record { performed = λ held known rests. untidied held op s t x (q.done held known rests) n; acted = λ held known rests. tt }
