-- The operations of a target, and what is looked up before.
use Rattle.std.proofs.Common.{◌≡◌, ◌≤◌, ℕ, List, [], Bool, true, false, Option, Some, Result, Ok, Err, IsErrOf, if◌then◌else◌, refl, sym, ◌∙◌, ap, subst, arith}
use Rattle.std.specs.Prelude.{codes}
use Rattle.fp_host.specs.Causes.{IsCounted}
use Rattle.fp_host.specs.Frame.{Unchanged}
use Rattle.fp_host.specs.Moments.{Moments, Rose}
use Rattle.fp_host.specs.Outcome.{shows}
use Rattle.fp_host.specs.Remote.{Holdings}
use Rattle.fp_host.specs.View.{View}
use Rattle.fp_host.specs.declared.host.HostEnd.{HostEnd}
use Rattle.fp_host.specs.declared.host.HostEnd.TheVariants as host
use Rattle.fp_host.proofs.Framed.{IsTold}
use Rattle.fp_name.specs.Refs.{Ref}
use Rattle.fp_small.specs.Places.{repo}
use Rattle.fp_small.specs.declared.state.State.{State}
use Rattle.fp_small.specs.declared.state.RemoteRow.{RemoteRow}
use Rattle.fp_small.specs.declared.op.Op.{Op}
use Rattle.fp_small.specs.declared.op.Op.TheVariants.{Install}
use Rattle.fp_small.specs.declared.refusal.Refusal.{Refusal}
use Rattle.ost_model.specs.Objects.{Have, store}
use Rattle.ost_model.specs.Remotes.{Stores}
use Rattle.ost_walk.specs.Ends.{Outside}
use Rattle.ost_walk.specs.declared.pull_end.PullEnd.{PullEnd}
use Rattle.ost_walk.specs.declared.pull_end.PullEnd.TheVariants as pulls
use Rattle.ost_walk.specs.PullEnds.{Looks}
use Rattle.op_change.specs.Applied.{Brings}
use Rattle.fl_plan.specs.Answers.{Plans}
use Rattle.fl_plan.specs.Plans.{plan_of}
use Rattle.fl_change.specs.World.{World, world_at}
use Rattle.fl_change.specs.Answer.{Answer, refusal_answer}
use Rattle.fl_change.specs.Ends.{end_of_host, end_of_pull}
use Rattle.fl_change.specs.Performs.{Acts, AsksBy, Rests}
use Rattle.fl_change.specs.Refs.{ops_over, planned, from_remote, skipped, is_no_offer, unless_skipped, updated_from}
use Rattle.fl_change.specs.declared.end.RunEnd.{RunEnd}
use Rattle.fl_change.proofs.Acting.{Known, acts_same, acts_refused, acts_halted, acts_looked, acts_host_failed, acts_remote_failed}
use Rattle.fl_change.proofs.Stored.{settled_store}
use Rattle.fl_change.proofs.Working.{IsFirst, Looked}

-- an operation may bring a commit
pub may_bring : Ref → AsksBy Brings
may_bring name = (Install name (codes "") [], tt, tt)

-- ---- what is known at the entry

-- the objects that the store has there
pub stores_at : (o : Outside) (x : View) → IsFirst o.told x → Stores repo o.told (store repo (shows x))
stores_at o x first = record { moments = first.0; told_is = first.1; is = ap (λ (y : View). store repo (shows y)) (sym first.2) }

-- are those of the world
pub world_have : (s : State) (x : View) → Rests s x → (world_at s x).have ≡ store repo (shows x)
world_have s x rests = settled_store s rests

-- ---- a look at the host alone

pub host_looked : {May : Op → Type 0} {u v : Outside} → Unchanged u.told v.told → v.holdings ≡ u.holdings → u.host_faults ≤ v.host_faults → v.remote_faults ≡ u.remote_faults → Looked May u v
host_looked still same later remote = record { still = still; same = same; host = later; remote = omega (arith, remote); unasked = λ none. remote }

pub acts_not_looked : {May : Op → Type 0} {s : State} (f : Holdings → World → Answer) (e : HostEnd) {before now : Bool} {u v : Outside} → IsTold v.told → Looked May u v → (e ≡ host.Fault → (m : Moments) → u.told ≡ Some m → Rose u.host_faults v.host_faults) → Acts (Rests s) May f s before now (Err (end_of_host e)) u v
acts_not_looked f host.Fault told looked rose = acts_host_failed f told looked (rose refl)
acts_not_looked f host.NoMemory told looked rose = acts_looked f told looked (acts_halted f told)

-- the cause of its fault
pub look_rose : {T : Type 0} (result : Result T HostEnd) (e : HostEnd) {a : Option Moments} (before now : ℕ) → result ≡ Err e → IsCounted (IsErrOf result host.Fault) a before now → e ≡ host.Fault → (m : Moments) → a ≡ Some m → Rose before now
look_rose result e before now was cause is m told = cause.fault (was ∙ ap (λ (x : HostEnd). Err x) is) m told tt

-- ---- a plan

module _ (s : State) (remote : RemoteRow) (name : Ref) where
  abbrev answer : Holdings → Have → Result (List Op) Refusal
  answer held stored = plan_of held stored s remote name

  plan_is : (held : Holdings) (x : View) → Rests s x → plan_of held (world_at s x).have s remote name ≡ answer held (store repo (shows x))
  plan_is held x rests = ap (λ (h : Have). plan_of held h s remote name) (world_have s x rests)

  looked_at : {result : Result (List Op) PullEnd} {u v : Outside} → Looks result u v → Looked Brings u v
  looked_at looks = record { still = looks.unchanged; same = looks.same; host = looks.host.later; remote = looks.remote.later; unasked = λ none. absurd (none (may_bring name)) }

  -- it fails
  not_planned : (f : Holdings → World → Answer) (e : PullEnd) {before : Bool} {u v : Outside} → IsTold v.told → Plans answer (Err e) u v → ((r : Refusal) → e ≡ pulls.Refused r → Known (Rests s) u s (λ held x. f held (world_at s x) ≡ refusal_answer r)) → Acts (Rests s) Brings f s before before (Err (end_of_pull e)) u v
  not_planned f (pulls.Refused r) told plans known = acts_same f (λ held x. refusal_answer r) (known r refl)
      (acts_looked (λ held x. refusal_answer r) told (looked_at plans.looks) (acts_refused (λ held x. refusal_answer r) r told (λ x first held k rests. refl)))
  not_planned f pulls.HostFault told plans known = acts_host_failed f told (looked_at plans.looks) (λ m is. plans.looks.host.fault refl m is tt)
  not_planned f pulls.RemoteFault told plans known = acts_remote_failed f (may_bring name) (looked_at plans.looks) (plans.looks.remote.rose refl)
  not_planned f pulls.NoMemory told plans known = acts_looked f told (looked_at plans.looks) (acts_halted f told)

  -- what it is refused for
  refused_plan : (r : Refusal) {u v : Outside} → Plans answer (Err (pulls.Refused r)) u v → Known (Rests s) u s (λ held x. plan_of held (world_at s x).have s remote name ≡ Err r)
  refused_plan r {u = u} plans x first held told rests = plan_is held x rests ∙ plans.tells held (store repo (shows x)) told (stores_at u x first)

  pub planned_err : (e : PullEnd) {before : Bool} {u v : Outside} → IsTold v.told → Plans answer (Err e) u v → Acts (Rests s) Brings (from_remote remote name) s before before (Err (end_of_pull e)) u v
  planned_err e {u = u} {v = v} told plans = not_planned (from_remote remote name) e told plans (λ r is x first held known rests.
      ap (λ (p : Result (List Op) Refusal). planned p held (world_at s x)) (refused_plan r (subst (λ (q : PullEnd). Plans answer (Err q) u v) is plans) x first held known rests))

  -- its operations
  ops_known : (ops : List Op) {u v : Outside} → Plans answer (Ok ops) u v → Known (Rests s) u s (λ held x. plan_of held (world_at s x).have s remote name ≡ Ok ops)
  ops_known ops {u = u} plans x first held told rests = plan_is held x rests ∙ plans.tells held (store repo (shows x)) told (stores_at u x first)

  pub planned_ok : (ops : List Op) (r : Result State RunEnd) {before now : Bool} {u v w : Outside} → IsTold v.told → Plans answer (Ok ops) u v → Acts (Rests s) Brings (ops_over ops) s before now r v w → Acts (Rests s) Brings (from_remote remote name) s before now r u w
  planned_ok ops r told plans acts = acts_same (from_remote remote name) (ops_over ops)
      (λ x first held known rests. ap (λ (p : Result (List Op) Refusal). planned p held (world_at s x)) (ops_known ops plans x first held known rests))
      (acts_looked (ops_over ops) told (looked_at plans.looks) acts)

  -- ---- of an update of all

  pub updated_ok : (ops : List Op) (r : Result State RunEnd) {before now : Bool} {u v w : Outside} → IsTold v.told → Plans answer (Ok ops) u v → Acts (Rests s) Brings (ops_over ops) s before now r v w → Acts (Rests s) Brings (updated_from remote name) s before now r u w
  updated_ok ops r told plans acts = acts_same (updated_from remote name) (ops_over ops)
      (λ x first held known rests. ap (λ (p : Result (List Op) Refusal). unless_skipped name p held (world_at s x)) (ops_known ops plans x first held known rests))
      (acts_looked (ops_over ops) told (looked_at plans.looks) acts)

  refusal_known : (r : Refusal) (b : Bool) {u v : Outside} → is_no_offer r ≡ b → Plans answer (Err (pulls.Refused r)) u v → Known (Rests s) u s (λ held x. updated_from remote name held (world_at s x) ≡ (if b then skipped name else refusal_answer r))
  refusal_known r b is plans x first held known rests =
      ap (λ (p : Result (List Op) Refusal). unless_skipped name p held (world_at s x)) (refused_plan r plans x first held known rests)
      ∙ ap (λ (c : Bool). if c then skipped name else refusal_answer r) is

  pub updated_skipped : (r : Refusal) (result : Result State RunEnd) {before now : Bool} {u v w : Outside} → is_no_offer r ≡ true → IsTold v.told → Plans answer (Err (pulls.Refused r)) u v → Acts (Rests s) Brings (λ held x. skipped name) s before now result v w → Acts (Rests s) Brings (updated_from remote name) s before now result u w
  updated_skipped r result is told plans acts = acts_same (updated_from remote name) (λ held x. skipped name) (refusal_known r true is plans)
      (acts_looked (λ held x. skipped name) told (looked_at plans.looks) acts)

  pub updated_err : (e : PullEnd) {before : Bool} {u v : Outside} → IsTold v.told → Plans answer (Err e) u v → ((r : Refusal) → e ≡ pulls.Refused r → is_no_offer r ≡ false) → Acts (Rests s) Brings (updated_from remote name) s before before (Err (end_of_pull e)) u v
  updated_err e {u = u} {v = v} told plans offered = not_planned (updated_from remote name) e told plans (λ r is.
      refusal_known r false (offered r is) (subst (λ (q : PullEnd). Plans answer (Err q) u v) is plans))

-- by the state and the end that are looked at
pub plans_at : (t s : State) (remote : RemoteRow) (name : Ref) (e q : PullEnd) {u v : Outside} → t ≡ s → e ≡ q → Plans {A = List Op} (λ held stored. plan_of held stored t remote name) (Err e) u v → Plans {A = List Op} (λ held stored. plan_of held stored s remote name) (Err q) u v
plans_at t s remote name e q {u = u} {v = v} same is plans = subst (λ (x : State). Plans {A = List Op} (λ held stored. plan_of held stored x remote name) (Err q) u v) same
    (subst (λ (p : PullEnd). Plans {A = List Op} (λ held stored. plan_of held stored t remote name) (Err p) u v) is plans)
