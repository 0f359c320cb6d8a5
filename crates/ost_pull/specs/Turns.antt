-- The promise of each step of a pull: at each moment, on success, of a refusal, and of the cause of
-- a fault. The remotes stay as they are.
use Rattle.std.specs.Prelude.{◌≡◌, ℕ, List, Some, None, Result, IsErrOf, OnOk}
use Rattle.fp_base.specs.declared.object.ObjKind.{ObjKind}
use Rattle.fp_host.specs.Causes.{IsCaused}
use Rattle.fp_host.specs.Frame.{AtEnd}
use Rattle.fp_host.specs.Moments.{Always}
use Rattle.fp_host.specs.Paths.{Elements}
use Rattle.ost_model.specs.Objects.{Have}
use Rattle.ost_model.specs.Order.{first_fault}
use Rattle.ost_model.specs.Remotes.{Supplies}
use Rattle.ost_store.specs.ObjectNames.{AreOpen}
use Rattle.ost_walk.specs.Ends.{EndsBy, IsRemotes, Outside}
use Rattle.ost_walk.specs.Steps.{IsGood, IsOwnFault}
use Rattle.ost_walk.specs.Surveys.{first_bad, first_named, told_fault}
use Rattle.ost_walk.specs.declared.ends.WalkEnd.{WalkEnd}
use Rattle.ost_walk.specs.declared.ends.WalkFault.{WalkFault}
use Rattle.ost_walk.specs.declared.ends.WalkEnd.TheVariants as ends
use Rattle.ost_pull.specs.declared.trusting.Trust.{Trust}
use Rattle.ost_pull.specs.Pulls.{CanPull}
use Rattle.ost_pull.specs.Takes.{AddsAmong, AreTaken, AreTakenNow, CoversOrder, StaysNoted, TakesAll, TakesOne}
use Rattle.ost_pull.specs.Trusts.{MayTrust}
use Rattle.ost_pull.specs.Work.{Adds, GathersAnew, Works}

-- The result of a step is right by the objects that store and remote have together: success only if
-- `good` holds, and a refusal only if it is the right one. The objects of `before` were taken into
-- the work directory `t` before, and names are trusted only if the store's files and symlinks match
-- their digests.
abbrev pub EndsTold : {A : Type 0} → (root t : Elements) → List ℕ → Trust
    → List (List ℕ × ObjKind) → Outside → (Have → Type 0) → (Have → WalkFault → Type 0)
    → Result A WalkEnd → Type 0
EndsTold root t url trust before u good refused result =
    (have : Have) → Supplies root (Some url) u.told u.holdings have
    → AreTakenNow root t url u.holdings before u.told → MayTrust trust root u.told
    → EndsBy (λ _. good have) (refused have) result

-- One object is taken into the work directory `t`, or the store has it. It is refused for its own
-- fault.
pub record TakesObject (root t : Elements) (url : List ℕ) (trust : Trust) (o : List ℕ × ObjKind)
    (before after : List (List ℕ × ObjKind)) (result : Result (Unit {0}) WalkEnd)
    (u w : Outside) : Type 0 where
  pub any_moment : Always (Works t) u.told w.told
  pub same : w.holdings ≡ u.holdings
  pub adds : OnOk result (Adds o before after)
  pub on_success : OnOk result (AtEnd (TakesOne root t url u.holdings o before after) u.told w.told)
  pub tells : EndsTold root t url trust before u (λ have. IsGood have o.0 o.1)
      (λ have. IsOwnFault have o.0 o.1) result
  pub fault_has_cause : IsCaused (IsErrOf result ends.HostFault) u.told (AreOpen t)
      u.host_faults w.host_faults
  pub remote_fault_has_cause : IsRemotes (IsErrOf result ends.RemoteFault)
      u.remote_faults w.remote_faults

-- These objects are taken one after another. The first of them with a fault is refused.
pub record TakesObjects (root t : Elements) (url : List ℕ) (trust : Trust)
    (objects before after : List (List ℕ × ObjKind)) (result : Result (Unit {0}) WalkEnd)
    (u w : Outside) : Type 0 where
  pub any_moment : Always (Works t) u.told w.told
  pub same : w.holdings ≡ u.holdings
  pub only : OnOk result (AddsAmong objects before after)
  pub noted : OnOk result (StaysNoted before after)
  pub on_success : OnOk result
      (AtEnd (TakesAll root t url u.holdings objects before after) u.told w.told)
  pub tells : EndsTold root t url trust before u (λ have. first_bad have objects ≡ None)
      (λ have f. first_bad have objects ≡ Some (told_fault f)) result
  pub fault_has_cause : IsCaused (IsErrOf result ends.HostFault) u.told (AreOpen t)
      u.host_faults w.host_faults
  pub remote_fault_has_cause : IsRemotes (IsErrOf result ends.RemoteFault)
      u.remote_faults w.remote_faults

-- Gathering the commit's objects in the work directory `t`, which is cleared first. If the host and
-- the remotes report their content, then on success exactly the objects that the store lacks are in
-- `t` and in the list; and if the trust in the store is right (`MayTrust`), exactly the commit's
-- first fault is refused. A fault of the host or the remotes has a cause.
pub record GathersCommit (root t : Elements) (url : List ℕ) (trust : Trust) (commit : List ℕ)
    (kept : List (List ℕ × ObjKind)) (result : Result (Unit {0}) WalkEnd)
    (u w : Outside) : Type 0 where
  pub any_moment : Always (Works t) u.told w.told
  pub same : w.holdings ≡ u.holdings
  pub on_success : OnOk result
      (AtEnd (λ x y. AreTaken root t url u.holdings kept y) u.told w.told)
  pub gathers : OnOk result (AtEnd (GathersAnew t) u.told w.told)
  pub covers : (have : Have) → Supplies root (Some url) u.told u.holdings have
      → OnOk result (AtEnd (λ x y. CoversOrder root have commit kept y) u.told w.told)
  pub refuses : (have : Have) → Supplies root (Some url) u.told u.holdings have
      → MayTrust trust root u.told → EndsBy (λ _. first_fault have commit ≡ None)
      (λ f. first_named have commit ≡ Some (told_fault f)) result
  pub fault_has_cause : IsCaused (IsErrOf result ends.HostFault) u.told (CanPull root t)
      u.host_faults w.host_faults
  pub remote_fault_has_cause : IsRemotes (IsErrOf result ends.RemoteFault)
      u.remote_faults w.remote_faults
