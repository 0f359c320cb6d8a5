-- The whole contract of a call that does one operation on an installation.
use Rattle.std.specs.Prelude.{◌≡◌, ◌⊎◌, ℕ, List, Result, IsErrOf, OnOk}
use Rattle.fp_host.specs.Causes.{IsCaused}
use Rattle.fp_host.specs.Frame.{AtEnd}
use Rattle.fp_host.specs.Moments.{Always}
use Rattle.fp_name.specs.Refs.{Ref}
use Rattle.fp_small.specs.Places.{repo}
use Rattle.fp_small.specs.declared.op.Op.{Op}
use Rattle.fp_small.specs.declared.op.Op.TheVariants.{Install, Update}
use Rattle.fp_small.specs.declared.refusal.Refusal.{Refusal}
use Rattle.fp_small.specs.declared.state.State.{State}
use Rattle.ost_model.specs.Objects.{Have}
use Rattle.ost_model.specs.Remotes.{Supplies}
use Rattle.ost_pull.specs.Pulls.{HasTrueFilesNow}
use Rattle.ost_walk.specs.Ends.{IsRemotes, Outside}
use Rattle.dep_states.specs.Sound.{Opens}
use Rattle.op_change.specs.Applied.{Brings, url_for, AppliesWith, AppliesPlainly, Applies, WasApplied, IsStarved, HostFaulted}
use Rattle.op_change.specs.Bringing.{WasLeft}
use Rattle.op_change.specs.declared.ending.ApplyEnd.{ApplyEnd}
use Rattle.op_change.specs.declared.ending.ApplyEnd.TheVariants as ends

-- One operation, from `u` before the call to `w` after it, on a host that reports its content, and
-- for an operation that brings a commit with remotes that report theirs. The result is the new
-- state or the refusal; for an operation that brings a commit, if the store's files match their
-- names. If every crash left the state `s` at the start, every crash leaves `s` or the new state;
-- after success the new one; after a refusal, a fault of a remote, or running out of memory, `s`;
-- and the host's fault comes only if its count of faults rose. The content of the remotes stays the
-- same, and they are asked only if the operation brings a commit.
pub record Attempts (s : State) (op : Op) (result : Result State ApplyEnd)
    (u w : Outside) : Type 0 where
  pub same : w.holdings ≡ u.holdings
  pub answers : (have : Have) → Supplies repo (url_for s op) u.told u.holdings have
      → (Brings op → HasTrueFilesNow repo u.told) → AppliesWith have s op result
  pub plain : (Brings op → ⊥) → AppliesPlainly s op result
  pub moments : Always (Applies s op u.holdings) u.told w.told
  pub success : OnOk result (AtEnd (WasApplied s op u.holdings) u.told w.told)
  pub refused : (r : Refusal) → IsErrOf result (ends.Refused r)
      → AtEnd (WasLeft s u.holdings) u.told w.told
  pub remote_fault : IsErrOf result ends.RemoteFault → AtEnd (WasLeft s u.holdings) u.told w.told
  pub starved : IsErrOf result ends.NoMemory → AtEnd (IsStarved s op u.holdings) u.told w.told
  pub host : IsCaused (HostFaulted op u.holdings result) u.told
      (Opens s) u.host_faults w.host_faults
  pub remote : IsRemotes (IsErrOf result ends.RemoteFault) u.remote_faults w.remote_faults
  pub unasked : (Brings op → ⊥) → w.remote_faults ≡ u.remote_faults

-- The operation brings this commit of the ref from the remote with this name
abbrev pub IsToBring : Op → Ref → List ℕ → List ℕ → Type 0
IsToBring op name origin commit =
    (op ≡ Install name origin commit) ⊎ (op ≡ Update name origin commit)
