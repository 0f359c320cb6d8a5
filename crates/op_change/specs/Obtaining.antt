-- Obtaining a commit from a remote, before its row is deployed.
use Rattle.std.specs.Prelude.{◌≡◌, ℕ, List, Option, Some, None, Result, Ok, Err, IsErrOf}
use Rattle.fp_host.specs.Causes.{IsCaused}
use Rattle.fp_host.specs.Frame.{AtEnd}
use Rattle.fp_host.specs.Moments.{Always}
use Rattle.fp_host.specs.Remote.{Holdings}
use Rattle.fp_host.specs.View.{View}
use Rattle.fp_name.specs.Refs.{Ref}
use Rattle.fp_small.specs.Places.{repo}
use Rattle.fp_small.specs.declared.refusal.Refusal.{Refusal}
use Rattle.fp_small.specs.declared.state.RefRow.{RefRow}
use Rattle.fp_small.specs.declared.state.RemoteRow.{RemoteRow}
use Rattle.fp_small.specs.declared.state.State.{State}
use Rattle.ost_model.specs.Objects.{Have}
use Rattle.ost_model.specs.Remotes.{Supplies}
use Rattle.ost_pull.specs.Pulls.{HasTrueFilesNow, IsLacked}
use Rattle.ost_store.specs.Created.{Creates}
use Rattle.ost_walk.specs.Ends.{IsRemotes, Outside}
use Rattle.ost_walk.specs.PullEnds.{RefusesBy}
use Rattle.ost_walk.specs.declared.pull_end.PullEnd.{PullEnd}
use Rattle.ost_walk.specs.declared.pull_end.PullEnd.TheVariants as ends
use Rattle.dep_states.specs.Lasting.{IsLasting, SharesAs}
use Rattle.dep_states.specs.Sound.{Opens}
use Rattle.dep_switch.specs.Staging.{CanStage}
use Rattle.op_change.specs.Bringing.{LeavesNames, WasLeft, HostFaulted}
use Rattle.op_change.specs.Brought.{brought_refusal, commit_time, supply_at, HasObjects}
use Rattle.op_change.specs.Fetching.{Fetches}

-- The result is a row with the commit's timestamp if nothing is refused, else the commit's refusal
abbrev pub ObtainsWith : Have → Ref → List ℕ → Result RefRow PullEnd → Type 0
ObtainsWith have name commit (Ok row) =
    (brought_refusal have name commit ≡ None) × (row.timestamp ≡ commit_time have commit)
ObtainsWith have name commit (Err end) =
    RefusesBy (λ r. brought_refusal have name commit ≡ Some r) end

-- The commit was obtained. If the remotes report their content and every crash left the state `s`
-- before, its row can be deployed, the store has its objects, each new file that has bytes was put
-- at a path where it lasts, and exactly those of the commit's objects were made that the store
-- lacked.
pub record WasObtained (s : State) (origin : RemoteRow) (name : Ref) (commit : List ℕ)
    (holds : Option Holdings) (row : RefRow) (u w : View) : Type 0 where
  pub stages : (held : Holdings) → holds ≡ Some held → Opens s u → CanStage s row w
  pub objects : (held : Holdings) → holds ≡ Some held → Opens s u
      → HasObjects (supply_at held (Some origin.url) u) commit u w
  pub shares : (held : Holdings) → holds ≡ Some held → Opens s u → SharesAs IsLasting u w
  pub creates : (held : Holdings) → holds ≡ Some held → Opens s u
      → Creates repo (IsLacked repo (supply_at held (Some origin.url) u) commit u) u w

-- Obtaining a commit, from `u` before the call to `w` after it, on a host that reports its content.
-- If the remotes report theirs and the store's files match their names, the result is the row or
-- exactly the commit's refusal. `Fetches` holds at each moment, `WasObtained` after success,
-- `WasLeft` after a refusal and after a fault of a remote, and `LeavesNames` after a refusal. A
-- fault of the host or the remotes has its cause. The content of the remotes stays the same.
pub record Obtains (s : State) (origin : RemoteRow) (name : Ref) (commit : List ℕ)
    (result : Result RefRow PullEnd) (u w : Outside) : Type 0 where
  pub same : w.holdings ≡ u.holdings
  pub answers : (have : Have) → Supplies repo (Some origin.url) u.told u.holdings have
      → HasTrueFilesNow repo u.told → ObtainsWith have name commit result
  pub moments : Always (Fetches s name commit u.holdings) u.told w.told
  pub success : (row : RefRow) → result ≡ Ok row
      → AtEnd (WasObtained s origin name commit u.holdings row) u.told w.told
  pub refused : (r : Refusal) → IsErrOf result (ends.Refused r)
      → AtEnd (WasLeft s u.holdings) u.told w.told
  pub left_names : (r : Refusal) → IsErrOf result (ends.Refused r)
      → AtEnd (LeavesNames s name commit u.holdings) u.told w.told
  pub remote_fault : IsErrOf result ends.RemoteFault → AtEnd (WasLeft s u.holdings) u.told w.told
  pub host : IsCaused (HostFaulted u.holdings result) u.told (Opens s) u.host_faults w.host_faults
  pub remote : IsRemotes (IsErrOf result ends.RemoteFault) u.remote_faults w.remote_faults
