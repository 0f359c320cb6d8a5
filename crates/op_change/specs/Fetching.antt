-- Fetching a commit: it is pulled and checked out, while the state stays as it is.
use Rattle.std.specs.Prelude.{◌⊎◌, ◌≡◌, ℕ, List, Bool, false, Option, Some, None, Result, IsErrOf, OnOk}
use Rattle.fp_host.specs.Causes.{IsCaused}
use Rattle.fp_host.specs.Frame.{AtEnd}
use Rattle.fp_host.specs.Moments.{Always}
use Rattle.fp_host.specs.Paths.{Elements, absent}
use Rattle.fp_host.specs.Remote.{Holdings}
use Rattle.fp_host.specs.View.{View}
use Rattle.fp_name.specs.Refs.{Ref}
use Rattle.fp_small.specs.Places.{repo}
use Rattle.fp_small.specs.declared.refusal.Refusal.{Refusal}
use Rattle.fp_small.specs.declared.state.State.{State}
use Rattle.ost_model.specs.Look.{nothing, look}
use Rattle.ost_model.specs.Objects.{Have}
use Rattle.ost_model.specs.Order.{first_fault}
use Rattle.ost_model.specs.Remotes.{Supplies}
use Rattle.ost_model.specs.Standing.{deploy_name}
use Rattle.ost_checkout.specs.Checkout.{IsCheckedOut}
use Rattle.ost_pull.specs.Pulls.{HasTrueFilesNow, IsLacked, Refuses, first_refusal}
use Rattle.ost_store.specs.Created.{Creates}
use Rattle.ost_walk.specs.Ends.{IsRemotes, Outside}
use Rattle.ost_walk.specs.declared.pull_end.PullEnd.{PullEnd}
use Rattle.ost_walk.specs.declared.pull_end.PullEnd.TheVariants as ends
use Rattle.dep_states.specs.Lasting.{IsLasting, SharesAs}
use Rattle.dep_states.specs.Names.{commit_dir}
use Rattle.dep_states.specs.Sound.{Opens}
use Rattle.dep_switch.specs.Writing.{new_link}
use Rattle.op_change.specs.Deploys.{SameObjects}
use Rattle.op_change.specs.Bringing.{AreTold, ChangesFor, LeftName, HostFaulted}
use Rattle.op_change.specs.Brought.{supply_at, HasObjects}

-- A fetch at each moment, if every crash left the state `s` before: no names change but those of
-- `ChangesFor`, and if the remotes report their content, every crash still leaves `s`
pub record Fetches (s : State) (name : Ref) (commit : List ℕ) (holds : Option Holdings)
    (u w : View) : Type 0 where
  pub opens : AreTold holds → Opens s u → Opens s w
  pub changes : Opens s u → ChangesFor s name commit u w

-- The commit is fetched: it has no fault, the store has its objects, it is checked out unless it is
-- kept, and `repo/tmp/active` is absent
pub record IsFetched (name : Ref) (commit : List ℕ) (kept : Bool) (have : Have)
    (u w : View) : Type 0 where
  pub clean : first_fault have commit ≡ None
  pub objects : HasObjects have commit u w
  pub link_free : w.names new_link ≡ absent
  pub laid : kept ≡ false → IsCheckedOut repo commit (commit_dir name commit) w

-- A fetch succeeded. If the remotes report their content and every crash left the state `s` before,
-- the commit is fetched, each new file that has bytes was put at a path where it lasts, and exactly
-- those of the commit's objects were made that the store lacked.
pub record WasFetched (s : State) (name : Ref) (commit : List ℕ) (kept : Bool) (url : List ℕ)
    (holds : Option Holdings) (u w : View) : Type 0 where
  pub fetched : (held : Holdings) → holds ≡ Some held → Opens s u
      → IsFetched name commit kept (supply_at held (Some url) u) u w
  pub shares : (held : Holdings) → holds ≡ Some held → Opens s u → SharesAs IsLasting u w
  pub creates : (held : Holdings) → holds ≡ Some held → Opens s u
      → Creates repo (IsLacked repo (supply_at held (Some url) u) commit u) u w

-- The commit's root directory has no entry `deploy`
abbrev pub HasNoDeploy : Have → List ℕ → Type 0
HasNoDeploy have commit = look have commit deploy_name ≡ nothing

-- The commit was refused, or a remote was at fault. If the remotes report their content, every
-- crash left the state `s` before, and the commit has no entry `deploy`, the store has the same
-- objects, and no names changed but those of `LeftName`.
pub record WasTurnedDown (s : State) (name : Ref) (commit url : List ℕ) (holds : Option Holdings)
    (u w : View) : Type 0 where
  pub objects : (held : Holdings) → holds ≡ Some held → Opens s u
      → HasNoDeploy (supply_at held (Some url) u) commit → SameObjects u w
  pub names : (held : Holdings) → holds ≡ Some held → Opens s u
      → HasNoDeploy (supply_at held (Some url) u) commit
      → (q : Elements) → (w.names q ≡ u.names q) ⊎ LeftName s name commit q (w.names q)

-- A fetch, from `u` before the call to `w` after it, on a host that reports its content. If the
-- remotes report theirs, the store's files match their names, and the commit has no entry `deploy`,
-- exactly the first fault of the commit is refused. `Fetches` holds at each moment, `WasFetched`
-- after success, and `WasTurnedDown` after a refusal and after a fault of a remote. A fault of the
-- host or the remotes has its cause. The content of the remotes stays the same.
pub record Retrieves (s : State) (name : Ref) (commit : List ℕ) (kept : Bool) (url : List ℕ)
    (result : Result (Unit {0}) PullEnd) (u w : Outside) : Type 0 where
  pub same : w.holdings ≡ u.holdings
  pub refuses : (have : Have) → Supplies repo (Some url) u.told u.holdings have
      → HasTrueFilesNow repo u.told → HasNoDeploy have commit
      → Refuses (first_refusal have commit) result
  pub moments : Always (Fetches s name commit u.holdings) u.told w.told
  pub success : OnOk result (AtEnd (WasFetched s name commit kept url u.holdings) u.told w.told)
  pub refused : (r : Refusal) → IsErrOf result (ends.Refused r)
      → AtEnd (WasTurnedDown s name commit url u.holdings) u.told w.told
  pub remote_fault : IsErrOf result ends.RemoteFault
      → AtEnd (WasTurnedDown s name commit url u.holdings) u.told w.told
  pub host : IsCaused (HostFaulted u.holdings result) u.told (Opens s) u.host_faults w.host_faults
  pub remote : IsRemotes (IsErrOf result ends.RemoteFault) u.remote_faults w.remote_faults
