-- Renaming of a synced file to its final path.
use Rattle.std.specs.Prelude.{◌≡◌, ◌≢◌, ◌⊎◌, ℕ, List, Contains}
use Rattle.fp_host.specs.Paths.{Elements, Slot, absent}
use Rattle.fp_host.specs.View.{View}
use Rattle.fp_host.specs.Calls.{HasFolder, IsFile, IsNoDir}
use Rattle.fp_host.specs.Outcome.{Spot, gone, holds, Disk, Leaves, IsSettled}
use Rattle.fp_host.specs.Frame.{Keeps, Only}
use Rattle.fp_small.specs.declared.limits.TheConstants.{FILE_MODE}
use Rattle.fp_small.specs.Stage.{IsReady}

-- The node is a file with these bytes and the permission bits 0644
abbrev pub IsNew : List ℕ → Spot → Type 0
IsNew bytes spot = (id : ℕ) × (spot ≡ holds id FILE_MODE bytes)

-- A crash may leave the new file at the path `to`, and nothing at the path `from`
abbrev pub MovesAt : Elements → Elements → List ℕ → Elements → Spot → Type 0
MovesAt from to bytes q spot = ((q ≡ to) × IsNew bytes spot) ⊎ ((q ≡ from) × (spot ≡ gone))

-- The name `to` may become a file, and the name `from` may become absent
abbrev pub MovesName : Elements → Elements → Elements → Slot → Type 0
MovesName from to q e = ((q ≡ to) × IsFile e) ⊎ ((q ≡ from) × (e ≡ absent))

-- If the file at `from` is ready, it may be moved to the name `to`, and nothing else changes.
pub record Moves (from to : Elements) (u w : View) : Type 0 where
  pub keeps : (bytes : List ℕ) → IsReady from bytes u
      → Keeps (MovesAt from to bytes) (MovesName from to) (Only from) u w

-- Every crash leaves the file with these bytes at the path
pub record HasNew (p : Elements) (bytes : List ℕ) (v : View) : Type 0 where
  pub each : (disk : Disk) → Leaves v disk → IsNew bytes (disk p)

-- The file was moved from `from` to `to` and synced
pub record WasMoved (from to : Elements) (u w : View) : Type 0 where
  pub new : (bytes : List ℕ) → IsReady from bytes u → HasNew to bytes w
  pub name : w.names to ≡ u.names from
  pub stood : Contains w.stood (to, u.names from)
  pub left : w.names from ≡ absent
  pub settled : IsSettled w

-- The file at `from` is ready, and can be renamed to `to`
pub record CanMove (from to : Elements) (v : View) : Type 0 where
  pub bytes : List ℕ
  pub ready : IsReady from bytes v
  pub above : HasFolder v to
  pub no_dir : IsNoDir (v.names to)
  pub apart : from ≢ to
  pub other : v.names from ≢ v.names to
