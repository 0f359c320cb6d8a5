-- Setting up the store, and checking a commit out unless it is kept.
use Rattle.std.specs.Prelude.{◌≡◌, ℕ, List, Bool, false}
use Rattle.fp_host.specs.Paths.{Elements}
use Rattle.fp_host.specs.View.{View, IsTree}
use Rattle.dep_states.specs.Lasting.{IsLasting, SharesAs}
use Rattle.op_change.specs.LayingOut.{LaysOut, WasLaidOut, CanLayOut}
use Rattle.op_change.specs.Readying.{ReadiesStore, CanReady}

-- At each moment: the store is being set up, or it was set up and the commit is being checked out
pub data Furnishes (commit : List ℕ) (to : Elements) (kept : Bool) (u w : View) : Type 0 where
  readies : ReadiesStore u w → Furnishes commit to kept u w
  lays : (between : View) → IsTree between → ReadiesStore u between → kept ≡ false
      → LaysOut commit to between w → Furnishes commit to kept u w

-- The commit is checked out unless it is kept, and each new file that has bytes was put at a path
-- where it lasts
pub record WasFurnished (commit : List ℕ) (to : Elements) (kept : Bool) (u w : View) : Type 0 where
  pub laid : kept ≡ false → WasLaidOut commit to u w
  pub shares : SharesAs IsLasting u w

-- The store can be set up, and the commit can be checked out unless it is kept
pub record CanFurnish (commit : List ℕ) (to : Elements) (kept : Bool) (v : View) : Type 0 where
  pub store : CanReady v
  pub folder : kept ≡ false → CanLayOut commit to v
