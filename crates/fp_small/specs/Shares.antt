-- New files that aren't empty, and the names at which they were put.
use Rattle.std.specs.Prelude.{◌≡◌, ◌⊎◌, ℕ, [], Some, None, Contains}
use Rattle.fp_host.specs.Paths.{Elements, file}
use Rattle.fp_host.specs.View.{View, Inode}

-- Each file that is new since `u`, and isn't empty in `w`, was put at a name of `L`
pub record Shares (L : Elements → Type 0) (u w : View) : Type 0 where
  pub each : (id : ℕ) (f : Inode) → u.files id ≡ None → w.files id ≡ Some f
      → (f.bytes ≡ []) ⊎ ((q : Elements) × L q × Contains w.stood (q, file id))
