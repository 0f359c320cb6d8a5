-- New files with bytes, and the names at which they are.
use Rattle.std.specs.Prelude.{◌≡◌, ◌⊎◌, ℕ, [], Some, None}
use Rattle.fp_host.specs.Paths.{Elements, file}
use Rattle.fp_host.specs.View.{View, Inode}

-- Each file that is new since `u` and isn't empty in `w` is at a name of `T`
pub record Gathers (T : Elements → Type 0) (u w : View) : Type 0 where
  pub each : (id : ℕ) (f : Inode) → u.files id ≡ None → w.files id ≡ Some f
      → (f.bytes ≡ []) ⊎ ((q : Elements) × T q × (w.names q ≡ file id))
