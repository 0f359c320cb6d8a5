-- Names that keep their entries and content.
use Rattle.std.specs.Prelude.{◌≡◌, ℕ, Some}
use Rattle.fp_host.specs.Paths.{Elements, file}
use Rattle.fp_host.specs.View.{View, Inode}

-- The name keeps its entry, and its file keeps its mode and its bytes
pub record Stays (q : Elements) (u w : View) : Type 0 where
  pub name : w.names q ≡ u.names q
  pub row : (id : ℕ) (f : Inode) → u.names q ≡ file id → u.files id ≡ Some f → w.files id ≡ Some f
