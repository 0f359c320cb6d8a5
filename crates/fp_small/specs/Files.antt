-- Files that are kept, and files that are created.
use Rattle.std.specs.Prelude.{◌≡◌, ℕ, List, Some, None, Contains}
use Rattle.fp_host.specs.Paths.{Elements, Slot, file}
use Rattle.fp_host.specs.View.{View, Inode}
use Rattle.fp_small.specs.declared.limits.TheConstants.{FILE_MODE}

-- Each file of `u` keeps its mode and its bytes, and remembered entries stay remembered
pub record KeepsFiles (u w : View) : Type 0 where
  pub rows : (id : ℕ) (f : Inode) → u.files id ≡ Some f → w.files id ≡ Some f
  pub stood : (x : Elements × Slot) → Contains u.stood x → Contains w.stood x

-- The files of `w` are exactly those of `u`, unchanged, and remembered entries stay remembered
pub record SameFiles (u w : View) : Type 0 where
  pub rows : (id : ℕ) → w.files id ≡ u.files id
  pub stood : (x : Elements × Slot) → Contains u.stood x → Contains w.stood x

-- At most one file was created
pub record MakesOneAtMost (u w : View) : Type 0 where
  pub one : (i j : ℕ) (f g : Inode) → u.files i ≡ None → w.files i ≡ Some f → u.files j ≡ None
      → w.files j ≡ Some g → i ≡ j

-- Exactly one file was created. It is at the path `p`, where it was put, with these bytes and the
-- permission bits 0644.
pub record MakesFile (p : Elements) (bytes : List ℕ) (u w : View) : Type 0 where
  pub id : ℕ
  pub free : u.files id ≡ None
  pub name : w.names p ≡ file id
  pub stood : Contains w.stood (p, file id)
  pub row : w.files id ≡ Some (record { mode = FILE_MODE; bytes = bytes })
  pub only : (j : ℕ) (f : Inode) → u.files j ≡ None → w.files j ≡ Some f → j ≡ id
