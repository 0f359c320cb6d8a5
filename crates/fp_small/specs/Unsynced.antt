-- Changes without a sync, and the files that they create.
use Rattle.std.specs.Prelude.{◌≡◌, ℕ, true, Some, None, Contains}
use Rattle.fp_host.specs.Paths.{Elements, Slot}
use Rattle.fp_host.specs.View.{View, Inode}

-- Nothing was synced between `u` and `w`. A crash may still leave each earlier entry of a name in
-- `u`; and each file of `u` still exists, and counts as created since the last sync exactly if it
-- did in `u`.
pub record Unsynced (u w : View) : Type 0 where
  pub earlier : (q : Elements) (e : Slot) → Contains (u.earlier q) e → Contains (w.earlier q) e
  pub dirty : (id : ℕ) (f : Inode) → u.files id ≡ Some f → w.dirty id ≡ u.dirty id
  pub rows : (id : ℕ) → w.files id ≡ None → u.files id ≡ None

-- Nothing was synced, and no file was created
pub record MakesNoFile (u w : View) : Type 0 where
  pub unsynced : Unsynced u w
  pub none : (id : ℕ) → u.files id ≡ None → w.files id ≡ None

-- Nothing was synced, and at most one file was created, which isn't synced
pub record MakesOneFile (u w : View) : Type 0 where
  pub unsynced : Unsynced u w
  pub one : (i j : ℕ) (f g : Inode) → u.files i ≡ None → w.files i ≡ Some f → u.files j ≡ None
      → w.files j ≡ Some g → i ≡ j
  pub dirty : (id : ℕ) (f : Inode) → u.files id ≡ None → w.files id ≡ Some f → w.dirty id ≡ true
