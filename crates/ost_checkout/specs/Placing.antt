-- Making the paths of rows.
use Rattle.std.specs.Prelude.{◌≡◌, ◌≢◌, ℕ, List, true, is_some, Contains}
use Rattle.fp_host.specs.Paths.{Elements, Slot, absent, dir, link}
use Rattle.fp_host.specs.View.{View}
use Rattle.fp_host.specs.Calls.{HasFolder, IsLeaf}
use Rattle.fp_host.specs.Outcome.{Spot, folder, shows}
use Rattle.fp_host.specs.Frame.{Keeps, NoPath}
use Rattle.fp_base.specs.declared.object.ObjKind.{ObjKind}
use Rattle.fp_base.specs.declared.object.ObjKind.TheVariants as kinds
use Rattle.ost_model.specs.Objects.{object_path, store}
use Rattle.ost_checkout.specs.declared.rows.Row.{Row}
use Rattle.ost_checkout.specs.declared.rows.Entry.{Entry}
use Rattle.ost_checkout.specs.declared.rows.Entry.TheVariants as entries
use Rattle.ost_checkout.specs.Checkout.{MayBeLeft}
use Rattle.ost_checkout.specs.Rows.{paths_of, IsLadder}

-- Making an entry may leave this node: a directory, or a node that some crash leaves at the
-- object's path
abbrev pub EntrySpot : Elements → View → Entry → Spot → Type 0
EntrySpot root v (entries.Dir tree meta) spot = spot ≡ folder
EntrySpot root v (entries.File d) spot = MayBeLeft v (object_path root d kinds.File) spot

-- Making an entry may give a name this directory entry: a directory, or the one of the object's
-- path
abbrev pub EntrySlot : Elements → View → Entry → Slot → Type 0
EntrySlot root v (entries.Dir tree meta) e = e ≡ dir
EntrySlot root v (entries.File d) e = e ≡ v.names (object_path root d kinds.File)

-- ---- one name

-- The path is `to`, and some crash leaves this node at `from`
abbrev pub CopiesAt : Elements → Elements → View → Elements → Spot → Type 0
CopiesAt from to v q spot = (q ≡ to) × MayBeLeft v from spot

-- The name is `to`, and the entry is that of `from`
abbrev pub CopiesName : Elements → Elements → View → Elements → Slot → Type 0
CopiesName from to v q e = (q ≡ to) × (e ≡ v.names from)

-- The name `to` may get the entry of `from`, and nothing else changes. No file is created, and none
-- is appended to.
pub record Copies (from to : Elements) (u w : View) : Type 0 where
  pub keeps : Keeps (CopiesAt from to u) (CopiesName from to u) NoPath u w

-- The name `to` was absent and got the entry of `from`
pub record WasCopied (from to : Elements) (u w : View) : Type 0 where
  pub free : u.names to ≡ absent
  pub same : w.names to ≡ u.names from
  pub there : w.names to ≢ absent

-- The path `to` is absent, and its parent is a directory
pub record CanCopyTo (to : Elements) (v : View) : Type 0 where
  pub above : HasFolder v to
  pub free : v.names to ≡ absent

-- The path `from` is a symlink, the path `to` is absent, and its parent is a directory
pub record CanCopyLink (from to : Elements) (v : View) : Type 0 where
  pub text : List ℕ
  pub is : v.names from ≡ link text
  pub place : CanCopyTo to v

-- The path `from` is a file or a symlink, the path `to` is absent, and its parent is a directory
pub record CanCopyObject (from to : Elements) (v : View) : Type 0 where
  pub leaf : IsLeaf (v.names from)
  pub place : CanCopyTo to v

-- ---- one row

-- The path is the row's, and making it may leave this node
abbrev pub RowAt : Elements → Row → View → Elements → Spot → Type 0
RowAt root row v q spot = (q ≡ row.path) × EntrySpot root v row.entry spot

-- The name is the row's, and making it may give it this entry
abbrev pub RowName : Elements → Row → View → Elements → Slot → Type 0
RowName root row v q e = (q ≡ row.path) × EntrySlot root v row.entry e

-- The row's path may be made, and nothing else changes
pub record PutsRow (root : Elements) (row : Row) (u w : View) : Type 0 where
  pub keeps : Keeps (RowAt root row u) (RowName root row u) NoPath u w

-- The row's path was absent and was made
pub record WasPut (root : Elements) (row : Row) (u w : View) : Type 0 where
  pub free : u.names row.path ≡ absent
  pub slot : EntrySlot root u row.entry (w.names row.path)
  pub there : w.names row.path ≢ absent

-- The store at `root` has the object of a file or symlink
abbrev pub EntryThere : Elements → View → Entry → Type 0
EntryThere root v (entries.Dir tree meta) = Unit {0}
EntryThere root v (entries.File d) = is_some (store root (shows v) d kinds.File) ≡ true

-- The row's path is absent, its parent is a directory, and the store has its object
pub record CanPut (root : Elements) (row : Row) (v : View) : Type 0 where
  pub above : HasFolder v row.path
  pub free : v.names row.path ≡ absent
  pub there : EntryThere root v row.entry

-- ---- rows, one after another

-- The path is that of one of the rows, and making it may leave this node
pub record IsRowAt (root : Elements) (rows : List Row) (v : View) (q : Elements)
    (spot : Spot) : Type 0 where
  pub row : Row
  pub among : Contains rows row
  pub may : RowAt root row v q spot

-- The name is that of one of the rows, and making it may give it this entry
pub record IsRowName (root : Elements) (rows : List Row) (v : View) (q : Elements)
    (e : Slot) : Type 0 where
  pub row : Row
  pub among : Contains rows row
  pub may : RowName root row v q e

-- No object's path is that of a row, and each row comes after the directory that contains it
pub record Fits (root : Elements) (rows : List Row) : Type 0 where
  pub apart : (d : List ℕ) (kind : ObjKind) → Contains (paths_of rows) (object_path root d kind) → ⊥
  pub to : Elements
  pub ladder : IsLadder to rows

-- If the rows fit (`Fits`), their paths may be made, and nothing else changes
pub record PutsRows (root : Elements) (rows : List Row) (u w : View) : Type 0 where
  pub keeps : Fits root rows → Keeps (IsRowAt root rows u) (IsRowName root rows u) NoPath u w

-- The paths of the rows were absent and were made
pub record WerePut (root : Elements) (rows : List Row) (u w : View) : Type 0 where
  pub each : (row : Row) → Contains rows row → WasPut root row u w

-- The paths of the rows are absent, the parent of the first is a directory, and the store has their
-- objects
pub record CanPutRows (root : Elements) (rows : List Row) (v : View) : Type 0 where
  pub fits : Fits root rows
  pub above : HasFolder v fits.to
  pub free : (row : Row) → Contains rows row → v.names row.path ≡ absent
  pub there : (row : Row) → Contains rows row → EntryThere root v row.entry
