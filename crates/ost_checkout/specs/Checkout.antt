-- Commits that are checked out into a directory.
use Rattle.std.specs.Prelude.{◌≡◌, ℕ, List, ◌++◌, None}
use Rattle.fp_host.specs.Paths.{Elements, Slot, absent, dir}
use Rattle.fp_host.specs.View.{View}
use Rattle.fp_host.specs.Calls.{HasFolder}
use Rattle.fp_host.specs.Outcome.{Spot, folder, Disk, Leaves, shows}
use Rattle.fp_host.specs.Frame.{Keeps, NoPath}
use Rattle.fp_small.specs.Clear.{IsWithin}
use Rattle.fp_base.specs.declared.object.ObjKind.{ObjKind}
use Rattle.fp_base.specs.declared.object.ObjKind.TheVariants as kinds
use Rattle.ost_model.specs.Objects.{object_path, store}
use Rattle.ost_model.specs.Order.{first_fault}
use Rattle.ost_model.specs.Look.{Found, nothing, directory, file_at, look}
use Rattle.ost_model.specs.Standing.{expected, deploy_name}

-- Some crash leaves this node at the path
pub record MayBeLeft (v : View) (p : Elements) (spot : Spot) : Type 0 where
  pub disk : Disk
  pub left : Leaves v disk
  pub is : spot ≡ disk p

-- A checkout may leave this node where the commit has `found`: a directory, or a node that some
-- crash leaves at the object's path in the store at `root`
abbrev pub SpotOf : Elements → View → Found → Spot → Type 0
SpotOf root v nothing spot = ⊥
SpotOf root v (directory row) spot = spot ≡ folder
SpotOf root v (file_at d) spot = MayBeLeft v (object_path root d kinds.File) spot

-- A checkout may give a name this entry where the commit has `found`: a directory, or the entry of
-- the object's path, which is a hard link of its file or a symlink of its text
abbrev pub SlotOf : Elements → View → Found → Slot → Type 0
SlotOf root v nothing e = ⊥
SlotOf root v (directory row) e = e ≡ dir
SlotOf root v (file_at d) e = e ≡ v.names (object_path root d kinds.File)

-- The path is one of the commit's in the directory `to`, and a checkout may leave this node there
pub record ChecksOutAt (root : Elements) (commit : List ℕ) (to : Elements) (v : View)
    (q : Elements) (spot : Spot) : Type 0 where
  pub rest : Elements
  pub at : q ≡ rest ++ to
  pub may : SpotOf root v (look (store root (shows v)) commit rest) spot

-- The path is one of the commit's in the directory `to`, and a checkout may give it this entry
pub record ChecksOutName (root : Elements) (commit : List ℕ) (to : Elements) (v : View)
    (q : Elements) (e : Slot) : Type 0 where
  pub rest : Elements
  pub at : q ≡ rest ++ to
  pub may : SlotOf root v (look (store root (shows v)) commit rest) e

-- No object of the store at `root` has its path at or below `to`
pub record IsApart (root to : Elements) : Type 0 where
  pub off : (d : List ℕ) (kind : ObjKind) → IsWithin to (object_path root d kind) → ⊥

-- If no object has its path at or below `to`, paths of the commit may be made in the directory
-- `to`, each as in the commit, and nothing else changes
pub record ChecksOut (root : Elements) (commit : List ℕ) (to : Elements) (u w : View) : Type 0 where
  pub keeps : IsApart root to
      → Keeps (ChecksOutAt root commit to u) (ChecksOutName root commit to u) NoPath u w

-- The commit is checked out in the directory `to`: each path of the commit is there, a directory as
-- a directory, a file as a hard link of its object's file, a symlink with its object's text. No
-- other path is there.
pub record IsCheckedOut (root : Elements) (commit : List ℕ) (to : Elements) (v : View) : Type 0
  where
    pub paths : (rest : Elements) → shows v (rest ++ to)
        ≡ expected root (shows v) (look (store root (shows v)) commit rest)

-- The commit has no entry `deploy`, and was checked out in the directory `to` if no object has its
-- path at or below `to`
pub record WasCheckedOut (root : Elements) (commit : List ℕ) (to : Elements) (u w : View) : Type 0
  where
    pub whole : IsApart root to → IsCheckedOut root commit to w
    pub no_deploy : look (store root (shows u)) commit deploy_name ≡ nothing

-- The commit's root directory has an entry `deploy`
pub record HasReserved (root : Elements) (commit : List ℕ) (v : View) : Type 0 where
  pub there : look (store root (shows v)) commit deploy_name ≡ nothing → ⊥

-- The directory `to` is absent, its parent is a directory, no object has its path at or below `to`,
-- and the commit has no fault in the store
pub record CanCheckOut (root : Elements) (commit : List ℕ) (to : Elements) (v : View) : Type 0 where
  pub apart : IsApart root to
  pub free : v.names to ≡ absent
  pub above : HasFolder v to
  pub whole : first_fault (store root (shows v)) commit ≡ None
