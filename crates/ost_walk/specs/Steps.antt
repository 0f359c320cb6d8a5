-- The results of the steps of a walk.
use Rattle.std.specs.Prelude.{◌≡◌, ◌≤◌, ℕ, suc, List, [], ◌∷◌, ◌++◌, map, length, leb, true, reverse, Option, Some, None, Result, if◌then◌else◌}
use Rattle.std.specs.Str.{bytes_eq}
use Rattle.fp_base.specs.declared.object.ObjKind.{ObjKind}
use Rattle.fp_base.specs.declared.object.ObjKind.TheVariants as kinds
use Rattle.ost_model.specs.declared.object.Object.{Object}
use Rattle.ost_model.specs.declared.object.Object.TheVariants as objects
use Rattle.ost_model.specs.declared.limits.TheConstants.{MOST_METADATA_OBJECT_BYTES, MOST_OBJECTS, MOST_LEVELS}
use Rattle.ost_model.specs.Contents.{meta_digest}
use Rattle.ost_model.specs.Fields.{FileRow, CommitView, TreeView}
use Rattle.ost_model.specs.Objects.{Have, Fault, object_fault}
use Rattle.ost_model.specs.Order.{Place, order, walk_fault, first_walk_fault, first_of, tree_at, commit_at, file_places}
use Rattle.ost_model.specs.Walk.{Open, Walked, open_places, open_tree, open_meta, opened, heads, own_places}
use Rattle.ost_walk.specs.declared.ends.ObjectFault.{ObjectFault}
use Rattle.ost_walk.specs.declared.ends.ObjectFault.TheVariants as faults
use Rattle.ost_walk.specs.declared.ends.WalkEnd.{WalkEnd}
use Rattle.ost_walk.specs.declared.ends.WalkFault.{WalkFault}
use Rattle.ost_walk.specs.declared.dirs.Dir.{Dir}
use Rattle.ost_walk.specs.Ends.{EndsBy, IsFaultOf}

-- The bytes are those of the object, have at most 16 MiB, and match the digest
pub record IsNamed (d : List ℕ) (object : Option Object) (bytes : List ℕ) : Type 0 where
  pub there : object ≡ Some (objects.Meta bytes)
  pub short : leb (length bytes) MOST_METADATA_OBJECT_BYTES ≡ true
  pub named : bytes_eq (meta_digest bytes) d ≡ true

-- Holds if the result is the bytes of a metadata object, or the refusal with its fault
abbrev pub Fetches : List ℕ → ObjKind → Option Object → Result (List ℕ) WalkEnd → Type 0
Fetches d kind object result =
    EndsBy (IsNamed d object) (IsFaultOf d kind (object_fault d kind object)) result

-- The object has no fault
pub record IsGood (have : Have) (d : List ℕ) (kind : ObjKind) : Type 0 where
  pub good : object_fault d kind (have d kind) ≡ None

-- The dirtree has no fault, and is read as `view`
pub record IsTreeOf (have : Have) (d : List ℕ) (view : TreeView) : Type 0 where
  pub good : object_fault d kinds.DirTree (have d kinds.DirTree) ≡ None
  pub read : tree_at have d ≡ Some view

-- The digest and the kind of a place's object
abbrev pub place_name : Place → List ℕ × ObjKind
place_name p = (p.digest, p.kind)

-- ---- limits

-- The limit that a place exceeds which is preceded by `n` places, in a directory at this depth
-- below the root
abbrev pub limit_of : ℕ → ℕ → Option ObjectFault
limit_of n depth = if leb MOST_OBJECTS n then Some faults.TooMany
    else (if leb (suc MOST_LEVELS) depth then Some faults.TooDeep else None)

-- ---- the commit

-- The root directory with these digests of its dirtree and its dirmeta
abbrev pub dir_of : List ℕ × List ℕ → Dir
dir_of root = record { tree = root.0; meta = root.1; depth = 0 }

-- The root directory of a commit
abbrev pub root_dir : CommitView → Dir
root_dir view = record { tree = view.tree; meta = view.meta; depth = 0 }

-- The directory is the root directory of the commit, which has no fault
pub record IsRoot (have : Have) (commit : List ℕ) (dir : Dir) : Type 0 where
  pub view : CommitView
  pub good : object_fault commit kinds.Commit (have commit kinds.Commit) ≡ None
  pub read : commit_at have commit ≡ Some view
  pub is : dir ≡ root_dir view

-- ---- a directory

-- The directory of the model that a directory in a work list represents
abbrev pub open_of : Dir → Open
open_of dir = record { tree = dir.tree; meta = dir.meta; depth = dir.depth }

-- The directories of a work list in the order in which they are walked: the last one first
abbrev pub opens : List Dir → List Open
opens left = map open_of (reverse left)

-- The place of a directory's dirtree
abbrev pub tree_of : Dir → Place
tree_of dir = open_tree (open_of dir)

-- The place of a directory's dirmeta
abbrev pub meta_of : Dir → Place
meta_of dir = open_meta (open_of dir)

-- The fault of an object
abbrev pub own_fault : Have → List ℕ → ObjKind → Option Fault
own_fault have d kind = object_fault d kind (have d kind)

-- Holds if the refusal is that of this object, and names its own fault
abbrev pub IsOwnFault : Have → List ℕ → ObjKind → WalkFault → Type 0
IsOwnFault have d kind = IsFaultOf d kind (own_fault have d kind)

-- The first fault of a directory's dirtree and its dirmeta, which are preceded by `n` places
abbrev pub heads_fault : Have → ℕ → Dir → Option (Place × Fault)
heads_fault have n dir = first_of (walk_fault have) n (heads (open_of dir))

-- The first fault of a directory and of those in it, which are preceded by `n` places
abbrev pub dir_fault : Have → ℕ → Dir → Option (Place × Fault)
dir_fault have n dir = first_of (walk_fault have) n (open_places have (open_of dir))

-- The dirtree and the dirmeta of a directory, by digest and kind
abbrev pub heads_of : Dir → List (List ℕ × ObjKind)
heads_of dir = (dir.tree, kinds.DirTree) ∷ ((dir.meta, kinds.DirMeta) ∷ [])

-- The place, which is preceded by `n` places, has no fault for a walk that reads only metadata
-- objects
pub record IsChecked (have : Have) (n : ℕ) (p : Place) : Type 0 where
  pub good : walk_fault have n p ≡ None

-- The directory's dirtree, which is preceded by `n` places, has no fault and is read as `view`
pub record IsTree (have : Have) (n : ℕ) (dir : Dir) (view : TreeView) : Type 0 where
  pub good : walk_fault have n (tree_of dir) ≡ None
  pub read : tree_at have dir.tree ≡ Some view

-- The directory's dirtree and its dirmeta, which are preceded by `n` places, have no fault, and the
-- dirtree is read as `view`
pub record IsOpened (have : Have) (n : ℕ) (dir : Dir) (view : TreeView) : Type 0 where
  pub good : heads_fault have n dir ≡ None
  pub read : tree_at have dir.tree ≡ Some view

-- The files of a directory were added to the order, and none of them exceeds a limit
pub record AreListed (have : Have) (depth : ℕ) (files : List FileRow)
    (done done' : List (List ℕ × ObjKind)) : Type 0 where
  pub good : first_of (walk_fault have) (length done) (file_places depth files) ≡ None
  pub names : done' ≡ done ++ map place_name (file_places depth files)

-- A directory was walked without a fault: its objects were added to the order, and its directories
-- are walked next
pub record IsWalked (have : Have) (dir : Dir) (done done' : List (List ℕ × ObjKind))
    (left left' : List Dir) : Type 0 where
  pub view : TreeView
  pub low : dir.depth ≤ MOST_LEVELS
  pub read : tree_at have dir.tree ≡ Some view
  pub good : first_of (walk_fault have) (length done) (own_places (open_of dir) view) ≡ None
  pub names : done' ≡ done ++ map place_name (own_places (open_of dir) view)
  pub next : opens left' ≡ opened (suc dir.depth) view.dirs ++ opens left

-- The order of the commit is `done` and then the objects of the directories in `left`, and `done`
-- has no fault
pub record IsOnTheWay (have : Have) (commit : List ℕ) (done : List (List ℕ × ObjKind))
    (left : List Dir) : Type 0 where
  pub places : List Place
  pub names : done ≡ map place_name places
  pub walked : Walked have (walk_fault have) commit places (opens left)

-- The objects are those of the commit's order, and none of them has a fault
pub record IsOrder (have : Have) (commit : List ℕ) (done : List (List ℕ × ObjKind)) : Type 0 where
  pub names : done ≡ map place_name (order have commit)
  pub good : first_walk_fault have commit ≡ None
