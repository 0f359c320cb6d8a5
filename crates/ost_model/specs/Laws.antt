-- The laws of all stores, commits and disks.
use Rattle.std.specs.Prelude.{◌≡◌, ◌⊎◌, true, ℕ, suc, List, [], ◌∷◌, ◌++◌, ◌+◌, ◌≤◌, length, Bool, Option, Some, None}
use Rattle.std.specs.Option.{option_or}
use Rattle.fp_host.specs.Paths.{Elements}
use Rattle.fp_name.specs.Hex.{is_digest}
use Rattle.fp_host.specs.Outcome.{Disk, gone, shows}
use Rattle.fp_host.specs.Moments.{Moments}
use Rattle.fp_host.specs.Remote.{Holdings}
use Rattle.fp_base.specs.declared.object.ObjKind.{ObjKind}
use Rattle.fp_base.specs.declared.object.ObjKind.TheVariants as kinds
use Rattle.ost_model.specs.declared.limits.TheConstants.{MOST_LEVELS}
use Rattle.ost_model.specs.Fields.{DirRow, TreeView, CommitView}
use Rattle.ost_model.specs.Objects.{Have, Fault, Named, object_path, object_fault, store, supply}
use Rattle.ost_model.specs.Order.{Place, Agree, order, first_fault, first_walk_fault, first_of, tree_at, commit_at}
use Rattle.ost_model.specs.Look.{look, look_fault, directory, file_at, Reached, FileReached}
use Rattle.ost_model.specs.Standing.{Stands, SameBelow, SameObjects}
use Rattle.ost_model.specs.Stores.{objects_folder, IsStore, SameStore, KeepsStore}
use Rattle.ost_model.specs.Remotes.{remote, Supplies, Stores}
use Rattle.ost_model.specs.Walk.{Open, open_places, pending, opened, heads, own_places, Walked}

-- If two sources have the same objects at the places of a commit's order, its order is the same in
-- both
abbrev pub OrderIsLocal : Type 0
OrderIsLocal =
    (i j : Have) (commit : List ℕ) → Agree i j (order i commit) → order j commit ≡ order i commit

-- If two sources have the same objects at the places of a commit's order, its first fault is the
-- same in both
abbrev pub FaultIsLocal : Type 0
FaultIsLocal = (i j : Have) (commit : List ℕ) → Agree i j (order i commit)
    → first_fault j commit ≡ first_fault i commit

-- If a commit has no fault and two sources have the same objects at the places of its order, what
-- is found at each of its paths is the same in both
abbrev pub LookIsLocal : Type 0
LookIsLocal =
    (i j : Have) (commit : List ℕ) → first_fault i commit ≡ None → Agree i j (order i commit)
    → (rest : Elements) → look j commit rest ≡ look i commit rest

-- A directory found at a path of a commit without a fault is in its order, with all that is in it
abbrev pub DirsAreReached : Type 0
DirsAreReached = (have : Have) (commit : List ℕ) → first_fault have commit ≡ None
    → (rest : Elements) (e : DirRow) → look have commit rest ≡ directory e → Reached have commit e

-- A file found at a path of a commit without a fault is in its order
abbrev pub FilesAreReached : Type 0
FilesAreReached = (have : Have) (commit : List ℕ) → first_fault have commit ≡ None
    → (rest : Elements) (digest : List ℕ) → look have commit rest ≡ file_at digest
    → FileReached have commit digest

-- A lookup of any path in a commit without a fault meets no fault
abbrev pub PathsHaveNoFault : Type 0
PathsHaveNoFault = (have : Have) (commit : List ℕ) → first_fault have commit ≡ None
    → (path : Elements) → look_fault have commit path ≡ None

-- A commit checked out in a directory stays so if its paths and the objects of its order stay
abbrev pub StandingIsLocal : Type 0
StandingIsLocal =
    (reads : List ℕ → Bool) (root : Elements) (i j : Disk) (commit : List ℕ) (dir : Elements)
    → Stands reads root i commit dir → SameBelow dir i j → SameObjects root commit i j
    → Stands reads root j commit dir

-- A store whose objects match their names stays one if all that is below `objects` stays
abbrev pub StoreIsLocal : Type 0
StoreIsLocal = (root : Elements) (i j : Disk) → SameStore root i j → IsStore root i → IsStore root j

-- A store whose objects match their names stays one if each path below `objects` keeps its node, or
-- gets one that a store may have there
abbrev pub StoreGoesOn : Type 0
StoreGoesOn = (root : Elements) (i j : Disk) → KeepsStore root i j → IsStore root i → IsStore root j

-- With nothing below `objects`, there is a store whose objects match their names
abbrev pub NothingIsAStore : Type 0
NothingIsAStore = (root : Elements) (disk : Disk)
    → ((rest : Elements) (xx : List ℕ) → disk (rest ++ (xx ∷ objects_folder root)) ≡ gone)
    → IsStore root disk

-- A store whose objects match their names has, at the path of an object, that object or nothing
abbrev pub ObjectsAreNamed : Type 0
ObjectsAreNamed = (root : Elements) (disk : Disk) → IsStore root disk
    → (d : List ℕ) (kind : ObjKind) → is_digest d ≡ true
    → (disk (object_path root d kind) ≡ gone) ⊎ Named d kind (disk (object_path root d kind))

-- A store whose objects match their names has nothing below the path of an object
abbrev pub ObjectsAreNoFolders : Type 0
ObjectsAreNoFolders = (root : Elements) (disk : Disk) → IsStore root disk
    → (x : List ℕ) (rest : Elements) (name xx : List ℕ)
    → disk (x ∷ (rest ++ (name ∷ (xx ∷ objects_folder root)))) ≡ gone

-- The path of an object determines its digest and its kind
abbrev pub NamesAreApart : Type 0
NamesAreApart =
    (root : Elements) (d e : List ℕ) (k m : ObjKind) → is_digest d ≡ true → is_digest e ≡ true
    → object_path root d k ≡ object_path root e m → (d ≡ e) × (k ≡ m)

-- A dirtree without a fault can be read
abbrev pub GoodTreesAreRead : Type 0
GoodTreesAreRead =
    (have : Have) (d : List ℕ) → object_fault d kinds.DirTree (have d kinds.DirTree) ≡ None
    → (v : TreeView) × (tree_at have d ≡ Some v)

-- A commit without a fault can be read
abbrev pub GoodCommitsAreRead : Type 0
GoodCommitsAreRead =
    (have : Have) (d : List ℕ) → object_fault d kinds.Commit (have d kinds.Commit) ≡ None
    → (v : CommitView) × (commit_at have d ≡ Some v)

-- The first fault of two lists, one after the other, is that of the first list, else that of the
-- second
abbrev pub FirstOfTwo : Type 0
FirstOfTwo = (test : ℕ → Place → Option Fault) (n : ℕ) (xs ys : List Place)
    → first_of test n (xs ++ ys) ≡ option_or (first_of test n xs) (first_of test (n + length xs) ys)

-- A commit without a fault has none either by a walk that reads only metadata objects
abbrev pub WalkFaultsAreFaults : Type 0
WalkFaultsAreFaults = (have : Have) (commit : List ℕ) → first_fault have commit ≡ None
    → first_walk_fault have commit ≡ None

-- The places of a directory begin with its dirtree and its dirmeta
abbrev pub OpensWithHeads : Type 0
OpensWithHeads =
    (have : Have) (o : Open) → (rest : List Place) × (open_places have o ≡ heads o ++ rest)

-- If the first directory of a work list can be read and is at most MOST_LEVELS deep, its own places
-- come first, and then those of its directories
abbrev pub OpensAsRead : Type 0
OpensAsRead = (have : Have) (o : Open) (v : TreeView) (left : List Open) → o.depth ≤ MOST_LEVELS
    → tree_at have o.tree ≡ Some v
    → pending have (o ∷ left) ≡ own_places o v ++ pending have (opened (suc o.depth) v.dirs ++ left)

-- The invariant of a walk still holds once the next directory's own places are done and have no
-- fault, and its directories are put in front of the work list
abbrev pub WalkGoesOn : Type 0
WalkGoesOn = (have : Have) (test : ℕ → Place → Option Fault) (commit : List ℕ) (done : List Place)
    (o : Open) (left : List Open) (v : TreeView)
    → Walked have test commit done (o ∷ left) → o.depth ≤ MOST_LEVELS
    → tree_at have o.tree ≡ Some v → first_of test (length done) (own_places o v) ≡ None
    → Walked have test commit (done ++ own_places o v) (opened (suc o.depth) v.dirs ++ left)

-- A walk with an empty work list has done the whole order, which has no fault
abbrev pub WalkEnds : Type 0
WalkEnds = (have : Have) (test : ℕ → Place → Option Fault) (commit : List ℕ) (done : List Place)
    → Walked have test commit done [] → (done ≡ order have commit)
    × (first_of test 0 (order have commit) ≡ None)

-- The first fault among the next places of a walk is the first fault of the order
abbrev pub WalkFindsTheFirst : Type 0
WalkFindsTheFirst = (have : Have) (test : ℕ → Place → Option Fault) (commit : List ℕ)
    (done : List Place) (left : List Open)
    (next more : List Place) (p : Place) (f : Fault) → Walked have test commit done left
    → pending have left ≡ next ++ more
    → first_of test (length done) next ≡ Some (p, f)
    → first_of test 0 (order have commit) ≡ Some (p, f)

-- Each host that reports its content stores some objects
abbrev pub HostsStore : Type 0
HostsStore = (root : Elements) (m : Moments) → Stores root (Some m) (store root (shows m.now))

-- Each host and remotes that report their content supply some objects
abbrev pub HostsSupply : Type 0
HostsSupply = (root : Elements) (url : Option (List ℕ)) (m : Moments) (held : Holdings)
    → Supplies root url (Some m) (Some held) (supply (store root (shows m.now)) (remote held url))

-- There are remotes that supply an empty store with a commit without a fault
abbrev pub ACommitIsSupplied : Type 0
ACommitIsSupplied = (m : Moments) (url : List ℕ)
    → ((d : List ℕ) (kind : ObjKind) → store [] (shows m.now) d kind ≡ None)
    → (held : Holdings) × (have : Have) × (commit : List ℕ)
    × Supplies [] (Some url) (Some m) (Some held) have
    × (is_digest commit ≡ true) × (first_fault have commit ≡ None)
