-- The objects of a commit in their order, with repetitions, and the first of them that has a fault.
use Rattle.std.specs.Prelude.{◌≡◌, ◌⊎◌, ℕ, zero, suc, List, [], ◌∷◌, ◌++◌, leb, if◌then◌else◌, Option, Some, None}
use Rattle.std.specs.Option.{option_or}
use Rattle.fp_base.specs.declared.object.ObjKind.{ObjKind}
use Rattle.fp_base.specs.declared.object.ObjKind.TheVariants as kinds
use Rattle.ost_model.specs.declared.limits.TheConstants.{MOST_OBJECTS, MOST_LEVELS}
use Rattle.ost_model.specs.declared.object.Object.{Object}
use Rattle.ost_model.specs.declared.object.Object.TheVariants as objects
use Rattle.ost_model.specs.Fields.{DirRow, FileRow, CommitView, TreeView}
use Rattle.ost_model.specs.Readers.{commit_of, tree_of}
use Rattle.ost_model.specs.Objects.{Have, Fault, too_many, too_deep, object_fault}

-- A place of an order: an object, and the number of levels that its directory is below the root
pub record Place : Type 0 where
  pub digest : List ℕ
  pub kind : ObjKind
  pub depth : ℕ

-- The element is in the list
abbrev pub In : {A : Type 0} → List A → A → Type 0
In [] a = ⊥
In (x ∷ xs) a = (x ≡ a) ⊎ In xs a

-- No element occurs twice
abbrev pub IsOnce : {A : Type 0} → List A → Type 0
IsOnce [] = Unit {0}
IsOnce (x ∷ xs) = (In xs x → ⊥) × IsOnce xs

-- The lists of all elements, one after the other
abbrev pub each_in : {A B : Type 0} → (A → List B) → List A → List B
each_in f [] = []
each_in f (x ∷ xs) = f x ++ each_in f xs

-- The value that a metadata object represents, by a reader of its bytes
abbrev pub read_as : {A : Type 0} → (List ℕ → Option A) → Option Object → Option A
read_as of (Some (objects.Meta bytes)) = of bytes
read_as of (Some (objects.File mode bytes)) = None
read_as of (Some (objects.Link text)) = None
read_as of None = None

-- The dirtree of a digest, if there is one that breaks no rule
abbrev pub tree_at : Have → List ℕ → Option TreeView
tree_at have d = read_as tree_of (have d kinds.DirTree)

-- The commit of a digest, if there is one that breaks no rule
abbrev pub commit_at : Have → List ℕ → Option CommitView
commit_at have d = read_as commit_of (have d kinds.Commit)

-- The place of a directory's dirtree
abbrev pub tree_place : ℕ → DirRow → Place
tree_place depth e = record { digest = e.tree; kind = kinds.DirTree; depth = depth }

-- The place of a directory's dirmeta
abbrev pub meta_place : ℕ → DirRow → Place
meta_place depth e = record { digest = e.meta; kind = kinds.DirMeta; depth = depth }

-- The place of a file
abbrev pub file_place : ℕ → FileRow → Place
file_place depth f = record { digest = f.digest; kind = kinds.File; depth = depth }

-- The places of files
abbrev pub file_places : ℕ → List FileRow → List Place
file_places depth [] = []
file_places depth (f ∷ fs) = file_place depth f ∷ file_places depth fs

-- The places in a directory: its files, then the places of each of its directories; none if its
-- dirtree can't be read
abbrev pub inside : (DirRow → List Place) → ℕ → Option TreeView → List Place
inside below depth None = []
inside below depth (Some v) = file_places depth v.files ++ each_in below v.dirs

-- The places of a directory: its dirtree, its dirmeta, then what is in it, down to as many levels
-- as the fuel
abbrev pub dir_places : Have → ℕ → ℕ → DirRow → List Place
dir_places have zero depth e = tree_place depth e ∷ (meta_place depth e ∷ [])
dir_places have (suc fuel) depth e = tree_place depth e
    ∷ (meta_place depth e ∷ inside (dir_places have fuel (suc depth)) depth (tree_at have e.tree))

-- The root directory of a commit, as a row of a dirtree with an empty name
abbrev pub root_row : CommitView → DirRow
root_row c = record { name = []; tree = c.tree; meta = c.meta }

-- The place of a commit
abbrev pub commit_place : List ℕ → Place
commit_place commit = record { digest = commit; kind = kinds.Commit; depth = 0 }

-- The places below a commit; none if it can't be read
abbrev pub below_commit : Have → Option CommitView → List Place
below_commit have None = []
below_commit have (Some c) = dir_places have (suc MOST_LEVELS) 0 (root_row c)

-- The order of a commit: the commit, then its root directory. A directory's places are its dirtree,
-- its dirmeta, its files, and then the places of each of its directories. Nothing is listed in a
-- directory 65 levels below the root, whose own place has a fault in any case.
abbrev pub order : Have → List ℕ → List Place
order have commit = commit_place commit ∷ below_commit have (commit_at have commit)

-- The first fault of a place with `n` places before it: too many places (above 200,000), too deep a
-- directory (above 64 levels below the root), else the given fault
abbrev pub limited : ℕ → Place → Option Fault → Option Fault
limited n p fault = if leb MOST_OBJECTS n then Some too_many
    else (if leb (suc MOST_LEVELS) p.depth then Some too_deep else fault)

-- The first fault of a place with `n` places before it
abbrev pub place_fault : Have → ℕ → Place → Option Fault
place_fault have n p = limited n p (object_fault p.digest p.kind (have p.digest p.kind))

-- A fault with its place
abbrev pub found_at : Place → Option Fault → Option (Place × Fault)
found_at p None = None
found_at p (Some f) = Some (p, f)

-- The first fault that a test finds in a list, with its place; `n` places come before the list
abbrev pub first_of : (ℕ → Place → Option Fault) → ℕ → List Place → Option (Place × Fault)
first_of test n [] = None
first_of test n (p ∷ ps) = option_or (found_at p (test n p)) (first_of test (suc n) ps)

-- The first fault of a commit, with its place
abbrev pub first_fault : Have → List ℕ → Option (Place × Fault)
first_fault have commit = first_of (place_fault have) 0 (order have commit)

-- The fault, if the object is a metadata object
abbrev pub of_metadata : ObjKind → Option Fault → Option Fault
of_metadata kinds.File fault = None
of_metadata kinds.Commit fault = fault
of_metadata kinds.DirTree fault = fault
of_metadata kinds.DirMeta fault = fault

-- The first fault of a place with `n` places before it, by a walk that reads only metadata objects
abbrev pub walk_fault : Have → ℕ → Place → Option Fault
walk_fault have n p =
    limited n p (of_metadata p.kind (object_fault p.digest p.kind (have p.digest p.kind)))

-- The first fault of a commit, with its place, by a walk that reads only metadata objects
abbrev pub first_walk_fault : Have → List ℕ → Option (Place × Fault)
first_walk_fault have commit = first_of (walk_fault have) 0 (order have commit)

-- Two sources have the same objects at these places
abbrev pub Agree : Have → Have → List Place → Type 0
Agree i j ps = (p : Place) → In ps p → j p.digest p.kind ≡ i p.digest p.kind
