-- Stores whose objects match their names.
use Rattle.std.specs.Prelude.{◌≡◌, ◌⊎◌, ℕ, List, ◌∷◌, ◌++◌, length, Bool, true, ◌&&◌, ◌==◌, is_some, codes}
use Rattle.std.specs.List.{list_all}
use Rattle.fp_name.specs.Hex.{is_digest, digit_value}
use Rattle.fp_host.specs.Paths.{Elements}
use Rattle.fp_host.specs.Outcome.{Spot, gone, folder, Disk}
use Rattle.fp_base.specs.declared.object.ObjKind.{ObjKind}
use Rattle.ost_model.specs.Objects.{object_path, Named}

-- The directory `objects` of the store at `root`
abbrev pub objects_folder : Elements → Elements
objects_folder root = codes "objects" ∷ root

-- Tests whether a name is two lower-case hexadecimal digits
abbrev pub is_prefix : List ℕ → Bool
is_prefix name = length name == 2 && list_all (λ c. is_some (digit_value c)) name

-- The path is that of an object in the store at `root`, and the node is that object
pub record IsObject (root path : Elements) (spot : Spot) : Type 0 where
  pub digest : List ℕ
  pub kind : ObjKind
  pub digits : is_digest digest ≡ true
  pub name : path ≡ object_path root digest kind
  pub named : Named digest kind spot

-- A store may have this node at a name directly below `objects`: nothing, or a directory if the
-- name is two hexadecimal digits
abbrev pub MayBePrefix : List ℕ → Spot → Type 0
MayBePrefix xx spot = (spot ≡ gone) ⊎ ((spot ≡ folder) × (is_prefix xx ≡ true))

-- A store may have this node at a path two or more levels below `objects`: nothing, or the object
-- that the path names
abbrev pub MayBeObject : Elements → Elements → Spot → Type 0
MayBeObject root path spot = (spot ≡ gone) ⊎ IsObject root path spot

-- The store at `root` has objects that match their names, and nothing else below `objects`. Each
-- name directly below it is absent, or a directory named by two hexadecimal digits. Each path
-- further below is absent, or that of an object that is `Named`.
pub record IsStore (root : Elements) (disk : Disk) : Type 0 where
  pub prefixes : (xx : List ℕ) → MayBePrefix xx (disk (xx ∷ objects_folder root))
  pub objects : (rest : Elements) (name xx : List ℕ)
      → MayBeObject root (rest ++ (name ∷ (xx ∷ objects_folder root)))
      (disk (rest ++ (name ∷ (xx ∷ objects_folder root))))

-- Two disks have the same node at each path below `objects`
abbrev pub SameStore : Elements → Disk → Disk → Type 0
SameStore root i j = (rest : Elements) (xx : List ℕ)
    → j (rest ++ (xx ∷ objects_folder root)) ≡ i (rest ++ (xx ∷ objects_folder root))

-- The disk `j` has, at each path below `objects`, the node of the disk `i`, or one that a store may
-- have there
pub record KeepsStore (root : Elements) (i j : Disk) : Type 0 where
  pub prefixes : (xx : List ℕ) → (j (xx ∷ objects_folder root) ≡ i (xx ∷ objects_folder root))
      ⊎ MayBePrefix xx (j (xx ∷ objects_folder root))
  pub objects : (rest : Elements) (name xx : List ℕ)
      → (j (rest ++ (name ∷ (xx ∷ objects_folder root)))
      ≡ i (rest ++ (name ∷ (xx ∷ objects_folder root))))
      ⊎ MayBeObject root (rest ++ (name ∷ (xx ∷ objects_folder root)))
      (j (rest ++ (name ∷ (xx ∷ objects_folder root))))
