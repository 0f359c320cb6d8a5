-- Making of missing directories.
use Rattle.std.specs.Prelude.{◌≡◌, ◌⊎◌, ◌<◌, ℕ, List, [], ◌∷◌, ◌++◌, length, take, slice_index_or, Contains}
use Rattle.fp_host.specs.Paths.{Elements, Slot, absent, dir}
use Rattle.fp_host.specs.View.{View}
use Rattle.fp_host.specs.Outcome.{Spot, folder}

-- The ancestors of a path without the root, the outermost first
abbrev pub ancestors : Elements → List Elements
ancestors [] = []
ancestors (x ∷ []) = []
ancestors (x ∷ y ∷ up) = ancestors (y ∷ up) ++ (y ∷ up) ∷ []

-- A crash may leave a directory at the path `p`
abbrev pub FolderAt : Elements → Elements → Spot → Type 0
FolderAt p q spot = (q ≡ p) × (spot ≡ folder)

-- The name `p` may become a directory
abbrev pub DirAt : Elements → Elements → Slot → Type 0
DirAt p q e = (q ≡ p) × (e ≡ dir)

-- A crash may leave a directory at each of these paths
abbrev pub FoldersAt : List Elements → Elements → Spot → Type 0
FoldersAt paths q spot = Contains paths q × (spot ≡ folder)

-- Each of these names may become a directory
abbrev pub DirsAt : List Elements → Elements → Slot → Type 0
DirsAt paths q e = Contains paths q × (e ≡ dir)

-- The path is absent or a directory
abbrev pub IsFree : View → Elements → Type 0
IsFree v q = (v.names q ≡ absent) ⊎ (v.names q ≡ dir)

-- Each of these paths is absent or a directory
pub record AreFree (paths : List Elements) (v : View) : Type 0 where
  pub free : (q : Elements) → Contains paths q → IsFree v q

-- Each of these paths is a directory
pub record AreDirs (paths : List Elements) (v : View) : Type 0 where
  pub dirs : (q : Elements) → Contains paths q → v.names q ≡ dir

-- The parent of each path is the root, or a path that comes before it in the list
abbrev pub IsLadder : List Elements → Type 0
IsLadder paths = (i : ℕ) (x : List ℕ) (up : Elements) → i < length paths
    → slice_index_or paths i (x ∷ up) ≡ x ∷ up → (up ≡ []) ⊎ Contains (take i paths) up
