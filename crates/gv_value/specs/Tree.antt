-- The values of GVariant, independent of their representation in memory: two values are equal if
-- their trees are.
use Rattle.std.specs.Prelude.{ℕ, ℤ, Bool, List, [], ◌∷◌}
use Rattle.gv_value.specs.declared.basic.Basic.{Basic}
use Rattle.gv_value.specs.declared.basic.Basic.TheVariants as basics
use Rattle.gv_value.specs.Shape.{Shape}

-- The content of a value of a basic type
pub data Content : Type 0 where
  truth : Bool → Content
  number : ℕ → Content
  integer : ℤ → Content
  -- A double, by its eight bytes
  eight : List ℕ → Content
  text : List ℕ → Content

mutual
  -- A value
  pub data Tree : Type 0 where
    leaf : Basic → Content → Tree
    variant : Shape → Tree → Tree
    array : Trees → Tree
    nothing : Tree
    just : Tree → Tree
    tuple : Trees → Tree
    entry : Tree → Tree → Tree

  -- A list of values
  pub data Trees : Type 0 where
    no_trees : Trees
    tree : Tree → Trees → Trees

-- The elements of an array of these bytes
abbrev pub byte_trees : List ℕ → Trees
byte_trees [] = no_trees
byte_trees (b ∷ bytes) = tree (leaf basics.Byte (number b)) (byte_trees bytes)
