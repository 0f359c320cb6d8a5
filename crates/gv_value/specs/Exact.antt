-- The laws of all types, values and bytes.
use Rattle.std.specs.Prelude.{◌≡◌, ℕ, ◌+◌, ◌≤◌, max, ◌↔◌, IsTrue, List, length, Some}
use Rattle.gv_value.specs.declared.limits.TheConstants.{MOST_BYTES}
use Rattle.gv_value.specs.Shape.{Shape, is_type}
use Rattle.gv_value.specs.Tree.{Tree, Trees, no_trees, tree}
use Rattle.gv_value.specs.TypeText.{type_text, type_of}
use Rattle.gv_value.specs.Spelled.{SpelledWithin, Spelled}
use Rattle.gv_value.specs.Spelling.{fits, spelling}
use Rattle.gv_value.specs.Reading.{value_of}

-- A text is read as a type if and only if it is the type string of that type, and the type is valid
abbrev pub ReadsTypes : Type 0
ReadsTypes = (text : List ℕ) (t : Shape) → (type_of text ≡ Some t)
    ↔ ((text ≡ type_text t) × IsTrue (is_type t))

-- Bytes are read as a value of a type if and only if they are the value's serialised form
abbrev pub ReadsValues : Type 0
ReadsValues =
    (t : Shape) (v : Tree) (bytes : List ℕ) → (value_of t bytes ≡ Some v) ↔ Spelled t v bytes

-- Bytes are a value's serialised form if and only if the value is of the type, they are its
-- spelling, and they have at most 16 MiB
abbrev pub SpellsValues : Type 0
SpellsValues = (t : Shape) (v : Tree) (bytes : List ℕ)
    → Spelled t v bytes ↔ (IsTrue (fits t v) × (bytes ≡ spelling v t) × (length bytes ≤ MOST_BYTES))

-- A value of a type has one serialised form
abbrev pub HasOneSpelling : Type 0
HasOneSpelling = (t : Shape) (v : Tree) (a b : List ℕ) → Spelled t v a → Spelled t v b → a ≡ b

-- Bytes are the serialised form of at most one value of a type
abbrev pub HasOneValue : Type 0
HasOneValue =
    (t : Shape) (v w : Tree) (bytes : List ℕ) → Spelled t v bytes → Spelled t w bytes → v ≡ w

-- The depth of a value: 0 for a basic value; otherwise 1 more than the deepest value in it, and at
-- least 1
abbrev mutual
  pub depth : Tree → ℕ
  depth (Tree.leaf b content) = 0
  depth (Tree.variant t v) = depth v + 1
  depth (Tree.array vs) = greatest_depth vs + 1
  depth Tree.nothing = 1
  depth (Tree.just v) = depth v + 1
  depth (Tree.tuple vs) = greatest_depth vs + 1
  depth (Tree.entry a b) = max (depth a) (depth b) + 1

  -- The depth of the deepest value, or 0 without values
  pub greatest_depth : Trees → ℕ
  greatest_depth no_trees = 0
  greatest_depth (tree v vs) = max (depth v) (greatest_depth vs)

-- The number in `SpelledWithin` bounds the value's depth, and nothing else
abbrev pub BoundsDepth : Type 0
BoundsDepth = (n m : ℕ) (t : Shape) (v : Tree) (bytes : List ℕ) → SpelledWithin n t v bytes
    → (depth v ≤ n) × (depth v ≤ m → SpelledWithin m t v bytes)
