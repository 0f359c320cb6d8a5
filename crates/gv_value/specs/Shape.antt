-- The types of GVariant, independent of their representation in memory.
use Rattle.std.specs.Prelude.{ℕ, zero, suc, Bool, true, false, ◌&&◌}
use Rattle.gv_value.specs.declared.limits.TheConstants.{MOST_DEPTH}
use Rattle.gv_value.specs.declared.basic.Basic.{Basic}

mutual
  -- A type
  pub data Shape : Type 0 where
    basic : Basic → Shape
    variant : Shape
    array : Shape → Shape
    maybe : Shape → Shape
    tuple : Shapes → Shape
    -- A dictionary entry, with its key and its value
    entry : Shape → Shape → Shape

  -- A list of types
  pub data Shapes : Type 0 where
    no_shapes : Shapes
    shape : Shape → Shapes → Shapes

-- Tests whether a type is basic
abbrev pub is_basic : Shape → Bool
is_basic (basic b) = true
is_basic variant = false
is_basic (array t) = false
is_basic (maybe t) = false
is_basic (tuple ts) = false
is_basic (entry k v) = false

-- Tests whether each type of the list passes a test
abbrev pub all_shapes : (Shape → Bool) → Shapes → Bool
all_shapes test no_shapes = true
all_shapes test (shape t ts) = test t && all_shapes test ts

-- Tests whether a type nests at most this deep and its dictionary keys are basic. A basic type has
-- depth 0, a variant 1, and each other type is 1 deeper than the deepest type in it.
abbrev pub nests_within : ℕ → Shape → Bool
nests_within n (basic b) = true
nests_within zero variant = false
nests_within zero (array t) = false
nests_within zero (maybe t) = false
nests_within zero (tuple ts) = false
nests_within zero (entry k v) = false
nests_within (suc n) variant = true
nests_within (suc n) (array t) = nests_within n t
nests_within (suc n) (maybe t) = nests_within n t
nests_within (suc n) (tuple ts) = all_shapes (nests_within n) ts
nests_within (suc n) (entry k v) = is_basic k && nests_within n v

-- Tests whether a type is valid: it nests at most 64 deep, and its dictionary keys are basic
abbrev pub is_type : Shape → Bool
is_type = nests_within MOST_DEPTH
