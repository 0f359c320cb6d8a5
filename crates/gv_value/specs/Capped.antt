-- Sizes that are capped at one byte above 16 MiB, so that they fit in an integer of the code.
use Rattle.std.specs.Prelude.{◌≡◌, ℕ, ◌+◌, ◌≤◌, min, max, nat_le, if◌then◌else◌, Option, Some, None, option_map, option_and_then}
use Rattle.gv_value.specs.declared.limits.TheConstants.{MOST_BYTES, TOO_LARGE}
use Rattle.gv_value.specs.Shape.{Shape, basic, variant, array, maybe, tuple, entry, Shapes, no_shapes, shape}
use Rattle.gv_value.specs.Layout.{padded_end, filled, align_of, greatest_align, size_of, end_of}
use Rattle.gv_value.specs.declared.extent.Extent.{Extent}

-- The size, or `TOO_LARGE` if it is above that
abbrev pub capped : ℕ → ℕ
capped n = min n TOO_LARGE

-- The capped size, if there is one
abbrev pub capped_size : Option ℕ → Option ℕ
capped_size size = option_map capped size

-- The extent is that of a type
pub record IsExtent (e : Extent) (t : Shape) : Type 0 where
  pub align : e.align ≡ align_of t
  pub size : e.size ≡ capped_size (size_of t)

-- The capped position at which one more member ends, after members that end at `at`; None if `at`
-- or `size` is None
abbrev pub run_end : Option ℕ → ℕ → Option ℕ → Option ℕ
run_end at align size =
    option_and_then (λ a. option_map (λ n. capped (padded_end a align n)) size) at

-- The extent is that of members with this greatest alignment and this end
pub record IsRun (e : Extent) (align : ℕ) (end : Option ℕ) : Type 0 where
  pub align_is : e.align ≡ align
  pub end_is : e.size ≡ capped_size end

-- The size if it is at most 16 MiB
abbrev pub if_small : ℕ → Option ℕ
if_small n = if nat_le n MOST_BYTES then Some n else None

-- The size of a type, if it is fixed and at most 16 MiB
abbrev pub small_size : Shape → Option ℕ
small_size t = option_and_then if_small (size_of t)
