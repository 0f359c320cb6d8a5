-- The type that a `Plan` is for, and whether its extents are right.
use Rattle.std.specs.Prelude.{◌≡◌, ℕ, Bool, true, false, ◌&&◌, ◌==◌, IsTrue, List, [], ◌∷◌, map, Option, Some, None}
use Rattle.gv_value.specs.declared.extent.Extent.{Extent}
use Rattle.gv_value.specs.declared.plan.Plan.{Plan, fold-Plan}
use Rattle.gv_value.specs.declared.plan.Plan.TheOpen.{Plan-F}
use Rattle.gv_value.specs.Shape.{Shape, Shapes, no_shapes, shape}
use Rattle.gv_value.specs.Layout.{align_of, size_of, greatest_align, end_of}
use Rattle.gv_value.specs.Capped.{capped_size}
use Rattle.gv_value.specs.Spelled.{two_shapes}

-- Tests whether two sizes are equal, or neither is fixed
abbrev pub same_size : Option ℕ → Option ℕ → Bool
same_size None None = true
same_size (Some m) (Some n) = m == n
same_size _ _ = false

-- Tests whether an extent is that of the type
abbrev pub extent_is : Extent → Shape → Bool
extent_is e t = e.align == align_of t && same_size e.size (capped_size (size_of t))

-- Tests whether an extent is that of these members, one after the other
abbrev pub run_is : Extent → Shapes → Bool
run_is e ts = e.align == greatest_align ts && same_size e.size (capped_size (end_of 0 ts))

-- The type of a plan, and whether each extent in the plan is right
pub record Seen : Type 0 where
  pub shape : Shape
  pub good : Bool

-- The types of plans
abbrev pub seen_shapes : List Seen → Shapes
seen_shapes [] = no_shapes
seen_shapes (s ∷ ss) = shape s.shape (seen_shapes ss)

-- Tests whether each extent in the plans is right
abbrev pub all_good : List Seen → Bool
all_good [] = true
all_good (s ∷ ss) = s.good && all_good ss

-- The type of a dictionary entry's plan, and whether its extents are right; a plan without exactly
-- two members is wrong
abbrev pub seen_entry : Extent → List Seen → Seen
seen_entry e (k ∷ v ∷ []) = record {
  shape = Shape.entry k.shape v.shape;
  good = k.good && v.good && run_is e (two_shapes k.shape v.shape);
}
seen_entry e _ = record { shape = Shape.variant; good = false }

-- One step of `seen`, where each inner plan was replaced by its type and whether its extents are
-- right
abbrev pub seen_step : Plan-F Seen → Seen
seen_step (Plan-F.Basic b) = record { shape = Shape.basic b; good = true }
seen_step Plan-F.Variant = record { shape = Shape.variant; good = true }
seen_step (Plan-F.Array e t) = record {
  shape = Shape.array t.value.shape;
  good = t.value.good && extent_is e (Shape.array t.value.shape);
}
seen_step (Plan-F.Maybe e t) = record {
  shape = Shape.maybe t.value.shape;
  good = t.value.good && extent_is e (Shape.maybe t.value.shape);
}
seen_step (Plan-F.Tuple e ts) =
    record {
      shape = Shape.tuple (seen_shapes ts.items);
      good = all_good ts.items && run_is e (seen_shapes ts.items);
    }
seen_step (Plan-F.Entry e ts) = seen_entry e ts.items

-- The type of a plan, and whether each extent in the plan is right
abbrev pub seen : Plan → Seen
seen = fold-Plan Seen seen_step

-- The type of a plan
abbrev pub plan_shape : Plan → Shape
plan_shape p = (seen p).shape

-- Tests whether each extent in a plan is right
abbrev pub is_plan : Plan → Bool
is_plan p = (seen p).good

-- The types of plans
abbrev pub plan_shapes : List Plan → Shapes
plan_shapes ps = seen_shapes (map seen ps)

-- Tests whether each extent in the plans is right
abbrev pub are_plans : List Plan → Bool
are_plans ps = all_good (map seen ps)

-- The plan is of this type, and its extents are right
pub record IsPlanOf (p : Plan) (t : Shape) : Type 0 where
  pub type : plan_shape p ≡ t
  pub good : IsTrue (is_plan p)

-- The plans are of these types, and their extents are right
pub record ArePlansOf (ps : List Plan) (ts : Shapes) : Type 0 where
  pub types : plan_shapes ps ≡ ts
  pub good : IsTrue (are_plans ps)
