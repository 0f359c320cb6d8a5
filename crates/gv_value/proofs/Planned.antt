-- The plans of types.
use Rattle.std.proofs.Common.{◌≡◌, ℕ, zero, suc, ◌+◌, ◌<◌, Bool, true, false, ◌&&◌, List, [], ◌∷◌, ◌++◌, length, get_or, map, Option, Some, None, refl, sym, ap, ap₂, ◌∙◌, subst, arith, IsTrue, Vec, Global, Box}
use Rattle.std.proofs.lemmas.Bool.{and_parts, and_from, eq-eqb, eqb-true}
use Rattle.std.proofs.lemmas.List.{map-append, take_more, drop_more}
use Rattle.gv_value.specs.Shape.{Shape, Shapes, no_shapes, shape}
use Rattle.gv_value.specs.Layout.{align_of, size_of, greatest_align, end_of}
use Rattle.gv_value.specs.Spelled.{two_shapes}
use Rattle.gv_value.specs.Capped.{capped_size, IsExtent, IsRun}
use Rattle.gv_value.specs.Plans.{Seen, seen, seen_step, seen_shapes, all_good, seen_entry, plan_shape, is_plan, plan_shapes, are_plans, same_size, extent_is, run_is, IsPlanOf, ArePlansOf}
use Rattle.gv_value.specs.declared.extent.Extent.{Extent}
use Rattle.gv_value.specs.declared.plan.Plan.{Plan, Plan-F, fold-roll-Plan}
use Rattle.gv_value.specs.declared.plan.Plan.TheVariants as plans
use Rattle.gv_value.specs.Views.{shape_of, shapes_of, shapes_from}
use Rattle.gv_value.specs.declared.types.GvType.{GvType}

pub good_at : (ps : List Plan) (i : ℕ) (d : Plan) → i < length ps → IsTrue (are_plans ps) → IsTrue (is_plan (get_or ps i d))
good_at [] i d lt e = absurd (omega (arith, lt))
good_at (p ∷ ps) zero d lt e = (and_parts (is_plan p) (are_plans ps) e).0
good_at (p ∷ ps) (suc i) d lt e = good_at ps i d (omega (arith, lt)) (and_parts (is_plan p) (are_plans ps) e).1

same_size-from : (a b : Option ℕ) → a ≡ b → same_size a b ≡ true
same_size-from None None e = refl
same_size-from None (Some n) e = absurd cc
same_size-from (Some m) None e = absurd cc
same_size-from (Some m) (Some n) e = eq-eqb m n cc

same_size-to : (a b : Option ℕ) → same_size a b ≡ true → a ≡ b
same_size-to None None e = refl
same_size-to None (Some n) e = absurd cc
same_size-to (Some m) None e = absurd cc
same_size-to (Some m) (Some n) e = ap (λ (x : ℕ). Some x) (eqb-true m n e)

pub extent-is : (e : Extent) (t : Shape) → IsExtent e t → extent_is e t ≡ true
extent-is e t is = and_from _ _ (eq-eqb e.align (align_of t) is.align) (same_size-from e.size (capped_size (size_of t)) is.size)

pub extent-from : (e : Extent) (t : Shape) → extent_is e t ≡ true → IsExtent e t
extent-from e t h =
    let p = and_parts _ _ h in
    record { align = eqb-true e.align (align_of t) p.0; size = same_size-to e.size (capped_size (size_of t)) p.1 }

pub run-is : (e : Extent) (ts : Shapes) → IsRun e (greatest_align ts) (end_of 0 ts) → run_is e ts ≡ true
run-is e ts is = and_from _ _ (eq-eqb e.align (greatest_align ts) is.align_is) (same_size-from e.size (capped_size (end_of 0 ts)) is.end_is)

pub run-from-is : (e : Extent) (ts : Shapes) → run_is e ts ≡ true → IsRun e (greatest_align ts) (end_of 0 ts)
run-from-is e ts h =
    let p = and_parts _ _ h in
    record { align_is = eqb-true e.align (greatest_align ts) p.0; end_is = same_size-to e.size (capped_size (end_of 0 ts)) p.1 }

pub seen-Tuple : (e : Extent) (ps : Vec Plan Global) → seen (plans.Tuple e ps) ≡ record { shape = Shape.tuple (plan_shapes ps.items); good = are_plans ps.items && run_is e (plan_shapes ps.items) }
seen-Tuple e ps = ap seen (sym (plans.rolls-Tuple e ps)) ∙ fold-roll-Plan Seen seen_step (Plan-F.Tuple e ps)

pub seen-Entry : (e : Extent) (ps : Vec Plan Global) → seen (plans.Entry e ps) ≡ seen_entry e (map seen ps.items)
seen-Entry e ps = ap seen (sym (plans.rolls-Entry e ps)) ∙ fold-roll-Plan Seen seen_step (Plan-F.Entry e ps)

pub tuple-plan : (e : Extent) (ps : Vec Plan Global) (ts : Shapes) → ArePlansOf ps.items ts → IsRun e (greatest_align (plan_shapes ps.items)) (end_of 0 (plan_shapes ps.items)) → IsPlanOf (plans.Tuple e ps) (Shape.tuple ts)
tuple-plan e ps ts are is =
    record { type = ap (λ (s : Seen). s.shape) (seen-Tuple e ps) ∙ ap Shape.tuple are.types; good = ap (λ (s : Seen). s.good) (seen-Tuple e ps) ∙ and_from _ _ are.good (run-is e (plan_shapes ps.items) is) }

pub entry-plan : (e : Extent) (ps : Vec Plan Global) (k v : Plan) (tk tv : Shape) → ps.items ≡ k ∷ v ∷ [] → IsPlanOf k tk → IsPlanOf v tv → IsRun e (greatest_align (plan_shapes ps.items)) (end_of 0 (plan_shapes ps.items)) → IsPlanOf (plans.Entry e ps) (Shape.entry tk tv)
entry-plan e ps k v tk tv items is_k is_v is =
    let both = ap (λ (xs : List Plan). seen_entry e (map seen xs)) items in
    let ts = two_shapes (plan_shape k) (plan_shape v) in
    let run = subst (λ (xs : List Plan). IsRun e (greatest_align (plan_shapes xs)) (end_of 0 (plan_shapes xs))) items is in
    record {
      type = ap (λ (s : Seen). s.shape) (seen-Entry e ps ∙ both) ∙ ap₂ Shape.entry is_k.type is_v.type;
      good = ap (λ (s : Seen). s.good) (seen-Entry e ps ∙ both) ∙ and_from _ _ (and_from _ _ is_k.good is_v.good) (run-is e ts run);
    }

-- ---- one plan more

seen_more : (ss : List Seen) (s : Seen) (ts : List Shape) (t : Shape) → seen_shapes ss ≡ shapes_from ts → s.shape ≡ t → seen_shapes (ss ++ s ∷ []) ≡ shapes_from (ts ++ t ∷ [])
seen_more [] s [] t e h = ap (λ (x : Shape). shape x no_shapes) h
seen_more [] s (u ∷ ts) t e h = absurd cc
seen_more (r ∷ ss) s [] t e h = absurd cc
seen_more (r ∷ ss) s (u ∷ ts) t e h = let p : r.shape ≡ u = cc in let q : seen_shapes ss ≡ shapes_from ts = cc in ap₂ shape p (seen_more ss s ts t q h)

good_more : (ss : List Seen) (s : Seen) → all_good ss ≡ true → s.good ≡ true → all_good (ss ++ s ∷ []) ≡ true
good_more [] s e h = and_from _ _ h refl
good_more (r ∷ ss) s e h = let p = and_parts r.good (all_good ss) e in and_from _ _ p.0 (good_more ss s p.1 h)

pub plans-more : (ps : List Plan) (p : Plan) (ts : List GvType) (t : GvType) → ArePlansOf ps (shapes_of ts) → IsPlanOf p (shape_of t) → ArePlansOf (ps ++ p ∷ []) (shapes_of (ts ++ t ∷ []))
plans-more ps p ts t are is = record {
  types = ap seen_shapes (map-append seen ps (p ∷ [])) ∙ seen_more (map seen ps) (seen p) (map shape_of ts) (shape_of t) are.types is.type ∙ ap shapes_from (sym (map-append shape_of ts (t ∷ [])));
  good = ap all_good (map-append seen ps (p ∷ [])) ∙ good_more (map seen ps) (seen p) are.good is.good;
}

pub shape-Variant : plan_shape plans.Variant ≡ Shape.variant
shape-Variant = ap (λ (s : Seen). s.shape) (ap seen (sym plans.rolls-Variant) ∙ fold-roll-Plan Seen seen_step Plan-F.Variant)

pub shape-Maybe : (e : Extent) (p : Box Plan Global) → plan_shape (plans.Maybe e p) ≡ Shape.maybe (plan_shape p.value)
shape-Maybe e p = ap (λ (s : Seen). s.shape) (ap seen (sym (plans.rolls-Maybe e p)) ∙ fold-roll-Plan Seen seen_step (Plan-F.Maybe e p))
