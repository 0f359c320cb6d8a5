-- The members of a tuple.
use Rattle.std.proofs.Common.{◌≡◌, ℕ, suc, ◌+◌, ◌<◌, ◌≤◌, Bool, true, false, ◌&&◌, leb, eqb, List, [], ◌∷◌, ◌++◌, length, Option, Some, None, option_map, refl, sym, ap, ap₂, ◌∙◌, subst, arith, ◌⊎◌, inl, inr, ⊎_elim}
use Rattle.std.specs.Prelude.{slice_range}
use Rattle.std.proofs.lemmas.Bool.{cases_lt, leb-true, eqb-true, and_parts}
use Rattle.fp_base.proofs.Options.{guarded}
use Rattle.gv_value.specs.declared.limits.TheConstants.{MOST_BYTES, TOO_LARGE}
use Rattle.gv_value.specs.Bytes.{all_zero}
use Rattle.gv_value.specs.Capped.{capped, capped_size, IsExtent}
use Rattle.gv_value.specs.Framing.{child_at, cut, is_none_left, member_end, marks}
use Rattle.gv_value.specs.Layout.{align_of, size_of, padding}
use Rattle.gv_value.specs.Plans.{plan_shapes}
use Rattle.gv_value.specs.Shape.{Shape, Shapes, shape}
use Rattle.gv_value.specs.declared.extent.Extent.{Extent}
use Rattle.gv_value.specs.declared.plan.Plan.{Plan}
use Rattle.gv_value.proofs.Cutting.{child_at-found}
use Rattle.gv_decode.specs.declared.error.DecodeError.{DecodeError}
use Rattle.gv_decode.specs.Decoded.{Fails}
use Rattle.gv_decode.proofs.Runs.{SoFar, so_far-fails, so_far-more, cut-no_child, cut-child, fails-more}

-- a child is inside its body
inside : (body : List ℕ) (at start end : ℕ) (child : List ℕ) → child_at body at start end ≡ Some child → end ≤ length body
inside body at start end child e =
    let g = guarded (leb start end && leb end (length body) && all_zero (slice_range body at start)) (Some (slice_range body start end)) child e in
    let p = and_parts (leb start end && leb end (length body)) (all_zero (slice_range body at start)) g.0 in
    leb-true end (length body) (and_parts (leb start end) (leb end (length body)) p.0).1

pub item-inside : (body : List ℕ) (at align end : ℕ) (child : List ℕ) → child_at body at (at + padding at align) end ≡ Some child → end ≤ length body
item-inside body at align end child e = inside body at (at + padding at align) end child e

pub item-short : (body : List ℕ) (at align end : ℕ) (child : List ℕ) → child_at body at (at + padding at align) end ≡ Some child → length body ≤ MOST_BYTES → length child ≤ MOST_BYTES
item-short body at align end child e short =
    let is = child_at-found body at (at + padding at align) end child (omega arith) e in
    omega (arith, is.len, is.inside)

pub left-none : (ps : List Plan) → eqb (length ps) 0 ≡ is_none_left (plan_shapes ps)
left-none [] = refl
left-none (p ∷ ps) = by (eqb (suc (length ps)) 0) refl
  where
    by : (b : Bool) → eqb (suc (length ps)) 0 ≡ b → b ≡ false
    by false is = refl
    by true is = absurd (omega (arith, eqb-true (suc (length ps)) 0 is))

beyond : (body : List ℕ) (at start end : ℕ) → length body < end → child_at body at start end ≡ None
beyond body at start end lt = by (child_at body at start end) refl
  where
    by : (o : Option (List ℕ)) → child_at body at start end ≡ o → o ≡ None
    by None e = refl
    by (Some child) e = absurd (omega (arith, inside body at start end child e))

abbrev End : Type 0
End = ℕ × List ℕ

-- where a member ends by its size, and by the size that stands for all that are too large
record SameEnd (body : List ℕ) (at start : ℕ) (found told : End) : Type 0 where
  same : (found ≡ told) ⊎ ((child_at body at start found.0 ≡ None) × (child_at body at start told.0 ≡ None))

same-end : (body : List ℕ) (at a start : ℕ) (o : Option ℕ) (last : Bool) (os : List ℕ) → length body ≤ MOST_BYTES →
    SameEnd body at start (member_end (capped_size o) last (length body) at a os) (member_end o last (length body) at a os)
same-end body at a start None last os short = record { same = inl refl }
same-end body at a start (Some n) last os short = ⊎_elim large small (cases_lt TOO_LARGE n)
  where
    small : n ≤ TOO_LARGE → SameEnd body at start (member_end (capped_size (Some n)) last (length body) at a os) (member_end (Some n) last (length body) at a os)
    small le = let same : capped n ≡ n = omega arith in record { same = inl (ap (λ (m : ℕ). member_end (Some m) last (length body) at a os) same) }

    large : TOO_LARGE < n → SameEnd body at start (member_end (capped_size (Some n)) last (length body) at a os) (member_end (Some n) last (length body) at a os)
    large lt = record { same = inr (beyond body at start (at + padding at a + capped n) (omega arith), beyond body at start (at + padding at a + n) (omega arith)) }

-- one member: what the code found, and what the definitions tell
module _ (body : List ℕ) (at : ℕ) (t : Shape) (ts : Shapes) (os : List ℕ) (children : List (List ℕ)) (whole : Option (List (List ℕ))) (short : length body ≤ MOST_BYTES)
    (e : Extent) (extent : IsExtent e t) (last : Bool) (final : last ≡ is_none_left ts) (end : ℕ) (fewer : List ℕ)
    (is : let p : End = (end, fewer) in p ≡ member_end e.size last (length body) at e.align os)
    (so : SoFar children (cut body at (marks (length body) at (shape t ts) os)) whole) where
  told : End
  told = member_end (size_of t) (is_none_left ts) (length body) at (align_of t) os

  ends_same : SameEnd body at (at + padding at e.align) (end, fewer) told
  unfolding told
  ends_same =
      let start = at + padding at e.align in
      let right = same-end body at (align_of t) start (size_of t) (is_none_left ts) os short in
      let found : member_end e.size last (length body) at e.align os ≡ member_end (capped_size (size_of t)) (is_none_left ts) (length body) at (align_of t) os =
      ap (λ (o : Option ℕ). member_end o last (length body) at e.align os) extent.size ∙ ap₂ (λ (b : Bool) (a : ℕ). member_end (capped_size (size_of t)) b (length body) at a os) final extent.align in
      let whole_is : (end, fewer) ≡ member_end (capped_size (size_of t)) (is_none_left ts) (length body) at (align_of t) os = is ∙ found in
      subst (λ (p : End). SameEnd body at start p (member_end (size_of t) (is_none_left ts) (length body) at (align_of t) os)) (sym whole_is) right

  pub member-no_child : (x : DecodeError) → Fails x (child_at body at (at + padding at e.align) end) → Fails x whole
  unfolding told
  member-no_child x f =
      let start = at + padding at e.align in
      fails-more x (child_at body at start end) whole (λ none.
      let told-none : child_at body at start told.0 ≡ None = ⊎_elim (λ same. ap (λ (p : End). child_at body at start p.0) (sym same) ∙ none) (λ both. both.1) ends_same.same in
      so_far-fails children _ whole so (cut-no_child body at (align_of t) told.0 (marks (length body) told.0 ts told.1)
      (ap (λ (a : ℕ). child_at body at (at + padding at a) told.0) (sym extent.align) ∙ told-none))) f

  module _ (child : List ℕ) (found : child_at body at (at + padding at e.align) end ≡ Some child) where
    told-is : (end, fewer) ≡ told
    told-is = ⊎_elim (λ same. same) (λ both. absurd (none_some (sym both.0 ∙ found))) ends_same.same
      where
        none_some : None ≡ Some child → ⊥
        none_some h = cc

    told-child : child_at body at (at + padding at (align_of t)) told.0 ≡ Some child
    told-child = ap₂ (λ (a : ℕ) (p : End). child_at body at (at + padding at a) p.0) (sym extent.align) (sym told-is) ∙ found

    pub member-more : SoFar (children ++ child ∷ []) (cut body end (marks (length body) end ts fewer)) whole
    unfolding told
    member-more =
        so_far-more children child _ (cut body end (marks (length body) end ts fewer)) whole so
        (cut-child body at (align_of t) told.0 (marks (length body) told.0 ts told.1) child told-child
        ∙ ap (λ (p : End). option_map (λ others. child ∷ others) (cut body p.0 (marks (length body) p.0 ts p.1))) (sym told-is))
