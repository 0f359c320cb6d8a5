-- Reading fields one after another, as a loop does.
use Rattle.std.proofs.Common.{◌≡◌, ℕ, zero, suc, ◌+◌, ◌-◌, ◌<◌, ◌≤◌, Bool, true, false, eqb, List, length, Option, Some, None, Result, Ok, Err, refl, ap, sym, ◌∙◌, arith}
use Rattle.fp_base.specs.declared.frame_rule.FrameRule.{FrameRule}
use Rattle.fp_base.specs.declared.frame_rule.FrameRule.TheVariants.{Fields}
use Rattle.bus_frame.specs.Places.{Place}
use Rattle.bus_frame.specs.Fields.{Known, Field, field_at, add_field, fields_at}

module _ (little : Bool) (k : Known) (p : Place) (total : Result Known FrameRule) where
  pub fields_done : (n : ℕ) → eqb (length p.rest) 0 ≡ true → fields_at little n k p ≡ total → total ≡ Ok k
  unfolding fields_at
  fields_done zero done so_far = let here : fields_at little zero k p ≡ Ok k = rw done refl in sym so_far ∙ here
  fields_done (suc n) done so_far = let here : fields_at little (suc n) k p ≡ Ok k = rw done refl in sym so_far ∙ here

  pub fields_out : (i count : ℕ) → count ≤ i → eqb (length p.rest) 0 ≡ false → fields_at little (count - i) k p ≡ total → total ≡ Err Fields
  unfolding fields_at
  fields_out i count le some_left so_far =
      let none : count - i ≡ 0 = omega arith in
      let here : fields_at little (count - i) k p ≡ Err Fields = rw (none, some_left) refl in
      sym so_far ∙ here

  module _ (i count : ℕ) (lt : i < count) (some_left : eqb (length p.rest) 0 ≡ false) (so_far : fields_at little (count - i) k p ≡ total) where
    next : count - i ≡ suc (count - (i + 1))
    next = omega arith

    pub fields_none : field_at little p ≡ None → total ≡ Err Fields
    unfolding fields_at
    fields_none read =
        let here : fields_at little (count - i) k p ≡ Err Fields = rw (next, some_left, read) refl in
        sym so_far ∙ here

    pub fields_broken : (f : Field) (q : Place) (rule : FrameRule) → field_at little p ≡ Some (f, q) → add_field k f ≡ Err rule → total ≡ Err rule
    unfolding fields_at
    fields_broken f q rule read broken =
        let here : fields_at little (count - i) k p ≡ Err rule = rw (next, some_left, read, broken) refl in
        sym so_far ∙ here

    pub fields_more : (f : Field) (q : Place) (more : Known) → field_at little p ≡ Some (f, q) → add_field k f ≡ Ok more → fields_at little (count - (i + 1)) more q ≡ total
    unfolding fields_at
    fields_more f q more read added =
        let here : fields_at little (count - i) k p ≡ fields_at little (count - (i + 1)) more q = rw (next, some_left, read, added) refl in
        sym here ∙ so_far
