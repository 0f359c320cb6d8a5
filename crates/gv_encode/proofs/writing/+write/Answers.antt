use Rattle.std.proofs.Common.{◌≡◌, ℕ, suc, ◌+◌, ◌-◌, ◌<◌, true, List, [], ◌∷◌, ◌++◌, length, drop, refl, sym, ap, ap₂, ◌∙◌, subst, arith, rules, IsTrue, ◌&&◌, eqb, false, length-drop, flat_map, vec_len, length-append}
use Rattle.std.specs.List.{concat}
use Rattle.std.proofs.lemmas.Bool.{and_parts, true≢false}
use Rattle.std.proofs.lemmas.List.{drop_more}
use Rattle.gv_value.proofs.Extents.{filled-from}
use Rattle.gv_value.proofs.Planned.{shape-Variant, shape-Maybe}
use Rattle.gv_value.specs.Bytes.{zeros, le_bytes}
use Rattle.gv_value.specs.Capped.{IsExtent}
use Rattle.gv_value.specs.Framing.{Part, width, framed, ends, laid, parts_of, same_parts, written, is_none_left, put_offset}
use Rattle.gv_value.specs.Layout.{align_of, size_of, padding}
use Rattle.gv_value.specs.Parts.{part_tree, IsHeld}
use Rattle.gv_value.specs.Plans.{is_plan, plan_shape, are_plans, plan_shapes}
use Rattle.gv_value.specs.Shape.{Shape, is_type}
use Rattle.gv_value.specs.Spelled.{two_shapes}
use Rattle.gv_value.specs.Spelling.{fits_within, all_fit, each_fits, spelling, spelling_of_all, spelling_of_each, tuple_bytes, just_bytes}
use Rattle.gv_value.specs.Views.{plain, plains, shape_of}
use Rattle.gv_value.specs.declared.parts.Parts.{Parts}
use Rattle.gv_value.specs.declared.plan.Plan.{Plan}
use Rattle.gv_value.specs.declared.value.GvValue.{GvValue}
use Rattle.gv_encode.specs.Encoded.{Fails, Adds}
use Rattle.gv_encode.proofs.Elements.{counts-differ}
use Rattle.gv_encode.proofs.Pairs.{just-fails, key-fails, value-fails, entry-closed, push-noted, put-noted, none-left, closed, closed-fails}
use Rattle.gv_encode.proofs.Parts.{down, good-Maybe, entry-is, entry-two, two-of, bytes-spelled}
use Rattle.gv_encode.proofs.Placed.{Placing, placing-le, placing-more, placing-fails}
use Rattle.gv_encode.proofs.Steps.{adds-same, adds-err, fails-front, Coming, coming-more, coming-fails}
use Rattle.gv_encode.proofs.writing.+write.Goals as goal

pub write-write_variant-requires : goal.write-write_variant-requires
write-write_variant-requires t c = (
  search rules,
  (
    c.requires.room_left,
    down c.args.room c.args.plan.now Shape.variant (plain c.args.value.now) (part_tree c.parts-parts.result) c.if-room-eq0.false
        (ap plan_shape c.in-Variant.is ∙ shape-Variant) c.parts-parts.ensures.tree c.requires.fits,
  ),
)

pub write-write_maybe-requires : goal.write-write_maybe-requires
write-write_maybe-requires t c =
    let child = c.in-Maybe.child in
    let e = c.in-Maybe.field-0 in
    let same : child.value ≡ c.deref-in-Maybe.result.now = sym c.deref-in-Maybe.ensures in
    let is : plan_shape c.args.plan.now ≡ Shape.maybe (plan_shape c.deref-in-Maybe.result.now) =
    ap plan_shape c.in-Maybe.is ∙ shape-Maybe e child ∙ ap (λ (p : Plan). Shape.maybe (plan_shape p)) same in
    let good : IsTrue (is_plan c.deref-in-Maybe.result.now) =
    subst (λ (p : Plan). IsTrue (is_plan p)) same (good-Maybe e child (subst (λ (p : Plan). IsTrue (is_plan p)) c.in-Maybe.is c.requires.planned)) in (
      search rules,
      (
        c.requires.room_left,
        (
          good,
          down c.args.room c.args.plan.now (Shape.maybe (plan_shape c.deref-in-Maybe.result.now)) (plain c.args.value.now) (part_tree c.parts-parts.result) c.if-room-eq0.false
              is c.parts-parts.ensures.tree c.requires.fits,
        ),
      ),
    )

pub write-write_entry-requires : goal.write-write_entry-requires
write-write_entry-requires t c =
    let k = c.key-item.result in
    let v = c.value-item.result in
    let ps = c.in-Entry.plans in
    let items : ps.items ≡ k ∷ v ∷ [] = sym c.as_slice.ensures.value ∙ two-of c.as_slice.result.now k v c.in-len2.len_at_least c.in-len2.len_below c.key-item.is c.value-item.is in
    let is = entry-is c.in-Entry.run' ps k v items (subst (λ (p : Plan). IsTrue (is_plan p)) c.in-Entry.is c.requires.planned) in (
      search rules,
      (
        c.requires.room_left,
        (
          is.key,
          (
            is.value,
            (
              is.run,
              down c.args.room c.args.plan.now (Shape.entry (plan_shape k) (plan_shape v)) (plain c.args.value.now) (part_tree c.parts-parts.result) c.if-room-eq0.false
                  (ap plan_shape c.in-Entry.is ∙ is.shape) c.parts-parts.ensures.tree c.requires.fits,
            ),
          ),
        ),
      ),
    )

pub write-returns-in-len2 : goal.write-returns-in-len2
write-returns-in-len2 t c =
    let k = c.key-item.result in
    let v = c.value-item.result in
    let ps = c.in-Entry.plans in
    let items : ps.items ≡ k ∷ v ∷ [] = sym c.as_slice.ensures.value ∙ two-of c.as_slice.result.now k v c.in-len2.len_at_least c.in-len2.len_below c.key-item.is c.value-item.is in
    let is = entry-is c.in-Entry.run' ps k v items (subst (λ (p : Plan). IsTrue (is_plan p)) c.in-Entry.is c.requires.planned) in
    adds-same c.write_entry.result c.args.out.now.items c.write_entry.new.out.items (spelling (part_tree c.parts-parts.result) (Shape.entry (plan_shape k) (plan_shape v)))
    (spelling (plain c.args.value.now) (plan_shape c.args.plan.now))
    (ap₂ spelling c.parts-parts.ensures.tree (sym (ap plan_shape c.in-Entry.is ∙ is.shape))) c.write_entry.ensures

pub write-returns-in_default-as_slice : goal.write-returns-in_default-as_slice
write-returns-in_default-as_slice t c =
    let two = entry-two c.in-Entry.run' c.in-Entry.plans (subst (λ (p : Plan). IsTrue (is_plan p)) c.in-Entry.is c.requires.planned) in
    omega (arith, two, ap length c.as_slice.ensures.value, c.in_default-as_slice.len_below)

pub write-returns-in_default-as_slice-2 : goal.write-returns-in_default-as_slice-2
write-returns-in_default-as_slice-2 t c =
    let two = entry-two c.in-Entry.run' c.in-Entry.plans (subst (λ (p : Plan). IsTrue (is_plan p)) c.in-Entry.is c.requires.planned) in
    omega (arith, two, ap length c.as_slice.ensures.value, c.in_default-as_slice.len_at_least)

pub write_array-returns-in-Bytes : goal.write_array-returns-in-Bytes
write_array-returns-in-Bytes t c =
    let s = plan_shape c.args.element.now in
    let bytes = c.in-Bytes.bytes.now in
    subst (λ (p : Parts). Adds c.append.result c.args.out.now.items c.append.new.out.items (spelling (part_tree p) (Shape.array s))) (sym c.in-Bytes.is)
    (adds-same c.append.result c.args.out.now.items c.append.new.out.items bytes _
    (bytes-spelled c.args.room s bytes (subst IsHeld c.in-Bytes.is c.requires.held) (subst (λ (p : Parts). IsTrue (fits_within (suc c.args.room) (Shape.array s) (part_tree p))) c.in-Bytes.is c.requires.fits)) c.append.ensures)

pub write_entry-returns-in_err-write_placed : goal.write_entry-returns-in_err-write_placed
write_entry-returns-in_err-write_placed t c =
    let k = plan_shape c.args.key_plan.now in
    let v = plan_shape c.args.value_plan.now in
    let a = spelling (plain c.in-Entry.key.now) k in
    let b = spelling (plain c.in-Entry.value.now) v in
    let before = c.args.out.now.items in
    let e = c.in_err-write_placed.field-0.0 in
    let o = size_of (Shape.entry k v) in
    subst (λ (p : Parts). Adds c.from_residual.result before c.write_placed.new.out.items (spelling (part_tree p) (Shape.entry k v))) (sym c.in-Entry.is)
    (adds-err c.from_residual.result e before c.write_placed.new.out.items (tuple_bytes o (two_shapes k v) (a ∷ b ∷ [])) c.from_residual.ensures.1
    (key-fails before k v a b (omega arith) (vec_len c.args.out.now - c.len-start.result) (omega arith) e o c.in_err-write_placed.ensures))

pub write_entry-write_placed-requires-2 : goal.write_entry-write_placed-requires-2
write_entry-write_placed-requires-2 t c =
    let k = plan_shape c.args.key_plan.now in
    let v = plan_shape c.args.value_plan.now in
    let one = fits_within c.args.room in
    let key = plain c.in-Entry.key.now in
    let value = plain c.in-Entry.value.now in
    let before = c.args.out.now.items in
    let fits = subst (λ (p : Parts). IsTrue (fits_within (suc c.args.room) (Shape.entry k v) (part_tree p))) c.in-Entry.is c.requires.fits in
    let second = (and_parts (one v value) true (and_parts (one k key) (one v value && true) fits).1).0 in
    let add = c.in_ok-write_placed.ensures in
    (search rules, (omega (arith, add.short), (omega (arith, ap length add.added, length-append before (zeros (padding (vec_len c.args.out.now - c.len-start.result) (align_of k)) ++ spelling key k)), (c.requires.value_planned, second))))

pub write_entry-returns-in_err-write_placed-2 : goal.write_entry-returns-in_err-write_placed-2
write_entry-returns-in_err-write_placed-2 t c =
    let k = plan_shape c.args.key_plan.now in
    let v = plan_shape c.args.value_plan.now in
    let a = spelling (plain c.in-Entry.key.now) k in
    let b = spelling (plain c.in-Entry.value.now) v in
    let before = c.args.out.now.items in
    let mid = c.write_placed.new.out.items in
    let e = c.in_err-write_placed-2.field-0.0 in
    let o = size_of (Shape.entry k v) in
    let end = c.len.result - c.len-start.result in
    let noted : c.note_end.new.ends.items ≡ put_offset (size_of k) false end [] = c.in_ok-note_end.ensures ∙ ap (λ (xs : List ℕ). xs ++ put_offset (size_of k) false end []) c.new-ends.ensures.items in
    subst (λ (p : Parts). Adds c.from_residual-in_err-write_placed-2.result before c.write_placed-2.new.out.items (spelling (part_tree p) (Shape.entry k v))) (sym c.in-Entry.is)
    (adds-err c.from_residual-in_err-write_placed-2.result e before c.write_placed-2.new.out.items (tuple_bytes o (two_shapes k v) (a ∷ b ∷ [])) c.from_residual-in_err-write_placed-2.ensures.1
    (value-fails before k v a b (omega arith) (vec_len c.args.out.now - c.len-start.result) (omega arith) mid c.in_ok-write_placed.ensures end (omega arith) c.note_end.new.ends.items noted
    e o (vec_len c.write_placed.new.out - c.len-start.result) (omega arith) c.in_err-write_placed-2.ensures))

pub write_entry-returns : goal.write_entry-returns
write_entry-returns t c =
    let k = plan_shape c.args.key_plan.now in
    let v = plan_shape c.args.value_plan.now in
    let a = spelling (plain c.in-Entry.key.now) k in
    let b = spelling (plain c.in-Entry.value.now) v in
    let before = c.args.out.now.items in
    let mid = c.write_placed.new.out.items in
    let out = c.write_placed-2.new.out.items in
    let o = size_of (Shape.entry k v) in
    let end = c.len.result - c.len-start.result in
    let noted : c.note_end.new.ends.items ≡ put_offset (size_of k) false end [] = c.in_ok-note_end.ensures ∙ ap (λ (xs : List ℕ). xs ++ put_offset (size_of k) false end []) c.new-ends.ensures.items in
    let extent = filled-from c.args.run c.filled.result (two_shapes k v) c.requires.extent c.filled.ensures.align c.filled.ensures.size in
    let whole = vec_len c.write_placed-2.new.out - c.len-start.result in
    subst (λ (p : Parts). Adds c.close.result before c.close.new.out.items (spelling (part_tree p) (Shape.entry k v))) (sym c.in-Entry.is)
    (entry-closed before k v a b (omega arith) (vec_len c.args.out.now - c.len-start.result) (omega arith) mid c.in_ok-write_placed.ensures end (omega arith) c.note_end.new.ends.items noted
    c.close.result out c.close.new.out.items o (vec_len c.write_placed.new.out - c.len-start.result) whole whole (omega arith) (omega arith) (omega arith) c.in_ok-write_placed-2.ensures
    (c.close.ensures o extent.size))

pub write_framed-write_placed-requires : goal.write_framed-write_placed-requires
write_framed-write_placed-requires t c =
    let l = c.loop-item in
    let i = l.item-index in
    let x = c.item-item.result in
    let room = c.args.room in
    let s = plan_shape c.args.element.now in
    let here : drop i c.args.items.now ≡ x ∷ drop (i + 1) c.args.items.now = drop_more c.args.items.now i x c.loop-item-test.true ∙ ap (λ (y : GvValue). y ∷ drop (i + 1) c.args.items.now) (sym c.item-item.is) in
    let fits = and_parts (fits_within room s (plain x)) (all_fit (fits_within room s) (plains (drop (i + 1) c.args.items.now)))
    (subst (λ (xs : List GvValue). IsTrue (all_fit (fits_within room s) (plains xs))) here l.invariant.fits) in
    let le = placing-le _ _ _ _ _ _ _ l.invariant.placing in
    (search rules, (omega (arith, l.invariant.placing.short), (omega (arith, le), (c.requires.planned, fits.0))))

pub write_framed-returns-in_err-write_placed : goal.write_framed-returns-in_err-write_placed
write_framed-returns-in_err-write_placed t c =
    let l = c.loop-item in
    let i = l.item-index in
    let x = c.item-item.result in
    let s = plan_shape c.args.element.now in
    let items = c.args.items.now in
    let before = c.args.out.now.items in
    let a = align_of s in
    let parts : List GvValue → List Part = λ (xs : List GvValue). same_parts a (spelling_of_all (plains xs) s) in
    let here : drop i items ≡ x ∷ drop (i + 1) items = drop_more items i x c.loop-item-test.true ∙ ap (λ (y : GvValue). y ∷ drop (i + 1) items) (sym c.item-item.is) in
    let e = c.in_err-write_placed.field-0.0 in
    let used = vec_len l.out - c.len-start.result in
    let placing = subst (λ (xs : List GvValue). Placing before (parts items) (ends [] (parts items)) l.out.items (parts xs) (λ es. es) l.ends.items) here l.invariant.placing in
    let body : Fails e before (laid [] (parts items)) =
    placing-fails e before (parts items) (ends [] (parts items)) l.out.items a (spelling (plain x) s) (parts (drop (i + 1) items)) (λ es. es) l.ends.items used placing (omega arith) c.in_err-write_placed.ensures in
    adds-err c.from_residual.result e before c.write_placed.new.out.items (framed (laid [] (parts items)) (ends [] (parts items))) c.from_residual.ensures.1
    (fails-front e before (laid [] (parts items)) (flat_map (le_bytes (width (length (laid [] (parts items))) (length (ends [] (parts items))))) (ends [] (parts items))) body)

pub write_framed-loop-item-preserved : goal.write_framed-loop-item-preserved
write_framed-loop-item-preserved t c =
    let l = c.loop-item in
    let i = l.item-index in
    let x = c.item-item.result in
    let s = plan_shape c.args.element.now in
    let items = c.args.items.now in
    let before = c.args.out.now.items in
    let a = align_of s in
    let one = fits_within c.args.room s in
    let parts : List GvValue → List Part = λ (xs : List GvValue). same_parts a (spelling_of_all (plains xs) s) in
    let here : drop i items ≡ x ∷ drop (i + 1) items = drop_more items i x c.loop-item-test.true ∙ ap (λ (y : GvValue). y ∷ drop (i + 1) items) (sym c.item-item.is) in
    let used = vec_len l.out - c.len-start.result in
    let end = c.len.result - c.len-start.result in
    let placing = subst (λ (xs : List GvValue). Placing before (parts items) (ends [] (parts items)) l.out.items (parts xs) (λ es. es) l.ends.items) here l.invariant.placing in
    let pushed : c.push.new.self.items ≡ l.ends.items ++ end ∷ [] = search rules in
    record {
      fits = (and_parts (one (plain x)) (all_fit one (plains (drop (i + 1) items))) (subst (λ (xs : List GvValue). IsTrue (all_fit one (plains xs))) here l.invariant.fits)).1;
      placing = placing-more before (parts items) (ends [] (parts items)) l.out.items a (spelling (plain x) s) (parts (drop (i + 1) items)) (λ es. es) l.ends.items c.write_placed.new.out.items (λ es. es) c.push.new.self.items
          used end placing (omega arith) (omega arith) c.in_ok-write_placed.ensures (λ es. ap (λ (xs : List ℕ). xs ++ es) pushed ∙ push-noted l.ends.items end end es refl);
    }

pub write_maybe-returns-in_err-write-in-Just : goal.write_maybe-returns-in_err-write-in-Just
write_maybe-returns-in_err-write-in-Just t c =
    let s = plan_shape c.args.child.now in
    let before = c.args.out.now.items in
    let child = spelling (plain c.in-Just.item.now) s in
    let e = c.in_err-write-in-Just.field-0.0 in
    subst (λ (p : Parts). Adds c.from_residual.result before c.write.new.out.items (spelling (part_tree p) (Shape.maybe s))) (sym c.in-Just.is)
    (adds-err c.from_residual.result e before c.write.new.out.items (just_bytes (size_of s) child) c.from_residual.ensures.1 (just-fails e before (size_of s) child c.in_err-write-in-Just.ensures))

pub write_members-returns-then-plans-items-clause-body : goal.write_members-returns-then-plans-items-clause-body
write_members-returns-then-plans-items-clause-body t c =
    true≢false (sym c.requires.fits ∙ counts-differ (fits_within c.args.room) c.args.plans.now c.args.items.now c.if-plans-items.true)

pub write_members-write_placed-requires : goal.write_members-write_placed-requires
write_members-write_placed-requires t c =
    let l = c.loop-i in
    let i = l.i in
    let ps = c.args.plans.now in
    let vs = c.args.items.now in
    let p = c.index-plans-i.result in
    let x = c.index-items-i.result in
    let one = fits_within c.args.room in
    let lt : i < length ps = omega arith in
    let lt' : i < length vs = omega arith in
    let here : drop i ps ≡ p ∷ drop (i + 1) ps = drop_more ps i p lt ∙ ap (λ (y : Plan). y ∷ drop (i + 1) ps) (sym c.index-plans-i.is) in
    let here' : drop i vs ≡ x ∷ drop (i + 1) vs = drop_more vs i x lt' ∙ ap (λ (y : GvValue). y ∷ drop (i + 1) vs) (sym c.index-items-i.is) in
    let good = (and_parts (is_plan p) (are_plans (drop (i + 1) ps)) (subst (λ (xs : List Plan). IsTrue (are_plans xs)) here l.invariant.good)).0 in
    let fits = (and_parts (one (plan_shape p) (plain x)) (each_fits one (plan_shapes (drop (i + 1) ps)) (plains (drop (i + 1) vs)))
    (subst (λ (ys : List GvValue). IsTrue (each_fits one (plan_shapes (p ∷ drop (i + 1) ps)) (plains ys))) here'
    (subst (λ (xs : List Plan). IsTrue (each_fits one (plan_shapes xs) (plains (drop i vs)))) here l.invariant.fits))).0 in
    let le = placing-le _ _ _ _ _ _ _ l.invariant.placing in
    (search rules, (omega (arith, l.invariant.placing.short), (omega (arith, le), (good, fits))))

pub write_members-returns-in_err-write_placed-clause-body : goal.write_members-returns-in_err-write_placed-clause-body
write_members-returns-in_err-write_placed-clause-body t c =
    let l = c.loop-i in
    let i = l.i in
    let ps = c.args.plans.now in
    let vs = c.args.items.now in
    let p = c.index-plans-i.result in
    let x = c.index-items-i.result in
    let before = c.args.out.now.items in
    let lt : i < length ps = omega arith in
    let lt' : i < length vs = omega arith in
    let here : drop i ps ≡ p ∷ drop (i + 1) ps = drop_more ps i p lt ∙ ap (λ (y : Plan). y ∷ drop (i + 1) ps) (sym c.index-plans-i.is) in
    let here' : drop i vs ≡ x ∷ drop (i + 1) vs = drop_more vs i x lt' ∙ ap (λ (y : GvValue). y ∷ drop (i + 1) vs) (sym c.index-items-i.is) in
    let parts : List Plan → List GvValue → List Part = λ (xs : List Plan) (ys : List GvValue). parts_of (plan_shapes xs) (spelling_of_each (plains ys) (plan_shapes xs)) in
    let total = written (plan_shapes ps) (ends [] (parts ps vs)) in
    let placing = subst (λ (ys : List GvValue). Placing before (parts ps vs) total l.out.items (parts (p ∷ drop (i + 1) ps) ys) (written (plan_shapes (p ∷ drop (i + 1) ps))) l.ends.items) here'
    (subst (λ (xs : List Plan). Placing before (parts ps vs) total l.out.items (parts xs (drop i vs)) (written (plan_shapes xs)) l.ends.items) here l.invariant.placing) in
    let e = c.in_err-write_placed.field-0.0 in
    let used = vec_len l.out - c.len-start.result in
    adds-err c.from_residual.result e before c.write_placed.new.out.items (laid [] (parts ps vs)) c.from_residual.ensures.1
    (placing-fails e before (parts ps vs) total l.out.items (align_of (plan_shape p)) (spelling (plain x) (plan_shape p)) (parts (drop (i + 1) ps) (drop (i + 1) vs)) (written (plan_shapes (p ∷ drop (i + 1) ps))) l.ends.items
    used placing (omega arith) c.in_err-write_placed.ensures)

pub write_members-loop-i-preserved : goal.write_members-loop-i-preserved
write_members-loop-i-preserved t c =
    let l = c.loop-i in
    let i = l.i in
    let ps = c.args.plans.now in
    let vs = c.args.items.now in
    let p = c.index-plans-i.result in
    let x = c.index-items-i.result in
    let before = c.args.out.now.items in
    let one = fits_within c.args.room in
    let lt : i < length ps = omega arith in
    let lt' : i < length vs = omega arith in
    let others = drop (i + 1) ps in
    let here : drop i ps ≡ p ∷ others = drop_more ps i p lt ∙ ap (λ (y : Plan). y ∷ others) (sym c.index-plans-i.is) in
    let here' : drop i vs ≡ x ∷ drop (i + 1) vs = drop_more vs i x lt' ∙ ap (λ (y : GvValue). y ∷ drop (i + 1) vs) (sym c.index-items-i.is) in
    let again : p ∷ others ≡ c.index-plans-i-in-loop-i.result ∷ others =
    sym here ∙ drop_more ps i c.index-plans-i-in-loop-i.result lt ∙ ap (λ (y : Plan). y ∷ others) (sym c.index-plans-i-in-loop-i.is) in
    let same : c.index-plans-i-in-loop-i.result ≡ p = cc in
    let parts : List Plan → List GvValue → List Part = λ (xs : List Plan) (ys : List GvValue). parts_of (plan_shapes xs) (spelling_of_each (plains ys) (plan_shapes xs)) in
    let total = written (plan_shapes ps) (ends [] (parts ps vs)) in
    let placing = subst (λ (ys : List GvValue). Placing before (parts ps vs) total l.out.items (parts (p ∷ others) ys) (written (plan_shapes (p ∷ others))) l.ends.items) here'
    (subst (λ (xs : List Plan). Placing before (parts ps vs) total l.out.items (parts xs (drop i vs)) (written (plan_shapes xs)) l.ends.items) here l.invariant.placing) in
    let used = vec_len l.out - c.len-start.result in
    let end = c.len.result - c.len-start.result in
    let last = eqb (i + 1) (length ps) in
    let noted : c.note_end.new.ends.items ≡ l.ends.items ++ put_offset (size_of (plan_shape p)) last end [] =
    c.in_ok-note_end.ensures ∙ ap (λ (q : Plan). l.ends.items ++ put_offset (size_of (plan_shape q)) last end []) same in
    let final : last ≡ is_none_left (plan_shapes others) = none-left others (i + 1) (length ps) (omega (arith, length-drop (i + 1) ps)) in
    record {
      good = (and_parts (is_plan p) (are_plans others) (subst (λ (xs : List Plan). IsTrue (are_plans xs)) here l.invariant.good)).1;
      fits = (and_parts (one (plan_shape p) (plain x)) (each_fits one (plan_shapes others) (plains (drop (i + 1) vs)))
          (subst (λ (ys : List GvValue). IsTrue (each_fits one (plan_shapes (p ∷ others)) (plains ys))) here'
          (subst (λ (xs : List Plan). IsTrue (each_fits one (plan_shapes xs) (plains (drop i vs)))) here l.invariant.fits))).1;
      placing = placing-more before (parts ps vs) total l.out.items (align_of (plan_shape p)) (spelling (plain x) (plan_shape p)) (parts others (drop (i + 1) vs)) (written (plan_shapes (p ∷ others))) l.ends.items
          c.write_placed.new.out.items (written (plan_shapes others)) c.note_end.new.ends.items used end placing (omega arith) (omega arith) c.in_ok-write_placed.ensures
          (λ es. put-noted l.ends.items c.note_end.new.ends.items (plan_shape p) (plan_shapes others) last end es noted final);
    }

pub write_row-returns-in_err-write : goal.write_row-returns-in_err-write
write_row-returns-in_err-write t c =
    let l = c.loop-item in
    let i = l.item-index in
    let x = c.item-item.result in
    let s = plan_shape c.args.element.now in
    let items = c.args.items.now in
    let before = c.args.out.now.items in
    let joined : List GvValue → List ℕ = λ (xs : List GvValue). concat (spelling_of_all (plains xs) s) in
    let here : drop i items ≡ x ∷ drop (i + 1) items = drop_more items i x c.loop-item-test.true ∙ ap (λ (y : GvValue). y ∷ drop (i + 1) items) (sym c.item-item.is) in
    let e = c.in_err-write.field-0.0 in
    adds-err c.from_residual.result e before c.write.new.out.items (joined items) c.from_residual.ensures.1
    (coming-fails e before (joined items) l.out.items (spelling (plain x) s) (joined (drop (i + 1) items)) (joined (drop i items)) l.invariant.coming (ap joined here) c.in_err-write.ensures)

pub write_row-loop-item-preserved : goal.write_row-loop-item-preserved
write_row-loop-item-preserved t c =
    let l = c.loop-item in
    let i = l.item-index in
    let x = c.item-item.result in
    let s = plan_shape c.args.element.now in
    let items = c.args.items.now in
    let before = c.args.out.now.items in
    let one = fits_within c.args.room s in
    let joined : List GvValue → List ℕ = λ (xs : List GvValue). concat (spelling_of_all (plains xs) s) in
    let here : drop i items ≡ x ∷ drop (i + 1) items = drop_more items i x c.loop-item-test.true ∙ ap (λ (y : GvValue). y ∷ drop (i + 1) items) (sym c.item-item.is) in
    record {
      fits = (and_parts (one (plain x)) (all_fit one (plains (drop (i + 1) items))) (subst (λ (xs : List GvValue). IsTrue (all_fit one (plains xs))) here l.invariant.fits)).1;
      coming = coming-more before (joined items) l.out.items c.write.new.out.items (spelling (plain x) s) (joined (drop (i + 1) items))
          (subst (λ (xs : List GvValue). Coming before (joined items) l.out.items (joined xs)) here l.invariant.coming) c.in_ok-write.ensures;
    }

pub write_tuple-returns-in_err-ends : goal.write_tuple-returns-in_err-ends
write_tuple-returns-in_err-ends t c =
    let ts = plan_shapes c.args.plans.now in
    let before = c.args.out.now.items in
    let children = spelling_of_each (plains c.in-Tuple.items.now) ts in
    let e = c.in_err-ends.field-0.0 in
    subst (λ (p : Parts). Adds c.from_residual.result before c.write_members.new.out.items (spelling (part_tree p) (Shape.tuple ts))) (sym c.in-Tuple.is)
    (adds-err c.from_residual.result e before c.write_members.new.out.items (tuple_bytes (size_of (Shape.tuple ts)) ts children) c.from_residual.ensures.1
    (closed-fails e before (size_of (Shape.tuple ts)) ts children c.in_err-ends.ensures.body))

pub write_tuple-returns : goal.write_tuple-returns
write_tuple-returns t c =
    let ts = plan_shapes c.args.plans.now in
    let before = c.args.out.now.items in
    let children = spelling_of_each (plains c.in-Tuple.items.now) ts in
    let o = size_of (Shape.tuple ts) in
    let extent : IsExtent c.filled.result (Shape.tuple ts) = filled-from c.args.run c.filled.result ts c.requires.extent c.filled.ensures.align c.filled.ensures.size in
    let used = vec_len c.write_members.new.out - c.len-start.result in
    subst (λ (p : Parts). Adds c.close.result before c.close.new.out.items (spelling (part_tree p) (Shape.tuple ts))) (sym c.in-Tuple.is)
    (closed c.close.result before c.write_members.new.out.items c.close.new.out.items o ts children c.in_ok-ends.ends.items used c.in_ok-ends.ensures.body c.in_ok-ends.ensures.noted (omega arith)
    (c.close.ensures o extent.size))

pub write_variant-write-requires : goal.write_variant-write-requires
write_variant-write-requires t c =
    let of = shape_of c.in-Variant.of.now in
    let v = plain c.in-Variant.child.now in
    let fits = (and_parts (is_type of) (fits_within c.args.room of v)
    (subst (λ (p : Parts). IsTrue (fits_within (suc c.args.room) Shape.variant (part_tree p))) c.in-Variant.is c.requires.fits)).1 in
    (search rules, (c.requires.room_left, (c.in_ok-plan.ensures.good, subst (λ (s : Shape). IsTrue (fits_within c.args.room s v)) (sym c.in_ok-plan.ensures.type) fits)))
