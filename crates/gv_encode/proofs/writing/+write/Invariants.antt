use Rattle.std.proofs.Common.{◌+◌, ◌*◌, [], drop, IsTrue}
use Rattle.std.specs.List.{concat}
use Rattle.gv_value.specs.Framing.{ends, parts_of, same_parts, written}
use Rattle.gv_value.specs.Layout.{align_of}
use Rattle.gv_value.specs.Plans.{plan_shape, plan_shapes, are_plans}
use Rattle.gv_value.specs.Spelling.{fits_within, all_fit, each_fits, spelling_of_all, spelling_of_each}
use Rattle.gv_value.specs.Views.{plains}
use Rattle.gv_encode.proofs.Placed.{Placing}
use Rattle.gv_encode.proofs.Steps.{Coming}
use Rattle.gv_encode.proofs.writing.+write.Given as goal

abbrev pub decreases-write : goal.decreases-write
decreases-write l = 5 * l.room

abbrev pub decreases-write_array : goal.decreases-write_array
decreases-write_array l = 5 * l.room + 4

abbrev pub decreases-write_entry : goal.decreases-write_entry
decreases-write_entry l = 5 * l.room + 4

abbrev pub decreases-write_framed : goal.decreases-write_framed
decreases-write_framed l = 5 * l.room + 3

abbrev pub decreases-write_maybe : goal.decreases-write_maybe
decreases-write_maybe l = 5 * l.room + 4

abbrev pub decreases-write_members : goal.decreases-write_members
decreases-write_members l = 5 * l.room + 3

abbrev pub decreases-write_placed : goal.decreases-write_placed
decreases-write_placed l = 5 * l.room + 2

abbrev pub decreases-write_row : goal.decreases-write_row
decreases-write_row l = 5 * l.room + 3

abbrev pub decreases-write_tuple : goal.decreases-write_tuple
decreases-write_tuple l = 5 * l.room + 4

abbrev pub decreases-write_variant : goal.decreases-write_variant
decreases-write_variant l = 5 * l.room + 4

abbrev pub invariant-write_row-loop-item : goal.invariant-write_row-loop-item
invariant-write_row-loop-item l = record {
  fits : IsTrue (all_fit (fits_within l.room (plan_shape l.element)) (plains (drop l.item-index l.items)));
  coming : Coming l.fn.out.items (concat (spelling_of_all (plains l.items) (plan_shape l.element))) l.out.items
      (concat (spelling_of_all (plains (drop l.item-index l.items)) (plan_shape l.element)));
}

abbrev pub invariant-write_framed-loop-item : goal.invariant-write_framed-loop-item
invariant-write_framed-loop-item l =
    let parts = same_parts (align_of (plan_shape l.element)) (spelling_of_all (plains l.items) (plan_shape l.element)) in record {
      fits : IsTrue (all_fit (fits_within l.room (plan_shape l.element)) (plains (drop l.item-index l.items)));
      placing : Placing l.fn.out.items parts (ends [] parts) l.out.items
          (same_parts (align_of (plan_shape l.element)) (spelling_of_all (plains (drop l.item-index l.items)) (plan_shape l.element))) (λ es. es) l.ends.items;
    }

abbrev pub invariant-write_members-loop-i : goal.invariant-write_members-loop-i
invariant-write_members-loop-i l =
    let ts = plan_shapes l.plans in let parts = parts_of ts (spelling_of_each (plains l.items) ts) in let rest = plan_shapes (drop l.i l.plans) in record {
      good : IsTrue (are_plans (drop l.i l.plans));
      fits : IsTrue (each_fits (fits_within l.room) rest (plains (drop l.i l.items)));
      placing : Placing l.fn.out.items parts (written ts (ends [] parts)) l.out.items (parts_of rest (spelling_of_each (plains (drop l.i l.items)) rest)) (written rest) l.ends.items;
    }
