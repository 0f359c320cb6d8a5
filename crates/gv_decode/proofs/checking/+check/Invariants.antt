use Rattle.std.proofs.Common.{◌≡◌, ◌+◌, ◌*◌, drop, option_and_then}
use Rattle.std.specs.Option.{is_some}
use Rattle.gv_value.specs.Plans.{plan_shape, plan_shapes}
use Rattle.gv_value.specs.Reading.{value_at, read_all, read_each}
use Rattle.gv_decode.specs.Decoded.{slices}
use Rattle.gv_decode.specs.Stepped.{elements_left, IsOpen}
use Rattle.gv_decode.proofs.checking.+check.Given as goal

abbrev pub decreases-check : goal.decreases-check
decreases-check l = 4 * l.room

abbrev pub decreases-check_variant : goal.decreases-check_variant
decreases-check_variant l = 4 * l.room + 3

abbrev pub decreases-check_maybe : goal.decreases-check_maybe
decreases-check_maybe l = 4 * l.room + 3

abbrev pub decreases-check_array : goal.decreases-check_array
decreases-check_array l = 4 * l.room + 3

abbrev pub decreases-check_items : goal.decreases-check_items
decreases-check_items l = 4 * l.room + 1

abbrev pub decreases-check_members : goal.decreases-check_members
decreases-check_members l = 4 * l.room + 3

abbrev pub decreases-check_each : goal.decreases-check_each
decreases-check_each l = 4 * l.room + 1

abbrev pub invariant-check_items-loop-child : goal.invariant-check_items-loop-child
invariant-check_items-loop-child l =
    let one = value_at l.room (plan_shape l.element) in record {
      ready : IsOpen l.left;
      same : is_some (option_and_then (read_all one) (elements_left l.left)) ≡ is_some (option_and_then (read_all one) (elements_left l.elements));
    }

abbrev pub decreases-check_items-loop-child : goal.decreases-check_items-loop-child
decreases-check_items-loop-child l = l.left.left

abbrev pub invariant-check_each-loop-i : goal.invariant-check_each-loop-i
invariant-check_each-loop-i l =
    let one = value_at l.room in
    is_some (read_each one (plan_shapes (drop l.i l.plans)) (slices (drop l.i l.children))) ≡ is_some (read_each one (plan_shapes l.plans) (slices l.children))
