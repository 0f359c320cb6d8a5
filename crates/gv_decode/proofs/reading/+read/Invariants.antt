use Rattle.std.proofs.Common.{◌≡◌, ◌+◌, ◌*◌, drop}
use Rattle.gv_value.specs.Plans.{plan_shape, plan_shapes}
use Rattle.gv_value.specs.Reading.{value_at, read_all, read_each}
use Rattle.gv_decode.specs.Decoded.{slices}
use Rattle.gv_decode.proofs.OneByOne.{ReadSoFar}
use Rattle.gv_decode.proofs.reading.+read.Given as goal

abbrev pub decreases-read : goal.decreases-read
decreases-read l = 4 * l.room

abbrev pub decreases-read_variant : goal.decreases-read_variant
decreases-read_variant l = 4 * l.room + 3

abbrev pub decreases-read_maybe : goal.decreases-read_maybe
decreases-read_maybe l = 4 * l.room + 3

abbrev pub decreases-read_array : goal.decreases-read_array
decreases-read_array l = 4 * l.room + 3

abbrev pub decreases-read_items : goal.decreases-read_items
decreases-read_items l = 4 * l.room + 1

abbrev pub decreases-read_members : goal.decreases-read_members
decreases-read_members l = 4 * l.room + 3

abbrev pub decreases-read_each_member : goal.decreases-read_each_member
decreases-read_each_member l = 4 * l.room + 1

abbrev pub invariant-read_items-loop-child : goal.invariant-read_items-loop-child
invariant-read_items-loop-child l =
    let one = value_at l.room (plan_shape l.element) in
    ReadSoFar l.values.items (read_all one (slices (drop l.child-index l.children))) (read_all one (slices l.children))

abbrev pub invariant-read_each_member-loop-i : goal.invariant-read_each_member-loop-i
invariant-read_each_member-loop-i l =
    let one = value_at l.room in
    ReadSoFar l.values.items (read_each one (plan_shapes (drop l.i l.plans)) (slices (drop l.i l.children))) (read_each one (plan_shapes l.plans) (slices l.children))
