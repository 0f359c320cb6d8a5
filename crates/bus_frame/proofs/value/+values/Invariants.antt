use Rattle.std.proofs.Common.{◌≡◌, ◌+◌, ◌-◌, ◌*◌, length}
use Rattle.bus_frame.specs.Places.{place_of}
use Rattle.bus_frame.specs.Values.{members_at, elements_at, value_at}
use Rattle.bus_frame.proofs.value.+values.Given as goal

abbrev pub decreases-array : goal.decreases-array
decreases-array l = 4 * l.room.containers + 3

abbrev pub decreases-after_elements : goal.decreases-after_elements
decreases-after_elements l = 4 * l.room.containers + 2

abbrev pub decreases-members : goal.decreases-members
decreases-members l = 4 * l.room.containers + 2

abbrev pub decreases-structure : goal.decreases-structure
decreases-structure l = 4 * l.room.containers + 3

abbrev pub decreases-value : goal.decreases-value
decreases-value l = 4 * l.room.containers

abbrev pub decreases-variant : goal.decreases-variant
decreases-variant l = 4 * l.room.containers + 2

abbrev pub invariant-after_elements-loop : goal.invariant-after_elements-loop
invariant-after_elements-loop l =
    elements_at (value_at l.little l.room.containers l.room.arrays l.room.structs) (l.end - l.counter) l.types (place_of l.next)
    ≡ elements_at (value_at l.little l.room.containers l.room.arrays l.room.structs) (length l.place.rest.now) l.types (place_of l.place)

abbrev pub invariant-members-loop : goal.invariant-members-loop
invariant-members-loop l =
    members_at (value_at l.little l.room.containers l.room.arrays l.room.structs) (l.end - l.counter) l.left (place_of l.next)
    ≡ members_at (value_at l.little l.room.containers l.room.arrays l.room.structs) (length l.types) l.types (place_of l.place)
