use Rattle.std.proofs.Common.{◌≡◌, ◌+◌, ◌-◌, ◌*◌, length}
use Rattle.bus_frame.specs.Types.{members_after, type_after}
use Rattle.bus_frame.proofs.types.+types.Given as goal

abbrev pub decreases-after_element : goal.decreases-after_element
decreases-after_element l = 2 * l.room.containers + 1

abbrev pub decreases-after_members : goal.decreases-after_members
decreases-after_members l = 2 * l.room.containers + 1

abbrev pub decreases-after_type : goal.decreases-after_type
decreases-after_type l = 2 * l.room.containers

abbrev pub invariant-after_members-loop : goal.invariant-after_members-loop
invariant-after_members-loop l =
    members_after (type_after l.room.containers l.room.arrays l.room.structs) (l.end - l.counter) l.rest
    ≡ members_after (type_after l.room.containers l.room.arrays l.room.structs) (length l.types) l.types
