use Rattle.std.proofs.Common.{rules}
use Rattle.bus_frame.specs.Types.{type_after}
use Rattle.bus_frame.proofs.TypeSteps.{step, members_after_more}
use Rattle.bus_frame.proofs.types.+types.Goals as goal

pub after_type-returns-in_ok-in_array-in-97 : goal.after_type-returns-in_ok-in_array-in-97
after_type-returns-in_ok-in_array-in-97 t c = rw step (search rules)

pub after_type-returns-in_ok-in_struct-in-40 : goal.after_type-returns-in_ok-in_struct-in-40
after_type-returns-in_ok-in_struct-in-40 t c = rw step (search rules)

pub after_type-returns-in_default-2 : goal.after_type-returns-in_default-2
after_type-returns-in_default-2 t c = rw step (search rules)

pub after_members-loop-preserved : goal.after_members-loop-preserved
after_members-loop-preserved t c =
    members_after_more (type_after c.args.room.containers c.args.room.arrays c.args.room.structs) _ _ _ _ _ c.loop-test.true c.in_ok-rest.ensures c.in_default.ensures c.loop.invariant
