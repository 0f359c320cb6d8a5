use Rattle.std.proofs.Common.{sym, ◌∙◌}
use Rattle.bus_frame.specs.Values.{value_at}
use Rattle.bus_frame.proofs.ValueSteps.{members_at_more, elements_at_more}
use Rattle.bus_frame.proofs.value.+values.Goals as goal

pub after_elements-loop-preserved : goal.after_elements-loop-preserved
after_elements-loop-preserved t c =
    elements_at_more (value_at c.args.little c.args.room.containers c.args.room.arrays c.args.room.structs) _ _ _ _ _ _ _ c.loop-test.true c.in_ok-rest.ensures (sym c.is_empty.ensures ∙ c.if-is_empty.false) c.loop.invariant

pub members-loop-preserved : goal.members-loop-preserved
members-loop-preserved t c =
    members_at_more (value_at c.args.little c.args.room.containers c.args.room.arrays c.args.room.structs) _ _ _ _ _ _ _ c.loop-test.true c.in_ok-rest.ensures c.in_default.ensures c.loop.invariant
