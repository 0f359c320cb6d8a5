use Rattle.std.proofs.Common.{sym, ◌∙◌}
use Rattle.bus_frame.proofs.TypeSteps.{are_types_more}
use Rattle.bus_frame.proofs.types.are_complete_types.Goals as goal

pub loop-preserved : goal.loop-preserved
loop-preserved c =
    are_types_more _ _ _ _ _ c.loop-test.true (sym c.is_empty.ensures ∙ c.if-is_empty.false) c.in-Some.ensures c.loop.invariant
