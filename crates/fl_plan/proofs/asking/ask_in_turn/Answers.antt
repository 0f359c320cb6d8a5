use Rattle.std.proofs.Common.{sym, ◌∙◌}
use Rattle.fl_plan.proofs.Offering.{turn_asked, turn_skipped}
use Rattle.fl_plan.proofs.asking.ask_in_turn.Goals as goal

pub returns-then-is_in_turn-clause-asks : goal.returns-then-is_in_turn-clause-asks
returns-then-is_in_turn-clause-asks g c =
    turn_asked c.args.own.now c.args.others c.args.name.now c.args.row.now (sym c.is_in_turn.ensures ∙ c.if-is_in_turn.true) c.ask.ensures.asks

pub returns-else-is_in_turn-clause-asks : goal.returns-else-is_in_turn-clause-asks
returns-else-is_in_turn-clause-asks g c =
    turn_skipped c.args.own.now c.args.others c.args.name.now c.args.row.now (sym c.is_in_turn.ensures ∙ c.if-is_in_turn.false)
