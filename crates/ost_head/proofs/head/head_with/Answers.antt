use Rattle.std.proofs.Common.{sym, ◌∙◌}
use Rattle.ost_head.proofs.Kept.{lines_answer}
use Rattle.ost_head.proofs.head.head_with.Goals as goal

pub returns-in-Some-clause-tells : goal.returns-in-Some-clause-tells
returns-in-Some-clause-tells g short = lines_answer g.args.name.now g.args.commit.now g.args.timestamp g.args.metadata _ short (sym g.in-Some.is ∙ g.in_ok-off.ensures)

pub returns-in-None-clause-tells : goal.returns-in-None-clause-tells
returns-in-None-clause-tells g short = lines_answer g.args.name.now g.args.commit.now g.args.timestamp g.args.metadata _ short (sym g.in-None.is ∙ g.in_ok-off.ensures)
