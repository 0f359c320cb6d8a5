use Rattle.fp_host.proofs.Looking.{looks_start, looks_stat}
use Rattle.ost_pull.proofs.keeping.stat_of.Goals as goal

pub returns-in_err-stat-clause-unchanged : goal.returns-in_err-stat-clause-unchanged
returns-in_err-stat-clause-unchanged g c = let t = g.met.H.Host.is_tree in looks_stat c.stat.ensures.step (looks_start (t c.args.host.now)) (t c.args.host.now)

pub returns-clause-unchanged : goal.returns-clause-unchanged
returns-clause-unchanged g c = let t = g.met.H.Host.is_tree in looks_stat c.stat.ensures.step (looks_start (t c.args.host.now)) (t c.args.host.now)
