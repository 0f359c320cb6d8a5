use Rattle.fp_host.proofs.Looking.{looks_start, looks_stat}
use Rattle.ost_pull.proofs.Batched.{lacks_found, lacks_same}
use Rattle.ost_pull.proofs.batches.is_wanted.Goals as goal

pub returns-then-contains-clause-unchanged : goal.returns-then-contains-clause-unchanged
returns-then-contains-clause-unchanged g c = looks_start (g.met.H.Host.is_tree c.args.host.now)

pub returns-in_err-stat-clause-unchanged : goal.returns-in_err-stat-clause-unchanged
returns-in_err-stat-clause-unchanged g c = let t = g.met.H.Host.is_tree in looks_stat c.stat.ensures.step c.has.ensures.unchanged (t c.has.new.host)

pub returns-in-Absent-clause-unchanged : goal.returns-in-Absent-clause-unchanged
returns-in-Absent-clause-unchanged g c = let t = g.met.H.Host.is_tree in looks_stat c.stat.ensures.step c.has.ensures.unchanged (t c.has.new.host)

pub returns-in-Absent-clause-lacks : goal.returns-in-Absent-clause-lacks
returns-in-Absent-clause-lacks g c is =
    let t = g.met.H.Host.is_tree in
    lacks_same c.args.digest.now c.args.kind (t c.args.host.now) (looks_stat c.stat.ensures.step c.has.ensures.unchanged (t c.has.new.host))
    (lacks_found c.args.digest.now c.args.kind c.in_ok-has.field-0 c.if-branch.false c.in_ok-has.ensures.tells)

pub returns-clause-unchanged : goal.returns-clause-unchanged
returns-clause-unchanged g c = let t = g.met.H.Host.is_tree in looks_stat c.stat.ensures.step c.has.ensures.unchanged (t c.has.new.host)
