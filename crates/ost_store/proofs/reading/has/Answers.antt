use Rattle.std.proofs.Common.{Ok, subst}
use Rattle.fp_host.specs.View.{IsTree}
use Rattle.fp_host.specs.Reads.{StatOf}
use Rattle.fp_host.proofs.Looking.{looks_start, looks_stat}
use Rattle.fp_host.proofs.Ending.{ends_call, ends_in_tree}
use Rattle.ost_store.proofs.Gets.{has_none, has_file, has_link}
use Rattle.ost_store.proofs.reading.has.Goals as goal

pub returns-in_err-stat-clause-unchanged : goal.returns-in_err-stat-clause-unchanged
returns-in_err-stat-clause-unchanged g c = let t = g.met.H.Host.is_tree in looks_stat c.stat.ensures.step (looks_start (t c.args.host.now)) (t c.args.host.now)

pub returns-in-Absent-clause-unchanged : goal.returns-in-Absent-clause-unchanged
returns-in-Absent-clause-unchanged g c = let t = g.met.H.Host.is_tree in looks_stat c.stat.ensures.step (looks_start (t c.args.host.now)) (t c.args.host.now)

pub returns-in-Absent-clause-tells : goal.returns-in-Absent-clause-tells
returns-in-Absent-clause-tells g c =
    let t = g.met.H.Host.is_tree in
    ends_in_tree (t c.stat.new.self) (ends_call (t c.args.host.now) c.in_ok-stat.ensures.step) (λ u w tree s. has_none c.args.root.now c.args.digest.now c.args.kind c.in_ok-path.ensures (subst IsTree s.same tree) s c.in-Absent.is)

pub returns-in-File-clause-unchanged : goal.returns-in-File-clause-unchanged
returns-in-File-clause-unchanged g c = let t = g.met.H.Host.is_tree in looks_stat c.stat.ensures.step (looks_start (t c.args.host.now)) (t c.args.host.now)

pub returns-in-File-clause-tells : goal.returns-in-File-clause-tells
returns-in-File-clause-tells g c =
    let t = g.met.H.Host.is_tree in
    ends_in_tree (t c.stat.new.self) (ends_call (t c.args.host.now) c.in_ok-stat.ensures.step) (λ u w tree s. has_file c.args.root.now c.args.digest.now c.args.kind c.in_ok-path.ensures (subst IsTree s.same tree) (subst (λ r. StatOf c.in_ok-path.path (Ok r) u w) c.in-File.is s))

pub returns-clause-unchanged : goal.returns-clause-unchanged
returns-clause-unchanged g c = let t = g.met.H.Host.is_tree in looks_stat c.stat.ensures.step (looks_start (t c.args.host.now)) (t c.args.host.now)

pub returns-clause-tells : goal.returns-clause-tells
returns-clause-tells g c =
    let t = g.met.H.Host.is_tree in
    ends_in_tree (t c.stat.new.self) (ends_call (t c.args.host.now) c.in_ok-stat.ensures.step) (λ u w tree s. has_link c.args.root.now c.args.digest.now c.args.kind c.in_ok-path.ensures (subst IsTree s.same tree) (subst (λ r. StatOf c.in_ok-path.path (Ok r) u w) c.in-Link.is s) c.may_be_link.ensures)
