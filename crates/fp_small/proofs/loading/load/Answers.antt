use Rattle.std.proofs.Common.{arith, subst, Ok, inl, inr}
use Rattle.fp_host.specs.View.{IsTree}
use Rattle.fp_host.specs.Reads.{StatOf}
use Rattle.fp_small.specs.Load.{IsWhole}
use Rattle.fp_host.proofs.Looking.{looks_start, looks_stat, looks_within}
use Rattle.fp_host.proofs.Ending.{ends_call, ends_on, ends_in_tree}
use Rattle.fp_small.proofs.SmallFiles.{loads_absent, loads_dir, loads_link, loads_long, loads_whole}
use Rattle.fp_small.proofs.loading.load.Goals as goal

pub returns-in_err-stat-clause-unchanged : goal.returns-in_err-stat-clause-unchanged
returns-in_err-stat-clause-unchanged g c = let t = g.met.H.Host.is_tree in looks_stat c.stat.ensures.step (looks_start (t c.args.host.now)) (t c.args.host.now)

pub returns-in_err-read_whole-in-File-2-clause-unchanged :
    goal.returns-in_err-read_whole-in-File-2-clause-unchanged
returns-in_err-read_whole-in-File-2-clause-unchanged g c = let t = g.met.H.Host.is_tree in looks_within c.read_whole.ensures.unchanged (looks_stat c.stat.ensures.step (looks_start (t c.args.host.now)) (t c.args.host.now)) (t c.stat.new.self)

pub returns-in-Absent-clause-unchanged : goal.returns-in-Absent-clause-unchanged
returns-in-Absent-clause-unchanged g c = let t = g.met.H.Host.is_tree in looks_stat c.stat.ensures.step (looks_start (t c.args.host.now)) (t c.args.host.now)

pub returns-in-Absent-clause-tells : goal.returns-in-Absent-clause-tells
returns-in-Absent-clause-tells g c = ends_in_tree (g.met.H.Host.is_tree c.stat.new.self) (ends_call (g.met.H.Host.is_tree c.args.host.now) c.in_ok-stat.ensures.step) (λ u w tree s. loads_absent (subst IsTree s.same tree) (subst (λ r. StatOf c.args.path.now (Ok r) u w) c.in-Absent.is s))

pub returns-in-Dir-clause-unchanged : goal.returns-in-Dir-clause-unchanged
returns-in-Dir-clause-unchanged g c = let t = g.met.H.Host.is_tree in looks_stat c.stat.ensures.step (looks_start (t c.args.host.now)) (t c.args.host.now)

pub returns-in-Dir-clause-tells : goal.returns-in-Dir-clause-tells
returns-in-Dir-clause-tells g c = ends_in_tree (g.met.H.Host.is_tree c.stat.new.self) (ends_call (g.met.H.Host.is_tree c.args.host.now) c.in_ok-stat.ensures.step) (λ u w tree s. elim c.in-Dir.is [
  | inl is ↦ loads_dir (subst IsTree s.same tree) (subst (λ r. StatOf c.args.path.now (Ok r) u w) is s)
  | inr is ↦ loads_link (subst IsTree s.same tree) (subst (λ r. StatOf c.args.path.now (Ok r) u w) is s)
])

pub returns-in-File-clause-unchanged : goal.returns-in-File-clause-unchanged
returns-in-File-clause-unchanged g c = let t = g.met.H.Host.is_tree in looks_stat c.stat.ensures.step (looks_start (t c.args.host.now)) (t c.args.host.now)

pub returns-in-File-clause-tells : goal.returns-in-File-clause-tells
returns-in-File-clause-tells g c = ends_in_tree (g.met.H.Host.is_tree c.stat.new.self) (ends_call (g.met.H.Host.is_tree c.args.host.now) c.in_ok-stat.ensures.step) (λ u w tree s. loads_long (subst IsTree s.same tree) (subst (λ r. StatOf c.args.path.now (Ok r) u w) c.in-File.is s) c.if-size-max.true)

pub returns-in_ok-read_whole-in-File-2-clause-unchanged :
    goal.returns-in_ok-read_whole-in-File-2-clause-unchanged
returns-in_ok-read_whole-in-File-2-clause-unchanged g c = let t = g.met.H.Host.is_tree in looks_within c.read_whole.ensures.unchanged (looks_stat c.stat.ensures.step (looks_start (t c.args.host.now)) (t c.args.host.now)) (t c.stat.new.self)

pub returns-in_ok-read_whole-in-File-2-clause-tells :
    goal.returns-in_ok-read_whole-in-File-2-clause-tells
returns-in_ok-read_whole-in-File-2-clause-tells g c = let t = g.met.H.Host.is_tree in ends_on c.in_ok-read_whole-in-File-2.ensures.tells (ends_call (t c.args.host.now) c.in_ok-stat.ensures.step) (t c.stat.new.self) (λ u v w tree s whole. loads_whole (subst IsTree s.same tree) (subst (λ r. StatOf c.args.path.now (Ok r) u v) c.in-File.is s) (omega (arith, c.if-size-max.false)) (subst (λ x. IsWhole c.args.path.now c.in-File.size x c.in_ok-read_whole-in-File-2.field-0) s.same whole))
