use Rattle.std.proofs.Common.{subst, ◌∙◌}
use Rattle.fp_host.specs.View.{IsTree}
use Rattle.fp_host.proofs.Looking.{looks_start, looks_stat}
use Rattle.fp_host.proofs.Ending.{ends_call, ends_in_tree}
use Rattle.ost_fsck.proofs.Judged.{bits_shown}
use Rattle.ost_fsck.proofs.judging.are_bits_good.Goals as goal

pub returns-in_err-stat-clause-unchanged : goal.returns-in_err-stat-clause-unchanged
returns-in_err-stat-clause-unchanged g c = let t = g.met.H.Host.is_tree in looks_stat c.stat.ensures.step (looks_start (t c.args.host.now)) (t c.args.host.now)

pub returns-clause-unchanged : goal.returns-clause-unchanged
returns-clause-unchanged g c = let t = g.met.H.Host.is_tree in looks_stat c.stat.ensures.step (looks_start (t c.args.host.now)) (t c.args.host.now)

pub returns-clause-tells : goal.returns-clause-tells
returns-clause-tells g c =
    let t = g.met.H.Host.is_tree in
    ends_in_tree (t c.stat.new.self) (ends_call (t c.args.host.now) c.in_ok-stat.ensures.step)
    (λ u w tree s. record { same = c.has_bits.ensures ∙ bits_shown u c.args.path.now c.in_ok-stat.stat (subst IsTree s.same tree) s.tells.1 })
