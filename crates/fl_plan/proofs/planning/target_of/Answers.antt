use Rattle.std.proofs.Common.{ℕ, Option, Ok, Err, subst}
use Rattle.ost_walk.specs.Ends.{outside}
use Rattle.fl_plan.proofs.Heads.{Reads, target_ok, target_err}
use Rattle.fl_plan.proofs.planning.target_of.Goals as goal

pub returns-in-Ok-clause-plans : goal.returns-in-Ok-clause-plans
returns-in-Ok-clause-plans g c =
    target_ok c.args.offer c.args.state.now c.in-Ok.head c.in-Ok.ensures.looks
    (subst (λ (since : Option ℕ). Reads c.args.offer since (Ok c.in-Ok.head) (outside (g.H.Host.moments c.args.host.now) (g.H.Host.faults c.args.host.now) (g.R.Remotes.holds c.args.remotes.now) (g.R.Remotes.faults c.args.remotes.now)))
    c.time_of-since.ensures c.in-Ok.ensures.tells)

pub returns-in-Err-clause-plans : goal.returns-in-Err-clause-plans
returns-in-Err-clause-plans g c =
    target_err c.args.offer c.args.state.now c.in-Err.end c.in-Err.ensures.looks
    (subst (λ (since : Option ℕ). Reads c.args.offer since (Err c.in-Err.end) (outside (g.H.Host.moments c.args.host.now) (g.H.Host.faults c.args.host.now) (g.R.Remotes.holds c.args.remotes.now) (g.R.Remotes.faults c.args.remotes.now)))
    c.time_of-since.ensures c.in-Err.ensures.tells)
