use Rattle.std.proofs.Common.{Err, ap}
use Rattle.ost_walk.specs.declared.pull_end.PullEnd.{PullEnd}
use Rattle.fl_plan.specs.Allowed.{IsTaken}
use Rattle.fl_plan.proofs.Offering.{ask_taken, ask_declined, declined_good}
use Rattle.fl_plan.proofs.asking.ask.Goals as goal

pub returns-in-Ok-clause-asks : goal.returns-in-Ok-clause-asks
returns-in-Ok-clause-asks g c =
    ask_taken c.args.remote.now c.args.name.now c.in-Ok.ensures.same c.in-Ok.commit c.offer_of_commit.result c.offer_of_commit.ensures.tells c.offer_of_commit.ensures.faults c.in-Ok.ensures.tells c.in-Ok.ensures.fault_has_cause.later

pub returns-in-Err-clause-asks : goal.returns-in-Err-clause-asks
returns-in-Err-clause-asks g c =
    ask_declined c.args.remote.now c.args.name.now c.in-Err.ensures.same c.in-Err.end c.in-Err.ensures.tells (λ e. c.in-Err.ensures.host (ap (λ (x : PullEnd). Err x) e))
    c.in-Err.ensures.fault_has_cause.later (λ e. c.in-Err.ensures.fault_has_cause.rose (ap (λ (x : PullEnd). Err x) e)) c.declined.result c.declined.ensures

pub returns-in-Err-clause-good : goal.returns-in-Err-clause-good
returns-in-Err-clause-good g c = declined_good (IsTaken c.args.remote.now c.args.name.now) c.in-Err.end c.declined.result c.declined.ensures
