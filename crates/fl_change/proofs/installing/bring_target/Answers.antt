use Rattle.std.proofs.Common.{subst, List, Ok, Err}
use Rattle.fp_small.specs.declared.op.Op.{Op}
use Rattle.fp_small.specs.declared.state.State.{State}
use Rattle.ost_walk.specs.Ends.{outside}
use Rattle.fl_plan.specs.Answers.{Plans}
use Rattle.fl_plan.specs.Plans.{plan_of}
use Rattle.op_change.specs.Applied.{Brings}
use Rattle.fl_change.specs.Ends.{end_of_pull}
use Rattle.fl_change.specs.Performs.{Acts, Rests}
use Rattle.fl_change.specs.Refs.{ops_over}
use Rattle.fl_change.proofs.Acting.{acts_err}
use Rattle.fl_change.proofs.Targets.{planned_err, planned_ok}
use Rattle.fl_change.proofs.installing.bring_target.Goals as goal

pub returns-in_err-plan-clause-acts : goal.returns-in_err-plan-clause-acts
returns-in_err-plan-clause-acts g c = acts_err c.from_residual.result (end_of_pull c.in_err-plan.field-0.0) c.from_residual.ensures.1
    (planned_err c.args.opened c.args.remote.now c.args.name.now c.in_err-plan.field-0.0 (g.met.H.Host.is_tree c.ops.new.host) (subst (λ (x : State). Plans (λ held stored. plan_of held stored x c.args.remote.now c.args.name.now) (Err c.in_err-plan.field-0.0) (outside (g.H.Host.moments c.args.host.now) (g.H.Host.faults c.args.host.now) (g.R.Remotes.holds c.args.remotes.now) (g.R.Remotes.faults c.args.remotes.now)) (outside (g.H.Host.moments c.ops.new.host) (g.H.Host.faults c.ops.new.host) (g.R.Remotes.holds c.ops.new.remotes) (g.R.Remotes.faults c.ops.new.remotes))) c.state.ensures c.in_err-plan.ensures.plans))

pub returns-clause-acts : goal.returns-clause-acts
returns-clause-acts g c =
    let s = c.args.opened in
    let u = outside (g.H.Host.moments c.ops.new.host) (g.H.Host.faults c.ops.new.host) (g.R.Remotes.holds c.ops.new.remotes) (g.R.Remotes.faults c.ops.new.remotes) in
    let v = outside (g.H.Host.moments c.do_ops.new.host) (g.H.Host.faults c.do_ops.new.host) (g.R.Remotes.holds c.do_ops.new.remotes) (g.R.Remotes.faults c.do_ops.new.remotes) in
    planned_ok s c.args.remote.now c.args.name.now c.in_ok-plan.plan c.do_ops.result (g.met.H.Host.is_tree c.ops.new.host) (subst (λ (x : State). Plans (λ held stored. plan_of held stored x c.args.remote.now c.args.name.now) (Ok c.in_ok-plan.plan) (outside (g.H.Host.moments c.args.host.now) (g.H.Host.faults c.args.host.now) (g.R.Remotes.holds c.args.remotes.now) (g.R.Remotes.faults c.args.remotes.now)) (outside (g.H.Host.moments c.ops.new.host) (g.H.Host.faults c.ops.new.host) (g.R.Remotes.holds c.ops.new.remotes) (g.R.Remotes.faults c.ops.new.remotes))) c.state.ensures c.in_ok-plan.ensures.plans)
    (subst (λ (l : List Op). Acts (Rests s) Brings (ops_over l) s c.args.acted.now c.do_ops.new.acted c.do_ops.result u v) c.as_slice.ensures c.do_ops.ensures.acts)
