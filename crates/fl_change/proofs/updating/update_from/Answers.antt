use Rattle.std.proofs.Common.{◌≡◌, ◌∙◌, sym, subst, List, false, Ok}
use Rattle.fp_small.specs.declared.op.Op.{Op}
use Rattle.fp_small.specs.declared.state.State.{State}
use Rattle.fl_plan.specs.Answers.{Plans}
use Rattle.fl_plan.specs.Plans.{plan_of}
use Rattle.fp_small.specs.declared.refusal.Refusal.{Refusal}
use Rattle.ost_walk.specs.declared.pull_end.PullEnd.TheVariants as pulls
use Rattle.ost_walk.specs.Ends.{outside}
use Rattle.op_change.specs.Applied.{Brings}
use Rattle.fl_change.specs.Performs.{Acts, Rests}
use Rattle.fl_change.specs.Refs.{ops_over, is_no_offer}
use Rattle.fl_change.proofs.Targets.{plans_at, updated_ok, updated_skipped, updated_err}
use Rattle.fl_change.proofs.updating.update_from.Goals as goal

pub returns-in-Ok-clause-acts : goal.returns-in-Ok-clause-acts
returns-in-Ok-clause-acts g c =
    let s = c.args.opened in
    updated_ok s c.args.remote.now c.args.name.now c.in-Ok.plan c.do_ops.result (g.met.H.Host.is_tree c.ops.new.host) (subst (λ (x : State). Plans (λ held stored. plan_of held stored x c.args.remote.now c.args.name.now) (Ok c.in-Ok.plan) (outside (g.H.Host.moments c.args.host.now) (g.H.Host.faults c.args.host.now) (g.R.Remotes.holds c.args.remotes.now) (g.R.Remotes.faults c.args.remotes.now)) (outside (g.H.Host.moments c.ops.new.host) (g.H.Host.faults c.ops.new.host) (g.R.Remotes.holds c.ops.new.remotes) (g.R.Remotes.faults c.ops.new.remotes))) c.state.ensures c.in-Ok.ensures.plans)
    (subst (λ (l : List Op). Acts (Rests s) Brings (ops_over l) s c.args.acted.now c.do_ops.new.acted c.do_ops.result (outside (g.H.Host.moments c.ops.new.host) (g.H.Host.faults c.ops.new.host) (g.R.Remotes.holds c.ops.new.remotes) (g.R.Remotes.faults c.ops.new.remotes)) (outside (g.H.Host.moments c.do_ops.new.host) (g.H.Host.faults c.do_ops.new.host) (g.R.Remotes.holds c.do_ops.new.remotes) (g.R.Remotes.faults c.do_ops.new.remotes))) c.as_slice.ensures c.do_ops.ensures.acts)

pub returns-then-is_no_offer-clause-acts : goal.returns-then-is_no_offer-clause-acts
returns-then-is_no_offer-clause-acts g c = updated_skipped c.args.opened c.args.remote.now c.args.name.now c.in-Err-Refused.refusal c.skip.result (sym c.is_no_offer.ensures ∙ c.if-is_no_offer.true) (g.met.H.Host.is_tree c.ops.new.host) (plans_at c.state.result.now c.args.opened c.args.remote.now c.args.name.now c.in-Err-Refused.field-0 (pulls.Refused c.in-Err-Refused.refusal) c.state.ensures c.in-Err-Refused.field-0-is c.in-Err-Refused.ensures.plans) (c.skip.ensures.acts c.args.acted.now)

pub returns-else-is_no_offer-clause-acts : goal.returns-else-is_no_offer-clause-acts
returns-else-is_no_offer-clause-acts g c = updated_err c.args.opened c.args.remote.now c.args.name.now (pulls.Refused c.in-Err-Refused.refusal) (g.met.H.Host.is_tree c.ops.new.host) (plans_at c.state.result.now c.args.opened c.args.remote.now c.args.name.now c.in-Err-Refused.field-0 (pulls.Refused c.in-Err-Refused.refusal) c.state.ensures c.in-Err-Refused.field-0-is c.in-Err-Refused.ensures.plans) (λ r is. let same : c.in-Err-Refused.refusal ≡ r = cc is in subst (λ (q : Refusal). is_no_offer q ≡ false) same (sym c.is_no_offer.ensures ∙ c.if-is_no_offer.false))

pub returns-in-Err-HostFault-clause-acts : goal.returns-in-Err-HostFault-clause-acts
returns-in-Err-HostFault-clause-acts g c = updated_err c.args.opened c.args.remote.now c.args.name.now pulls.HostFault (g.met.H.Host.is_tree c.ops.new.host) (plans_at c.state.result.now c.args.opened c.args.remote.now c.args.name.now c.in-Err-HostFault.field-0 pulls.HostFault c.state.ensures c.in-Err-HostFault.field-0-is c.in-Err-HostFault.ensures.plans) (λ r is. absurd (cc is))

pub returns-in-Err-RemoteFault-clause-acts : goal.returns-in-Err-RemoteFault-clause-acts
returns-in-Err-RemoteFault-clause-acts g c = updated_err c.args.opened c.args.remote.now c.args.name.now pulls.RemoteFault (g.met.H.Host.is_tree c.ops.new.host) (plans_at c.state.result.now c.args.opened c.args.remote.now c.args.name.now c.in-Err-RemoteFault.field-0 pulls.RemoteFault c.state.ensures c.in-Err-RemoteFault.field-0-is c.in-Err-RemoteFault.ensures.plans) (λ r is. absurd (cc is))

pub returns-in-Err-NoMemory-clause-acts : goal.returns-in-Err-NoMemory-clause-acts
returns-in-Err-NoMemory-clause-acts g c = updated_err c.args.opened c.args.remote.now c.args.name.now pulls.NoMemory (g.met.H.Host.is_tree c.ops.new.host) (plans_at c.state.result.now c.args.opened c.args.remote.now c.args.name.now c.in-Err-NoMemory.field-0 pulls.NoMemory c.state.ensures c.in-Err-NoMemory.field-0-is c.in-Err-NoMemory.ensures.plans) (λ r is. absurd (cc is))
