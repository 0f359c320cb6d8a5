use Rattle.std.proofs.Common.{sym, subst, ◌∙◌, Result, IfOk}
use Rattle.fp_small.specs.declared.op.Op.{Op}
use Rattle.fl_change.specs.declared.end.RunEnd.{RunEnd}
use Rattle.fl_change.specs.Ends.{IsAsked, IsPlain}
use Rattle.fl_change.proofs.Acting.{acts_err}
use Rattle.fl_change.proofs.Asking.{acts_not_asked, acts_asked}
use Rattle.fl_change.proofs.change.do_asked.Goals as goal

pub returns-in_err-op-clause-acts : goal.returns-in_err-op-clause-acts
returns-in_err-op-clause-acts g c refusal op is = acts_err c.from_residual.result c.in_err-op.field-0.0 c.from_residual.ensures.1
    (acts_not_asked refusal op c.in_err-op.field-0.0 (g.met.H.Host.is_tree c.args.host.now) (subst (IsAsked refusal op) c.in_err-op.was is))

pub returns-clause-acts : goal.returns-clause-acts
returns-clause-acts g c refusal op is = acts_asked refusal op c.in_ok-op.op c.do_op.result (subst (λ (r : Result Op RunEnd). IfOk r (IsPlain c.args.opened)) c.in_ok-op.was c.requires.plain).brings_none (subst (IsAsked refusal op) c.in_ok-op.was is) c.do_op.ensures.acts

pub do_op-requires-clause-may : goal.do_op-requires-clause-may
do_op-requires-clause-may g c _ _ = record { layout = c.requires.layout ∙ sym (subst (λ (r : Result Op RunEnd). IfOk r (IsPlain c.args.opened)) c.in_ok-op.was c.requires.plain).layout; allows = (subst (λ (r : Result Op RunEnd). IfOk r (IsPlain c.args.opened)) c.in_ok-op.was c.requires.plain).allows }

pub do_op-requires-clause-short : goal.do_op-requires-clause-short
do_op-requires-clause-short g c _ _ = (subst (λ (r : Result Op RunEnd). IfOk r (IsPlain c.args.opened)) c.in_ok-op.was c.requires.plain).short
