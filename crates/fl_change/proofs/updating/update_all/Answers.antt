use Rattle.std.proofs.Common.{◌∙◌, sym, ap, List, None}
use Rattle.fp_name.specs.Refs.{Ref}
use Rattle.fp_small.specs.declared.state.State.{State}
use Rattle.fl_plan.specs.Targets.{targets_of}
use Rattle.fl_change.specs.Answer.{each_over}
use Rattle.fl_change.specs.Refs.{update_all_over, target_over}
use Rattle.fl_change.specs.World.{world_at}
use Rattle.fl_change.specs.declared.end.RunEnd.TheVariants.{NoMemory}
use Rattle.fl_change.proofs.Acting.{acts_err, acts_halted, acts_same}
use Rattle.fl_change.proofs.updating.update_all.Goals as goal

pub returns-in_err-names-clause-acts : goal.returns-in_err-names-clause-acts
returns-in_err-names-clause-acts g c = acts_err c.from_residual.result NoMemory c.from_residual.ensures.1 (acts_halted update_all_over (g.met.H.Host.is_tree c.args.host.now))

pub returns-clause-acts : goal.returns-clause-acts
returns-clause-acts g c = acts_same update_all_over (each_over target_over c.as_slice.result.now) (λ x first held known rests. ap (λ (l : List Ref). each_over target_over l held (world_at c.args.opened x)) (ap (λ (y : State). targets_of y None) (sym c.state.ensures) ∙ sym c.in_ok-names.ensures ∙ sym c.as_slice.ensures)) c.update_each.ensures.acts
