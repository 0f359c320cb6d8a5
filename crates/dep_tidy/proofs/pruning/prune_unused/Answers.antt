use Rattle.std.proofs.Common.{◌∙◌, ap}
use Rattle.fp_host.proofs.Cause.{same_fault}
use Rattle.dep_tidy.specs.Kept.{kept_of}
use Rattle.dep_tidy.proofs.Pruned.{prunes_start, prunes_of, pruned_of, can_list_of}
use Rattle.dep_tidy.proofs.pruning.prune_unused.Goals as goal

pub returns-in_err-kept-clause-any_moment : goal.returns-in_err-kept-clause-any_moment
returns-in_err-kept-clause-any_moment g c = prunes_start (g.met.H.Host.is_tree c.args.host.now)

pub returns-in_err-prune-clause-any_moment : goal.returns-in_err-prune-clause-any_moment
returns-in_err-prune-clause-any_moment g c = prunes_of c.requires.root (c.deref.ensures.value ∙ c.in_ok-kept.ensures ∙ ap kept_of c.as_slice.ensures) c.prune.ensures.any_moment

pub returns-in_err-prune-clause-fault_has_cause : goal.returns-in_err-prune-clause-fault_has_cause
returns-in_err-prune-clause-fault_has_cause g c = record {
  later = c.prune.ensures.fault_has_cause.later;
  fault = λ is m at can. c.prune.ensures.fault_has_cause.fault (same_fault _ _ _ c.in_err-prune.was c.from_residual-in_err-prune.ensures.1 is) m at (can_list_of c.requires.root can);
}

pub returns-clause-any_moment : goal.returns-clause-any_moment
returns-clause-any_moment g c = prunes_of c.requires.root (c.deref.ensures.value ∙ c.in_ok-kept.ensures ∙ ap kept_of c.as_slice.ensures) c.prune.ensures.any_moment

pub returns-clause-on_success : goal.returns-clause-on_success
returns-clause-on_success g c = pruned_of c.in_ok-prune.field-0 c.requires.root (c.deref.ensures.value ∙ c.in_ok-kept.ensures ∙ ap kept_of c.as_slice.ensures) c.in_ok-prune.ensures.on_success
