use Rattle.std.proofs.Common.{◌∙◌, ap}
use Rattle.fp_host.specs.Paths.{Elements}
use Rattle.fp_base.specs.declared.object.ObjKind.TheVariants as kinds
use Rattle.ost_model.specs.Objects.{object_path}
use Rattle.ost_walk.specs.declared.ends.WalkEnd.TheVariants as ends
use Rattle.ost_head.proofs.Brought.{comes_start, copied_judged, copied_brought, same_end, unrefused}
use Rattle.ost_head.proofs.bringing.bring_file.Goals as goal

pub returns-in_err-from-clause-any_moment : goal.returns-in_err-from-clause-any_moment
returns-in_err-from-clause-any_moment g c = comes_start (g.met.H.Host.is_tree c.args.host.now)

pub returns-in_err-buffer-clause-any_moment : goal.returns-in_err-buffer-clause-any_moment
returns-in_err-buffer-clause-any_moment g c = comes_start (g.met.H.Host.is_tree c.args.host.now)

pub returns-in_err-got-clause-tells : goal.returns-in_err-got-clause-tells
returns-in_err-got-clause-tells g c held is = unrefused held c.args.url.now c.args.digest.now _ _ _ c.in_err-got.was c.from_residual-in_err-got.ensures.1 c.copy_anew.ensures.refuses

pub returns-in_err-got-clause-fault_has_cause : goal.returns-in_err-got-clause-fault_has_cause
returns-in_err-got-clause-fault_has_cause g c =
    let cause = c.copy_anew.ensures.fault_has_cause in
    record { later = cause.later; fault = λ is m at can. cause.fault (same_end _ _ _ ends.HostFault c.in_err-got.was c.from_residual-in_err-got.ensures.1 is) m at can }

pub returns-in_err-got-clause-remote_fault_has_cause :
    goal.returns-in_err-got-clause-remote_fault_has_cause
returns-in_err-got-clause-remote_fault_has_cause g c =
    let cause = c.copy_anew.ensures.remote_fault_has_cause in
    record { later = cause.later; rose = λ is. cause.rose (same_end _ _ _ ends.RemoteFault c.in_err-got.was c.from_residual-in_err-got.ensures.1 is) }

pub returns-clause-on_success : goal.returns-clause-on_success
returns-clause-on_success g c =
    let at = c.in_ok-from.ensures ∙ ap (λ (r : Elements). object_path r c.args.digest.now kinds.File) c.root.ensures in
    copied_brought at c.requires.limits c.requires.there c.in_ok-got.ensures.copies c.check_digest.result c.check_digest.ensures.tells

pub returns-clause-tells : goal.returns-clause-tells
returns-clause-tells g c held is =
    let at = c.in_ok-from.ensures ∙ ap (λ (r : Elements). object_path r c.args.digest.now kinds.File) c.root.ensures in
    copied_judged at c.requires.limits c.requires.there c.in_ok-got.ensures.copies c.check_digest.result c.check_digest.ensures.tells held is
