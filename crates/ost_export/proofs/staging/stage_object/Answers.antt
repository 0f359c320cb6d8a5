use Rattle.std.proofs.Common.{sym, subst, arith}
use Rattle.fp_host.specs.Paths.{Elements}
use Rattle.fp_host.specs.Frame.{AtEnd}
use Rattle.fp_host.specs.Moments.{Always}
use Rattle.fp_host.proofs.Cause.{same_fault}
use Rattle.fp_host.proofs.Ending.{ends_start, fault_caused}
use Rattle.ost_model.specs.Objects.{object_path}
use Rattle.ost_store.specs.Stage.{CanStage, Stages, WasStaged}
use Rattle.ost_export.proofs.staging.stage_object.Goals as goal

pub returns-in_err-stage-clause-any_moment : goal.returns-in_err-stage-clause-any_moment
returns-in_err-stage-clause-any_moment g c =
    let o = c.args.object.now in
    subst (λ (p : Elements). Always (Stages p o.object) (g.H.Host.moments c.args.host.now) (g.H.Host.moments c.stage.new.host)) c.in_ok-path.ensures c.stage.ensures.any_moment

pub returns-in-Ok-clause-any_moment : goal.returns-in-Ok-clause-any_moment
returns-in-Ok-clause-any_moment g c =
    let o = c.args.object.now in
    subst (λ (p : Elements). Always (Stages p o.object) (g.H.Host.moments c.args.host.now) (g.H.Host.moments c.stage.new.host)) c.in_ok-path.ensures c.stage.ensures.any_moment

pub returns-in-Ok-clause-on_success : goal.returns-in-Ok-clause-on_success
returns-in-Ok-clause-on_success g c =
    let o = c.args.object.now in
    (c.in-Ok.ensures.items, subst (λ (p : Elements). AtEnd (WasStaged p o.object) (g.H.Host.moments c.args.host.now) (g.H.Host.moments c.stage.new.host)) c.in_ok-path.ensures c.in_ok-stage.ensures.on_success)

pub returns-clause-any_moment : goal.returns-clause-any_moment
returns-clause-any_moment g c =
    let o = c.args.object.now in
    subst (λ (p : Elements). Always (Stages p o.object) (g.H.Host.moments c.args.host.now) (g.H.Host.moments c.stage.new.host)) c.in_ok-path.ensures c.stage.ensures.any_moment

pub returns-in_err-stage-clause-fault_has_cause : goal.returns-in_err-stage-clause-fault_has_cause
returns-in_err-stage-clause-fault_has_cause g c =
    let t = g.met.H.Host.is_tree in
    let o = c.args.object.now in
    fault_caused (CanStage (object_path c.args.work.now o.digest o.kind) o.object) (CanStage c.in_ok-path.path o.object) _ _ _ _ _ (t c.args.host.now) (omega arith) (ends_start (t c.args.host.now)) c.stage.ensures.fault_has_cause
    (same_fault _ _ _ c.in_err-stage.was c.from_residual-in_err-stage.ensures.1) (λ u v tree same can. subst (λ (p : Elements). CanStage p o.object v) (sym c.in_ok-path.ensures) (subst (CanStage (object_path c.args.work.now o.digest o.kind) o.object) (sym same) can))
