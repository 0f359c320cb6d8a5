use Rattle.std.proofs.Common.{[], sym, subst, arith}
use Rattle.std.proofs.lemmas.Result.{on_ok_weaker}
use Rattle.fp_host.proofs.Cause.{same_fault}
use Rattle.fp_host.proofs.Ending.{ends_start, ends_on, ends_both, ends_frame, fault_caused}
use Rattle.ost_model.specs.declared.object.Object.TheVariants as objects
use Rattle.ost_store.specs.Stage.{CanStage, CanGrow}
use Rattle.ost_store.proofs.Staged.{can_grow, started, written, with_bytes, writing}
use Rattle.fp_small.proofs.Unsynced.{one_on}
use Rattle.ost_store.proofs.staging.stage_bytes.Goals as goal

pub returns-in_err-stage_file-clause-any_moment : goal.returns-in_err-stage_file-clause-any_moment
returns-in_err-stage_file-clause-any_moment g c = with_bytes c.args.bytes.now (g.met.H.Host.is_tree c.args.host.now) c.stage_file.ensures.any_moment

pub returns-in_err-stage_file-clause-fault_has_cause : goal.returns-in_err-stage_file-clause-fault_has_cause
returns-in_err-stage_file-clause-fault_has_cause g c =
    let t = g.met.H.Host.is_tree in
    fault_caused (CanStage c.args.tmp.now (objects.File c.args.mode c.args.bytes.now)) (CanStage c.args.tmp.now (objects.File c.args.mode [])) _ _ _ _ _ (t c.args.host.now) (omega arith) (ends_start (t c.args.host.now)) c.stage_file.ensures.fault_has_cause
    (same_fault _ _ _ c.in_err-stage_file.was c.from_residual.ensures.1) (λ u v tree q can. subst (CanStage c.args.tmp.now (objects.File c.args.mode [])) (sym q) (started can))

pub returns-clause-any_moment : goal.returns-clause-any_moment
returns-clause-any_moment g c = let t = g.met.H.Host.is_tree in writing c.args.bytes.now (t c.args.host.now) c.stage_file.ensures.any_moment c.in_ok-stage_file.ensures.on_success (t c.stage_file.new.host) c.stage_piece.ensures.frame

pub returns-clause-on_success : goal.returns-clause-on_success
returns-clause-on_success g c =
    let t = g.met.H.Host.is_tree in
    on_ok_weaker c.stage_piece.result (λ grows. ends_on (ends_both (ends_both grows (ends_frame (t c.stage_file.new.host) c.stage_piece.ensures.frame)) c.stage_piece.ensures.unsynced) c.in_ok-stage_file.ensures.on_success (t c.stage_file.new.host) (λ u v w tree was more. written was more.0.0 more.0.1 more.1)) c.stage_piece.ensures.on_success

pub returns-clause-fault_has_cause : goal.returns-clause-fault_has_cause
returns-clause-fault_has_cause g c =
    let t = g.met.H.Host.is_tree in
    fault_caused (CanStage c.args.tmp.now (objects.File c.args.mode c.args.bytes.now)) (CanGrow c.args.tmp.now) _ _ _ _ _ (t c.args.host.now) c.stage_file.ensures.fault_has_cause.later c.in_ok-stage_file.ensures.on_success c.stage_piece.ensures.fault_has_cause (λ e. e) (λ u v tree was can. can_grow was.there)

pub returns-clause-unsynced : goal.returns-clause-unsynced
returns-clause-unsynced g c =
    let t = g.met.H.Host.is_tree in
    ends_on c.stage_piece.ensures.unsynced c.stage_file.ensures.unsynced (t c.stage_file.new.host) (λ u v w tree one none. one_on one none)
