use Rattle.std.proofs.Common.{[], IsErrOf, arith}
use Rattle.fp_host.specs.declared.host.HostEnd.TheVariants as host_ends
use Rattle.fp_host.proofs.Cause.{passed_on}
use Rattle.fp_host.proofs.Ending.{ends_start}
use Rattle.ost_model.specs.declared.object.Object.TheVariants as objects
use Rattle.ost_store.specs.Stage.{CanStage}
use Rattle.ost_walk.specs.declared.ends.WalkEnd.TheVariants as ends
use Rattle.ost_walk.proofs.Ended.{host_end}
use Rattle.ost_head.specs.Brings.{CanBring}
use Rattle.ost_head.specs.Copies.{IsNewFile}
use Rattle.ost_head.proofs.Brought.{always_comes, copy_comes, copied_anew, started_new, can_start}
use Rattle.ost_head.proofs.bringing.copy_anew.Goals as goal

pub returns-in_err-stage_file-clause-any_moment : goal.returns-in_err-stage_file-clause-any_moment
returns-in_err-stage_file-clause-any_moment g c = always_comes (g.met.H.Host.is_tree c.args.host.now) c.stage_file.ensures.any_moment

pub returns-in_err-stage_file-clause-fault_has_cause : goal.returns-in_err-stage_file-clause-fault_has_cause
returns-in_err-stage_file-clause-fault_has_cause g c =
    let t = g.met.H.Host.is_tree in
    passed_on (IsErrOf c.from_residual.result ends.HostFault) (IsErrOf c.stage_file.result host_ends.Fault) (CanBring c.args.to.now) (CanStage c.args.to.now (objects.File c.args.mode [])) _ _ _ (t c.args.host.now) (omega arith) (ends_start (t c.args.host.now))
    c.stage_file.ensures.fault_has_cause (host_end _ _ _ c.in_err-stage_file.was c.from_residual.ensures.1) (λ u v tree q can. can_start c.requires.limits q can)

pub returns-clause-any_moment : goal.returns-clause-any_moment
returns-clause-any_moment g c =
    let t = g.met.H.Host.is_tree in
    copy_comes (t c.args.host.now) (t c.stage_file.new.host) c.stage_file.ensures.any_moment c.in_ok-stage_file.ensures.on_success c.copy_file.ensures.frame

pub returns-clause-copies : goal.returns-clause-copies
returns-clause-copies g c =
    let t = g.met.H.Host.is_tree in
    copied_anew c.args.from.now c.args.url.now (g.R.Remotes.holds c.args.remotes.now) c.args.size c.copy_file.result (t c.args.host.now) (t c.stage_file.new.host) c.stage_file.ensures.any_moment c.in_ok-stage_file.ensures.on_success c.copy_file.ensures.frame c.copy_file.ensures.copies

pub returns-clause-fault_has_cause : goal.returns-clause-fault_has_cause
returns-clause-fault_has_cause g c =
    let t = g.met.H.Host.is_tree in
    passed_on (IsErrOf c.copy_file.result ends.HostFault) (IsErrOf c.copy_file.result ends.HostFault) (CanBring c.args.to.now) (IsNewFile c.args.to.now) _ _ _ (t c.args.host.now) c.stage_file.ensures.fault_has_cause.later c.in_ok-stage_file.ensures.on_success
    c.copy_file.ensures.fault_has_cause (λ is. is) (λ u v tree q can. started_new q)
