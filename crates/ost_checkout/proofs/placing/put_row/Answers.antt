use Rattle.std.proofs.Common.{◌≡◌, sym, subst, IsErrOf, arith}
use Rattle.std.proofs.lemmas.Result.{on_ok_weaker}
use Rattle.fp_host.specs.Calls.{Can, makes_dir}
use Rattle.fp_host.specs.declared.host.HostEnd.TheVariants.{Fault}
use Rattle.fp_host.proofs.Cause.{clash_step, passed_on}
use Rattle.fp_host.proofs.Ending.{ends_start, ends_call, ends_to, call_caused}
use Rattle.fp_small.proofs.Unsynced.{step_none}
use Rattle.fp_base.specs.declared.object.ObjKind.TheVariants as kinds
use Rattle.ost_model.specs.Objects.{object_path}
use Rattle.ost_checkout.specs.Placing.{CanPut, CanCopyObject}
use Rattle.ost_checkout.proofs.Put.{putting_dir, putting_file, was_made, was_copied, can_copy}
use Rattle.ost_checkout.proofs.placing.put_row.Goals as goal

pub returns-in_err-make_dir-in-Dir-clause-any_moment : goal.returns-in_err-make_dir-in-Dir-clause-any_moment
returns-in_err-make_dir-in-Dir-clause-any_moment g c = putting_dir _ _ c.in-Dir.is (g.met.H.Host.is_tree c.args.host.now) c.make_dir.ensures.step

pub returns-in_err-make_dir-in-Dir-clause-unsynced : goal.returns-in_err-make_dir-in-Dir-clause-unsynced
returns-in_err-make_dir-in-Dir-clause-unsynced g c = ends_to (ends_call (g.met.H.Host.is_tree c.args.host.now) c.make_dir.ensures.step) (λ u w step. step_none tt step)

pub returns-in_err-make_dir-in-Dir-clause-fault_has_cause : goal.returns-in_err-make_dir-in-Dir-clause-fault_has_cause
returns-in_err-make_dir-in-Dir-clause-fault_has_cause g c =
    let t = g.met.H.Host.is_tree in
    let path = c.args.row.now.path in
    let e = c.in_err-make_dir-in-Dir.ensures in
    call_caused {Q = λ u w. w ≡ u} (CanPut c.args.root.now c.args.row.now) (Can (makes_dir path)) _ _ _ _ _ (t c.args.host.now) (omega arith) (ends_start (t c.args.host.now)) e.step e.fault_has_cause c.from_residual.ensures.1
    (λ v w step. clash_step step) (λ u v tree same can. subst (Can (makes_dir path)) (sym same) (can.above, can.free))

pub returns-in_ok-make_dir-in-Dir-clause-any_moment : goal.returns-in_ok-make_dir-in-Dir-clause-any_moment
returns-in_ok-make_dir-in-Dir-clause-any_moment g c = putting_dir _ _ c.in-Dir.is (g.met.H.Host.is_tree c.args.host.now) c.make_dir.ensures.step

pub returns-in_ok-make_dir-in-Dir-clause-on_success : goal.returns-in_ok-make_dir-in-Dir-clause-on_success
returns-in_ok-make_dir-in-Dir-clause-on_success g c = ends_to (ends_call (g.met.H.Host.is_tree c.args.host.now) c.in_ok-make_dir-in-Dir.ensures.step) (λ u w step. was_made _ _ c.in-Dir.is step)

pub returns-in_ok-make_dir-in-Dir-clause-unsynced : goal.returns-in_ok-make_dir-in-Dir-clause-unsynced
returns-in_ok-make_dir-in-Dir-clause-unsynced g c = ends_to (ends_call (g.met.H.Host.is_tree c.args.host.now) c.make_dir.ensures.step) (λ u w step. step_none tt step)

pub returns-in-File-clause-any_moment : goal.returns-in-File-clause-any_moment
returns-in-File-clause-any_moment g c = putting_file _ c.in-File.is (g.met.H.Host.is_tree c.args.host.now) c.put_object.ensures.any_moment

pub returns-in-File-clause-on_success : goal.returns-in-File-clause-on_success
returns-in-File-clause-on_success g c = on_ok_weaker c.put_object.result (λ e. ends_to e (λ u w s. was_copied _ c.in-File.is s)) c.put_object.ensures.on_success

pub returns-in-File-clause-fault_has_cause : goal.returns-in-File-clause-fault_has_cause
returns-in-File-clause-fault_has_cause g c =
    let t = g.met.H.Host.is_tree in
    let faulted = IsErrOf c.put_object.result Fault in
    passed_on {Q = λ u w. w ≡ u} faulted faulted (CanPut c.args.root.now c.args.row.now) (CanCopyObject (object_path c.args.root.now c.in-File.digest kinds.File) c.args.row.now.path) _ _ _ (t c.args.host.now) (omega arith) (ends_start (t c.args.host.now))
    c.put_object.ensures.fault_has_cause (λ is. is) (λ u v tree same can. subst (CanCopyObject (object_path c.args.root.now c.in-File.digest kinds.File) c.args.row.now.path) (sym same) (can_copy _ c.in-File.is tree can))
