use Rattle.std.proofs.Common.{refl, sym, subst, arith}
use Rattle.fp_host.specs.Paths.{Elements}
use Rattle.fp_host.specs.Calls.{Can, unlinks}
use Rattle.fp_host.proofs.Cause.{clash_step}
use Rattle.fp_host.proofs.Framed.{frame_start, frame_unlink}
use Rattle.fp_host.proofs.Ending.{ends_start, ends_call, ends_to, call_caused}
use Rattle.fp_small.proofs.Emptying.{unlinked}
use Rattle.ost_store.specs.Place.{WasRemoved, HasObject}
use Rattle.ost_store.proofs.Gets.{can_remove}
use Rattle.fp_small.proofs.Unsynced.{none_same, step_none}
use Rattle.ost_store.proofs.placing.remove.Goals as goal

pub returns-in_err-unlink-clause-frame : goal.returns-in_err-unlink-clause-frame
returns-in_err-unlink-clause-frame g c =
    let t = g.met.H.Host.is_tree in
    frame_unlink c.unlink.ensures.step (frame_start (t c.args.host.now)) (t c.args.host.now) (c.in_ok-name.ensures, refl) (c.in_ok-name.ensures, refl)

pub returns-in_err-unlink-clause-fault_has_cause : goal.returns-in_err-unlink-clause-fault_has_cause
returns-in_err-unlink-clause-fault_has_cause g c =
    let t = g.met.H.Host.is_tree in
    let e = c.in_err-unlink.ensures in
    call_caused (HasObject c.args.root.now c.args.digest.now c.args.kind) (Can (unlinks c.in_ok-name.name)) _ _ _ _ _ (t c.args.host.now) (omega arith) (ends_start (t c.args.host.now)) e.step e.fault_has_cause c.from_residual-in_err-unlink.ensures.1 (λ v w step. clash_step step)
    (λ u v tree q can. subst (Can (unlinks c.in_ok-name.name)) (sym q) (can_remove c.args.root.now c.args.digest.now c.args.kind c.in_ok-name.ensures tree can))

pub returns-clause-frame : goal.returns-clause-frame
returns-clause-frame g c =
    let t = g.met.H.Host.is_tree in
    frame_unlink c.unlink.ensures.step (frame_start (t c.args.host.now)) (t c.args.host.now) (c.in_ok-name.ensures, refl) (c.in_ok-name.ensures, refl)

pub returns-clause-on_success : goal.returns-clause-on_success
returns-clause-on_success g c =
    let t = g.met.H.Host.is_tree in
    ends_to (ends_call (t c.args.host.now) c.in_ok-unlink.ensures.step) (λ u w s. subst (λ (q : Elements). WasRemoved q u w) c.in_ok-name.ensures (record { leaf = s.how.0; left = unlinked s }))

pub returns-in_err-name-clause-unsynced : goal.returns-in_err-name-clause-unsynced
returns-in_err-name-clause-unsynced g c =
    let t = g.met.H.Host.is_tree in
    ends_to (ends_start (t c.args.host.now)) (λ u w same. none_same same)

pub returns-in_err-unlink-clause-unsynced : goal.returns-in_err-unlink-clause-unsynced
returns-in_err-unlink-clause-unsynced g c =
    let t = g.met.H.Host.is_tree in
    ends_to (ends_call (t c.args.host.now) c.unlink.ensures.step) (λ u w step. step_none tt step)

pub returns-clause-unsynced : goal.returns-clause-unsynced
returns-clause-unsynced g c =
    let t = g.met.H.Host.is_tree in
    ends_to (ends_call (t c.args.host.now) c.unlink.ensures.step) (λ u w step. step_none tt step)
