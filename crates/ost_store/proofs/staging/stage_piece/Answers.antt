use Rattle.std.proofs.Common.{refl, sym, subst, arith}
use Rattle.fp_host.specs.Calls.{Can, appends}
use Rattle.fp_host.proofs.Cause.{clash_step}
use Rattle.fp_host.proofs.Framed.{frame_start, frame_append}
use Rattle.fp_host.proofs.Ending.{ends_start, ends_call, ends_to, call_caused}
use Rattle.ost_store.specs.Stage.{CanGrow}
use Rattle.ost_store.proofs.Staged.{grew}
use Rattle.fp_small.proofs.Unsynced.{step_none}
use Rattle.ost_store.proofs.staging.stage_piece.Goals as goal

pub returns-in_err-append-clause-frame : goal.returns-in_err-append-clause-frame
returns-in_err-append-clause-frame g c = let t = g.met.H.Host.is_tree in frame_append c.append.ensures.step (frame_start (t c.args.host.now)) (t c.args.host.now) refl

pub returns-in_err-append-clause-fault_has_cause : goal.returns-in_err-append-clause-fault_has_cause
returns-in_err-append-clause-fault_has_cause g c =
    let t = g.met.H.Host.is_tree in
    let e = c.in_err-append.ensures in
    call_caused (CanGrow c.args.tmp.now) (Can (appends c.args.tmp.now c.args.piece.now)) _ _ _ _ _ (t c.args.host.now) (omega arith) (ends_start (t c.args.host.now)) e.step e.fault_has_cause c.from_residual.ensures.1 (λ v w step. clash_step step)
    (λ u v tree q can. subst (CanGrow c.args.tmp.now) (sym q) can)

pub returns-clause-frame : goal.returns-clause-frame
returns-clause-frame g c = let t = g.met.H.Host.is_tree in frame_append c.append.ensures.step (frame_start (t c.args.host.now)) (t c.args.host.now) refl

pub returns-clause-on_success : goal.returns-clause-on_success
returns-clause-on_success g c = let t = g.met.H.Host.is_tree in ends_to (ends_call (t c.args.host.now) c.in_ok-append.ensures.step) (λ u w s. grew s)

pub returns-in_err-append-clause-unsynced : goal.returns-in_err-append-clause-unsynced
returns-in_err-append-clause-unsynced g c =
    let t = g.met.H.Host.is_tree in
    ends_to (ends_call (t c.args.host.now) c.append.ensures.step) (λ u w step. step_none tt step)

pub returns-clause-unsynced : goal.returns-clause-unsynced
returns-clause-unsynced g c =
    let t = g.met.H.Host.is_tree in
    ends_to (ends_call (t c.args.host.now) c.append.ensures.step) (λ u w step. step_none tt step)
