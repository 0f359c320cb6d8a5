use Rattle.std.proofs.Common.{refl}
use Rattle.fp_host.specs.Calls.{Can, appends}
use Rattle.fp_host.proofs.Cause.{clash_step}
use Rattle.fp_host.proofs.Framed.{frame_start, frame_create, frame_append, frame_sync}
use Rattle.fp_host.proofs.Ending.{ends_call, ends_on, ends_to, call_caused}
use Rattle.fp_small.specs.Stage.{CanStage}
use Rattle.fp_small.specs.Unsynced.{MakesOneFile}
use Rattle.fp_small.proofs.Unsynced.{one_on, step_none, create_one}
use Rattle.fp_small.proofs.Keeping.{one_unsynced, one_then_same, files_synced}
use Rattle.fp_small.proofs.Staging.{begun_create, begun_append, made_synced, written_create, written_append, staged_sync, can_append}
use Rattle.fp_small.proofs.replacing.stage.Goals as goal

pub returns-in_err-create-clause-frame : goal.returns-in_err-create-clause-frame
returns-in_err-create-clause-frame g c =
    let t = g.met.H.Host.is_tree in
    frame_create c.create.ensures.step (frame_start (t c.args.host.now)) (t c.args.host.now) (λ id bytes. refl) (λ id. refl)

pub returns-in_err-append-clause-frame : goal.returns-in_err-append-clause-frame
returns-in_err-append-clause-frame g c =
    let t = g.met.H.Host.is_tree in
    frame_append c.append.ensures.step (frame_create c.create.ensures.step (frame_start (t c.args.host.now)) (t c.args.host.now) (λ id bytes. refl) (λ id. refl)) (t c.create.new.self) refl

pub returns-in_err-append-clause-fault_has_cause : goal.returns-in_err-append-clause-fault_has_cause
returns-in_err-append-clause-fault_has_cause g c =
    let t = g.met.H.Host.is_tree in
    let e = c.in_err-append.ensures in
    let created = ends_to (ends_call (t c.args.host.now) c.in_ok-create.ensures.step) (λ u w s. written_create s) in
    call_caused (CanStage c.args.path.now) (Can (appends c.args.path.now c.args.bytes.now)) _ _ _ _ _ (t c.args.host.now) c.create.ensures.fault_has_cause.later created e.step e.fault_has_cause c.from_residual-in_err-append.ensures.1 (λ v w step. clash_step step)
    (λ u v t q can. can_append q)

pub returns-in_err-sync-clause-frame : goal.returns-in_err-sync-clause-frame
returns-in_err-sync-clause-frame g c =
    let t = g.met.H.Host.is_tree in
    frame_sync c.sync.ensures.step (frame_append c.append.ensures.step (frame_create c.create.ensures.step (frame_start (t c.args.host.now)) (t c.args.host.now) (λ id bytes. refl) (λ id. refl)) (t c.create.new.self) refl) (t c.append.new.self)

pub returns-clause-frame : goal.returns-clause-frame
returns-clause-frame g c =
    let t = g.met.H.Host.is_tree in
    frame_sync c.sync.ensures.step (frame_append c.append.ensures.step (frame_create c.create.ensures.step (frame_start (t c.args.host.now)) (t c.args.host.now) (λ id bytes. refl) (λ id. refl)) (t c.create.new.self) refl) (t c.append.new.self)

pub returns-clause-on_success : goal.returns-clause-on_success
returns-clause-on_success g c =
    let t = g.met.H.Host.is_tree in
    let created = ends_to (ends_call (t c.args.host.now) c.in_ok-create.ensures.step) (λ u w s. written_create s) in
    let written = ends_on (ends_call (t c.create.new.self) c.in_ok-append.ensures.step) created (t c.create.new.self) (λ u v w t q s. written_append q s) in
    ends_on (ends_call (t c.append.new.self) c.in_ok-sync.ensures.step) written (t c.append.new.self) (λ u v w t q s. staged_sync q s)

pub returns-clause-made : goal.returns-clause-made
returns-clause-made g c =
    let t = g.met.H.Host.is_tree in
    let created = ends_to (ends_call (t c.args.host.now) c.in_ok-create.ensures.step) (λ u w s. begun_create s) in
    let written = ends_on (ends_call (t c.create.new.self) c.in_ok-append.ensures.step) created (t c.create.new.self) (λ u v w t q s. begun_append q s) in
    ends_on (ends_call (t c.append.new.self) c.in_ok-sync.ensures.step) written (t c.append.new.self) (λ u v w t q s. made_synced q s)

pub returns-in_err-create-clause-one : goal.returns-in_err-create-clause-one
returns-in_err-create-clause-one g c = ends_to (ends_call (g.met.H.Host.is_tree c.args.host.now) c.create.ensures.step) (λ u w s. one_unsynced (create_one s))

pub returns-in_err-append-clause-one : goal.returns-in_err-append-clause-one
returns-in_err-append-clause-one g c =
    let t = g.met.H.Host.is_tree in
    ends_on (ends_call (t c.create.new.self) c.append.ensures.step) (ends_call (t c.args.host.now) c.create.ensures.step) (t c.create.new.self) (λ u v w t q s. one_unsynced (one_on (create_one q) (step_none tt s)))

pub returns-in_err-sync-clause-one : goal.returns-in_err-sync-clause-one
returns-in_err-sync-clause-one g c =
    let t = g.met.H.Host.is_tree in
    let written = ends_on {Q' = MakesOneFile} (ends_call (t c.create.new.self) c.append.ensures.step) (ends_call (t c.args.host.now) c.create.ensures.step) (t c.create.new.self) (λ u v w t q s. one_on (create_one q) (step_none tt s)) in
    ends_on (ends_call (t c.append.new.self) c.sync.ensures.step) written (t c.append.new.self) (λ u v w t q s. one_then_same (one_unsynced q) (files_synced s))

pub returns-clause-one : goal.returns-clause-one
returns-clause-one g c =
    let t = g.met.H.Host.is_tree in
    let written = ends_on {Q' = MakesOneFile} (ends_call (t c.create.new.self) c.append.ensures.step) (ends_call (t c.args.host.now) c.create.ensures.step) (t c.create.new.self) (λ u v w t q s. one_on (create_one q) (step_none tt s)) in
    ends_on (ends_call (t c.append.new.self) c.sync.ensures.step) written (t c.append.new.self) (λ u v w t q s. one_then_same (one_unsynced q) (files_synced s))
