use Rattle.std.proofs.Common.{◌≡◌, sym, subst, arith}
use Rattle.fp_host.specs.View.{View}
use Rattle.fp_host.specs.Calls.{Can, CanCreate, IsNoDir, appends}
use Rattle.fp_host.proofs.Cause.{clash_step, clash_create, same_fault}
use Rattle.fp_host.proofs.Ending.{ends_start, ends_call, ends_frame, ends_both, ends_on, call_caused, fault_caused}
use Rattle.fp_small.proofs.Staging.{can_append}
use Rattle.fp_small.proofs.Replacement.{free_no_dir}
use Rattle.dep_switch.specs.Writing.{CanWrite}
use Rattle.dep_switch.proofs.Writes.{taken, created, written_so_far, begun_end, appended, file_written, can_create}
use Rattle.dep_switch.proofs.preparing.write_new.Goals as goal

pub returns-in_err-take_away-clause-any_moment : goal.returns-in_err-take_away-clause-any_moment
returns-in_err-take_away-clause-any_moment g c = let t = g.met.H.Host.is_tree in written_so_far (t c.args.host.now) (taken (t c.args.host.now) c.take_away.ensures.frame)

pub returns-in_err-take_away-clause-fault_has_cause : goal.returns-in_err-take_away-clause-fault_has_cause
returns-in_err-take_away-clause-fault_has_cause g c =
    let t = g.met.H.Host.is_tree in
    let p = c.args.path.now in
    fault_caused (CanWrite p) (λ v. IsNoDir (v.names p)) _ _ _ _ _ (t c.args.host.now) (omega arith) (ends_start (t c.args.host.now)) c.take_away.ensures.fault_has_cause (same_fault _ _ _ c.in_err-take_away.was c.from_residual.ensures.1)
    (λ u v tree same can. subst (λ (x : View). IsNoDir (x.names p)) (sym same) (free_no_dir p u can.free))

pub returns-in_err-create-clause-any_moment : goal.returns-in_err-create-clause-any_moment
returns-in_err-create-clause-any_moment g c =
    let t = g.met.H.Host.is_tree in
    written_so_far (t c.args.host.now) (created (t c.take_away.new.host) (taken (t c.args.host.now) c.take_away.ensures.frame) c.create.ensures.step)

pub returns-in_err-create-clause-fault_has_cause : goal.returns-in_err-create-clause-fault_has_cause
returns-in_err-create-clause-fault_has_cause g c =
    let t = g.met.H.Host.is_tree in
    let p = c.args.path.now in
    let e = c.in_err-create.ensures in
    call_caused (CanWrite p) (CanCreate p 420) _ _ _ _ _ (t c.args.host.now) c.take_away.ensures.fault_has_cause.later (ends_both (ends_frame (t c.args.host.now) c.take_away.ensures.frame) c.in_ok-take_away.ensures.on_success) e.step e.fault_has_cause
    c.from_residual-in_err-create.ensures.1 (λ v w step. clash_create step) (λ u v tree q can. can_create q.0 q.1 can)

pub returns-in_err-append-clause-any_moment : goal.returns-in_err-append-clause-any_moment
returns-in_err-append-clause-any_moment g c =
    let t = g.met.H.Host.is_tree in
    let first = taken (t c.args.host.now) c.take_away.ensures.frame in
    appended (t c.args.host.now) (t c.create.new.self) (created (t c.take_away.new.host) first c.create.ensures.step) (begun_end (t c.args.host.now) (t c.take_away.new.host) first c.in_ok-create.ensures.step) c.append.ensures.step

pub returns-in_err-append-clause-fault_has_cause : goal.returns-in_err-append-clause-fault_has_cause
returns-in_err-append-clause-fault_has_cause g c =
    let t = g.met.H.Host.is_tree in
    let p = c.args.path.now in
    let e = c.in_err-append.ensures in
    let first = taken (t c.args.host.now) c.take_away.ensures.frame in
    call_caused (CanWrite p) (Can (appends p c.args.bytes.now)) _ _ _ _ _ (t c.args.host.now) (omega (arith, c.take_away.ensures.fault_has_cause.later, c.create.ensures.fault_has_cause.later)) (begun_end (t c.args.host.now) (t c.take_away.new.host) first c.in_ok-create.ensures.step) e.step e.fault_has_cause
    c.from_residual-in_err-append.ensures.1 (λ v w step. clash_step step) (λ u v tree q can. can_append q.written)

pub returns-clause-any_moment : goal.returns-clause-any_moment
returns-clause-any_moment g c =
    let t = g.met.H.Host.is_tree in
    let first = taken (t c.args.host.now) c.take_away.ensures.frame in
    appended (t c.args.host.now) (t c.create.new.self) (created (t c.take_away.new.host) first c.create.ensures.step) (begun_end (t c.args.host.now) (t c.take_away.new.host) first c.in_ok-create.ensures.step) c.append.ensures.step

pub returns-clause-on_success : goal.returns-clause-on_success
returns-clause-on_success g c =
    let t = g.met.H.Host.is_tree in
    let first = taken (t c.args.host.now) c.take_away.ensures.frame in
    ends_on (ends_call (t c.create.new.self) c.in_ok-append.ensures.step) (begun_end (t c.args.host.now) (t c.take_away.new.host) first c.in_ok-create.ensures.step) (t c.create.new.self) (λ u v w tree q s. file_written q s)
