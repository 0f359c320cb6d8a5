use Rattle.std.proofs.Common.{◌≡◌, None, Ok, Err, refl, sym, subst}
use Rattle.fp_name.specs.Refs.{Ref}
use Rattle.fp_small.specs.declared.op.Op.TheVariants.{Rollback}
use Rattle.fp_small.specs.declared.state.State.{State}
use Rattle.dep_states.specs.After.{row_at, May}
use Rattle.ost_walk.specs.Ends.{outside}
use Rattle.fl_change.specs.Ends.{IsSaid, IsTried, end_of_host}
use Rattle.fl_change.specs.Refs.{previous_in, missing_refusal, rollback_over}
use Rattle.fl_change.specs.Turns.{IsRollback}
use Rattle.fl_change.specs.World.{world_at}
use Rattle.fl_change.specs.declared.end.RunEnd.TheVariants.{NoMemory}
use Rattle.fl_change.proofs.Acting.{acts_err, acts_halted, acts_looked}
use Rattle.fl_change.proofs.Asking.{acts_said}
use Rattle.fl_change.proofs.Commands.{rollback_no_previous, has_previous}
use Rattle.fl_change.proofs.Looking.{not_described, runtime_missing, runtime_there}
use Rattle.fl_change.proofs.Targets.{host_looked, acts_not_looked, look_rose}
use Rattle.fl_change.proofs.Working.{Looked}
use Rattle.fl_change.proofs.going_back.roll_back.Goals as goal

pub returns-in_err-commit-clause-acts : goal.returns-in_err-commit-clause-acts
returns-in_err-commit-clause-acts g c =
    let n = c.args.name.now in
    acts_err c.from_residual.result c.in_err-commit.field-0.0 c.from_residual.ensures.1
    (acts_said (rollback_over n) (g.met.H.Host.is_tree c.args.host.now) (previous_in n (row_at c.args.opened n)) c.in_err-commit.field-0.0 (subst (λ (s : State). IsSaid (previous_in n (row_at s n)) (Err c.in_err-commit.field-0.0)) c.state.ensures c.in_err-commit.ensures) (λ q is x first held known rests. rollback_no_previous held (world_at c.args.opened x) n q is))

pub returns-in_err-meta-clause-acts : goal.returns-in_err-meta-clause-acts
returns-in_err-meta-clause-acts g c =
    let n = c.args.name.now in
    let looked : Looked (IsRollback n) (outside (g.H.Host.moments c.args.host.now) (g.H.Host.faults c.args.host.now) (g.R.Remotes.holds c.args.remotes.now) (g.R.Remotes.faults c.args.remotes.now)) (outside (g.H.Host.moments c.described.new.host) (g.H.Host.faults c.described.new.host) (g.R.Remotes.holds c.args.remotes.now) (g.R.Remotes.faults c.args.remotes.now)) = host_looked c.described.ensures.unchanged refl c.described.ensures.fault_has_cause.later refl in
    let t = g.met.H.Host.is_tree c.described.new.host in
    acts_err c.from_residual-in_err-meta.result (end_of_host c.in_err-meta.field-0.0) c.from_residual-in_err-meta.ensures.1
    (acts_not_looked (rollback_over n) c.in_err-meta.field-0.0 t looked (look_rose c.described.result c.in_err-meta.field-0.0 (g.H.Host.faults c.args.host.now) (g.H.Host.faults c.described.new.host) c.in_err-meta.was c.described.ensures.fault_has_cause))

pub returns-in_err-try_runtime-in-Ok-clause-acts : goal.returns-in_err-try_runtime-in-Ok-clause-acts
returns-in_err-try_runtime-in-Ok-clause-acts g c =
    let n = c.args.name.now in
    let looked : Looked (IsRollback n) (outside (g.H.Host.moments c.args.host.now) (g.H.Host.faults c.args.host.now) (g.R.Remotes.holds c.args.remotes.now) (g.R.Remotes.faults c.args.remotes.now)) (outside (g.H.Host.moments c.described.new.host) (g.H.Host.faults c.described.new.host) (g.R.Remotes.holds c.args.remotes.now) (g.R.Remotes.faults c.args.remotes.now)) = host_looked c.described.ensures.unchanged refl c.described.ensures.fault_has_cause.later refl in
    let t = g.met.H.Host.is_tree c.described.new.host in
    let was = subst (λ (s : State). previous_in n (row_at s n) ≡ Ok c.in_ok-commit.commit) c.state.ensures c.in_ok-commit.ensures in
    acts_err c.from_residual-in_err-try_runtime-in-Ok.result c.in_err-try_runtime-in-Ok.field-0.0 c.from_residual-in_err-try_runtime-in-Ok.ensures.1
    (runtime_missing c.args.opened n c.in_ok-commit.commit c.in-Ok.meta c.in_ok-meta.field-0 c.in_err-try_runtime-in-Ok.field-0.0 t looked was c.in_ok-meta.ensures.tells c.in-Ok.is (subst (λ (s : State). IsTried (missing_refusal s c.in-Ok.meta.runtime) (Err c.in_err-try_runtime-in-Ok.field-0.0)) c.state-in-Ok.ensures c.in_err-try_runtime-in-Ok.ensures))

pub returns-in_err-copy-in-Ok-clause-acts : goal.returns-in_err-copy-in-Ok-clause-acts
returns-in_err-copy-in-Ok-clause-acts g c =
    let n = c.args.name.now in
    let looked : Looked (IsRollback n) (outside (g.H.Host.moments c.args.host.now) (g.H.Host.faults c.args.host.now) (g.R.Remotes.holds c.args.remotes.now) (g.R.Remotes.faults c.args.remotes.now)) (outside (g.H.Host.moments c.described.new.host) (g.H.Host.faults c.described.new.host) (g.R.Remotes.holds c.args.remotes.now) (g.R.Remotes.faults c.args.remotes.now)) = host_looked c.described.ensures.unchanged refl c.described.ensures.fault_has_cause.later refl in
    let t = g.met.H.Host.is_tree c.described.new.host in
    acts_err c.from_residual-in_err-copy-in-Ok.result NoMemory c.from_residual-in_err-copy-in-Ok.ensures.1 (acts_looked (rollback_over n) t looked (acts_halted (rollback_over n) t))

pub do_op-requires-clause-may : goal.do_op-requires-clause-may
do_op-requires-clause-may g c _ _ =
    let n = c.args.name.now in
    let was = subst (λ (s : State). previous_in n (row_at s n) ≡ Ok c.in_ok-commit.commit) c.state.ensures c.in_ok-commit.ensures in
    subst (λ (x : Ref). May c.args.opened (Rollback x c.in_ok-commit.commit)) (sym c.in_ok-copy-in-Ok.ensures) (record { layout = c.requires.layout; allows = has_previous n (row_at c.args.opened n) c.in_ok-commit.commit was })

pub returns-in_ok-copy-in-Ok-clause-acts : goal.returns-in_ok-copy-in-Ok-clause-acts
returns-in_ok-copy-in-Ok-clause-acts g c =
    let n = c.args.name.now in
    let looked : Looked (IsRollback n) (outside (g.H.Host.moments c.args.host.now) (g.H.Host.faults c.args.host.now) (g.R.Remotes.holds c.args.remotes.now) (g.R.Remotes.faults c.args.remotes.now)) (outside (g.H.Host.moments c.described.new.host) (g.H.Host.faults c.described.new.host) (g.R.Remotes.holds c.args.remotes.now) (g.R.Remotes.faults c.args.remotes.now)) = host_looked c.described.ensures.unchanged refl c.described.ensures.fault_has_cause.later refl in
    let t = g.met.H.Host.is_tree c.described.new.host in
    let was = subst (λ (s : State). previous_in n (row_at s n) ≡ Ok c.in_ok-commit.commit) c.state.ensures c.in_ok-commit.ensures in
    runtime_there c.args.opened n c.in_ok-commit.commit _ c.in-Ok.meta c.in_ok-meta.field-0 c.do_op.result t looked was c.in_ok-meta.ensures.tells c.in-Ok.is (subst (λ (s : State). missing_refusal s c.in-Ok.meta.runtime ≡ None) c.state-in-Ok.ensures c.in_ok-try_runtime-in-Ok.ensures) c.in_ok-copy-in-Ok.ensures c.do_op.ensures.acts

pub returns-in-Err-clause-acts : goal.returns-in-Err-clause-acts
returns-in-Err-clause-acts g c =
    let n = c.args.name.now in
    let looked : Looked (IsRollback n) (outside (g.H.Host.moments c.args.host.now) (g.H.Host.faults c.args.host.now) (g.R.Remotes.holds c.args.remotes.now) (g.R.Remotes.faults c.args.remotes.now)) (outside (g.H.Host.moments c.described.new.host) (g.H.Host.faults c.described.new.host) (g.R.Remotes.holds c.args.remotes.now) (g.R.Remotes.faults c.args.remotes.now)) = host_looked c.described.ensures.unchanged refl c.described.ensures.fault_has_cause.later refl in
    let t = g.met.H.Host.is_tree c.described.new.host in
    let was = subst (λ (s : State). previous_in n (row_at s n) ≡ Ok c.in_ok-commit.commit) c.state.ensures c.in_ok-commit.ensures in
    not_described c.args.opened n c.in_ok-commit.commit c.in-Err.refusal c.in_ok-meta.field-0 t looked was c.in_ok-meta.ensures.tells c.in-Err.is
