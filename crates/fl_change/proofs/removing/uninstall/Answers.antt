use Rattle.std.proofs.Common.{◌≡◌, Ok, Err, option_map, refl, subst}
use Rattle.fp_small.specs.declared.op.Op.TheVariants as ops
use Rattle.fp_small.specs.declared.state.State.{State}
use Rattle.fp_small.specs.declared.refusal.Refusal.TheVariants.{NotInstalled}
use Rattle.dep_states.specs.After.{row_at}
use Rattle.ost_walk.specs.Ends.{outside}
use Rattle.fl_installed.specs.Users.{first_user}
use Rattle.fl_change.specs.Ends.{IsSaid, or_refuse, end_of_host}
use Rattle.fl_change.specs.Performs.{Just}
use Rattle.fl_change.specs.Refs.{uninstall_over}
use Rattle.fl_change.specs.World.{world_at}
use Rattle.fl_change.specs.declared.end.RunEnd.TheVariants.{NoMemory}
use Rattle.fl_change.proofs.Acting.{acts_err, acts_halted, acts_looked}
use Rattle.fl_change.proofs.Asking.{acts_said}
use Rattle.fl_change.proofs.Commands.{uninstall_not_there}
use Rattle.fl_change.proofs.Looking.{TellsOf, used_by, used_by_none}
use Rattle.fl_change.proofs.Targets.{host_looked, acts_not_looked, look_rose}
use Rattle.fl_change.proofs.Working.{Looked}
use Rattle.fl_change.proofs.removing.uninstall.Goals as goal

pub returns-in_err-origin_of-clause-acts : goal.returns-in_err-origin_of-clause-acts
returns-in_err-origin_of-clause-acts g c =
    let n = c.args.name.now in
    acts_err c.from_residual.result c.in_err-origin_of.field-0.0 c.from_residual.ensures.1
    (acts_said (uninstall_over n) (g.met.H.Host.is_tree c.args.host.now) (or_refuse (NotInstalled n) (option_map (λ row. row.origin) (row_at c.args.opened n))) c.in_err-origin_of.field-0.0 (subst (λ (s : State). IsSaid (or_refuse (NotInstalled n) (option_map (λ row. row.origin) (row_at s n))) (Err c.in_err-origin_of.field-0.0)) c.state.ensures c.in_err-origin_of.ensures) (λ q is x first held known rests. uninstall_not_there held (world_at c.args.opened x) n q is))

pub returns-in_err-app-clause-acts : goal.returns-in_err-app-clause-acts
returns-in_err-app-clause-acts g c =
    let n = c.args.name.now in
    let looked : Looked (Just (ops.Uninstall n)) (outside (g.H.Host.moments c.args.host.now) (g.H.Host.faults c.args.host.now) (g.R.Remotes.holds c.args.remotes.now) (g.R.Remotes.faults c.args.remotes.now)) (outside (g.H.Host.moments c.first_user.new.host) (g.H.Host.faults c.first_user.new.host) (g.R.Remotes.holds c.args.remotes.now) (g.R.Remotes.faults c.args.remotes.now)) = host_looked c.first_user.ensures.unchanged refl c.first_user.ensures.fault_has_cause.later refl in
    acts_err c.from_residual-in_err-app.result (end_of_host c.in_err-app.field-0.0) c.from_residual-in_err-app.ensures.1
    (acts_not_looked (uninstall_over n) c.in_err-app.field-0.0 (g.met.H.Host.is_tree c.first_user.new.host) looked (look_rose c.first_user.result c.in_err-app.field-0.0 (g.H.Host.faults c.args.host.now) (g.H.Host.faults c.first_user.new.host) c.in_err-app.was c.first_user.ensures.fault_has_cause))

pub returns-in_err-copy-in-Some-clause-acts : goal.returns-in_err-copy-in-Some-clause-acts
returns-in_err-copy-in-Some-clause-acts g c =
    let n = c.args.name.now in
    let looked : Looked (Just (ops.Uninstall n)) (outside (g.H.Host.moments c.args.host.now) (g.H.Host.faults c.args.host.now) (g.R.Remotes.holds c.args.remotes.now) (g.R.Remotes.faults c.args.remotes.now)) (outside (g.H.Host.moments c.first_user.new.host) (g.H.Host.faults c.first_user.new.host) (g.R.Remotes.holds c.args.remotes.now) (g.R.Remotes.faults c.args.remotes.now)) = host_looked c.first_user.ensures.unchanged refl c.first_user.ensures.fault_has_cause.later refl in
    let t = g.met.H.Host.is_tree c.first_user.new.host in
    acts_err c.from_residual-in_err-copy-in-Some.result NoMemory c.from_residual-in_err-copy-in-Some.ensures.1 (acts_looked (uninstall_over n) t looked (acts_halted (uninstall_over n) t))

pub returns-in_ok-copy-in-Some-clause-acts : goal.returns-in_ok-copy-in-Some-clause-acts
returns-in_ok-copy-in-Some-clause-acts g c =
    let n = c.args.name.now in
    let looked : Looked (Just (ops.Uninstall n)) (outside (g.H.Host.moments c.args.host.now) (g.H.Host.faults c.args.host.now) (g.R.Remotes.holds c.args.remotes.now) (g.R.Remotes.faults c.args.remotes.now)) (outside (g.H.Host.moments c.first_user.new.host) (g.H.Host.faults c.first_user.new.host) (g.R.Remotes.holds c.args.remotes.now) (g.R.Remotes.faults c.args.remotes.now)) = host_looked c.first_user.ensures.unchanged refl c.first_user.ensures.fault_has_cause.later refl in
    let deployed = subst (λ (s : State). (or_refuse (NotInstalled n) (option_map (λ row. row.origin) (row_at s n))) ≡ Ok c.in_ok-origin_of.field-0) c.state.ensures c.in_ok-origin_of.ensures in
    let tells : TellsOf (g.H.Host.moments c.args.host.now) c.in_ok-app.field-0 (λ have. first_user have n c.args.opened.refs) = subst (λ (s : State). TellsOf (g.H.Host.moments c.args.host.now) c.in_ok-app.field-0 (λ have. first_user have n s.refs)) c.state-2.ensures c.in_ok-app.ensures.tells in
    used_by c.args.opened n c.in_ok-origin_of.field-0 c.in-Some.app _ c.in_ok-app.field-0 (g.met.H.Host.is_tree c.first_user.new.host) looked deployed tells c.in-Some.is c.in_ok-copy-in-Some.ensures

pub returns-in-None-clause-acts : goal.returns-in-None-clause-acts
returns-in-None-clause-acts g c =
    let n = c.args.name.now in
    let looked : Looked (Just (ops.Uninstall n)) (outside (g.H.Host.moments c.args.host.now) (g.H.Host.faults c.args.host.now) (g.R.Remotes.holds c.args.remotes.now) (g.R.Remotes.faults c.args.remotes.now)) (outside (g.H.Host.moments c.first_user.new.host) (g.H.Host.faults c.first_user.new.host) (g.R.Remotes.holds c.args.remotes.now) (g.R.Remotes.faults c.args.remotes.now)) = host_looked c.first_user.ensures.unchanged refl c.first_user.ensures.fault_has_cause.later refl in
    let deployed = subst (λ (s : State). (or_refuse (NotInstalled n) (option_map (λ row. row.origin) (row_at s n))) ≡ Ok c.in_ok-origin_of.field-0) c.state.ensures c.in_ok-origin_of.ensures in
    let tells : TellsOf (g.H.Host.moments c.args.host.now) c.in_ok-app.field-0 (λ have. first_user have n c.args.opened.refs) = subst (λ (s : State). TellsOf (g.H.Host.moments c.args.host.now) c.in_ok-app.field-0 (λ have. first_user have n s.refs)) c.state-2.ensures c.in_ok-app.ensures.tells in
    used_by_none c.args.opened n c.in_ok-origin_of.field-0 c.in_ok-app.field-0 c.take_away.result (g.met.H.Host.is_tree c.first_user.new.host) looked deployed tells c.in-None.is c.take_away.ensures.acts
