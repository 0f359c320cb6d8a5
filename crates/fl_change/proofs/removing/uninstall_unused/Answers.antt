use Rattle.std.proofs.Common.{◌≡◌, ◌∙◌, List, refl, ap, subst}
use Rattle.fp_name.specs.Refs.{Ref}
use Rattle.fp_small.specs.declared.state.State.{State}
use Rattle.ost_walk.specs.Ends.{outside}
use Rattle.fl_installed.specs.Users.{installed_metas, installed_points}
use Rattle.fl_plan.specs.Unused.{unused_of}
use Rattle.fl_change.specs.Answer.{each_over}
use Rattle.fl_change.specs.Ends.{end_of_host}
use Rattle.fl_change.specs.Performs.{Acts, Rests}
use Rattle.fl_change.specs.Refs.{unused_over, drop_over}
use Rattle.fl_change.specs.Turns.{IsUninstall}
use Rattle.fl_change.specs.declared.end.RunEnd.TheVariants.{NoMemory}
use Rattle.fl_change.proofs.Acting.{acts_err, acts_halted, acts_looked, acts_same}
use Rattle.fl_change.proofs.Looking.{TellsOf, unused_known}
use Rattle.fl_change.proofs.Targets.{host_looked, acts_not_looked, look_rose}
use Rattle.fl_change.proofs.Working.{Looked}
use Rattle.fl_change.proofs.removing.uninstall_unused.Goals as goal

pub returns-in_err-metas-clause-acts : goal.returns-in_err-metas-clause-acts
returns-in_err-metas-clause-acts g c =
    let one : Looked IsUninstall (outside (g.H.Host.moments c.args.host.now) (g.H.Host.faults c.args.host.now) (g.R.Remotes.holds c.args.remotes.now) (g.R.Remotes.faults c.args.remotes.now)) (outside (g.H.Host.moments c.metas.new.host) (g.H.Host.faults c.metas.new.host) (g.R.Remotes.holds c.args.remotes.now) (g.R.Remotes.faults c.args.remotes.now)) = host_looked c.metas.ensures.unchanged refl c.metas.ensures.fault_has_cause.later refl in
    acts_err c.from_residual.result (end_of_host c.in_err-metas.field-0.0) c.from_residual.ensures.1
    (acts_not_looked unused_over c.in_err-metas.field-0.0 (g.met.H.Host.is_tree c.metas.new.host) one (look_rose c.metas.result c.in_err-metas.field-0.0 (g.H.Host.faults c.args.host.now) (g.H.Host.faults c.metas.new.host) c.in_err-metas.was c.metas.ensures.fault_has_cause))

pub returns-in_err-points-clause-acts : goal.returns-in_err-points-clause-acts
returns-in_err-points-clause-acts g c =
    let one : Looked IsUninstall (outside (g.H.Host.moments c.args.host.now) (g.H.Host.faults c.args.host.now) (g.R.Remotes.holds c.args.remotes.now) (g.R.Remotes.faults c.args.remotes.now)) (outside (g.H.Host.moments c.metas.new.host) (g.H.Host.faults c.metas.new.host) (g.R.Remotes.holds c.args.remotes.now) (g.R.Remotes.faults c.args.remotes.now)) = host_looked c.metas.ensures.unchanged refl c.metas.ensures.fault_has_cause.later refl in
    let two : Looked IsUninstall (outside (g.H.Host.moments c.metas.new.host) (g.H.Host.faults c.metas.new.host) (g.R.Remotes.holds c.args.remotes.now) (g.R.Remotes.faults c.args.remotes.now)) (outside (g.H.Host.moments c.points.new.host) (g.H.Host.faults c.points.new.host) (g.R.Remotes.holds c.args.remotes.now) (g.R.Remotes.faults c.args.remotes.now)) = host_looked c.points.ensures.unchanged refl c.points.ensures.fault_has_cause.later refl in
    acts_err c.from_residual-in_err-points.result (end_of_host c.in_err-points.field-0.0) c.from_residual-in_err-points.ensures.1
    (acts_looked unused_over (g.met.H.Host.is_tree c.metas.new.host) one
    (acts_not_looked unused_over c.in_err-points.field-0.0 (g.met.H.Host.is_tree c.points.new.host) two (look_rose c.points.result c.in_err-points.field-0.0 (g.H.Host.faults c.metas.new.host) (g.H.Host.faults c.points.new.host) c.in_err-points.was c.points.ensures.fault_has_cause)))

pub returns-in_err-names-clause-acts : goal.returns-in_err-names-clause-acts
returns-in_err-names-clause-acts g c =
    let one : Looked IsUninstall (outside (g.H.Host.moments c.args.host.now) (g.H.Host.faults c.args.host.now) (g.R.Remotes.holds c.args.remotes.now) (g.R.Remotes.faults c.args.remotes.now)) (outside (g.H.Host.moments c.metas.new.host) (g.H.Host.faults c.metas.new.host) (g.R.Remotes.holds c.args.remotes.now) (g.R.Remotes.faults c.args.remotes.now)) = host_looked c.metas.ensures.unchanged refl c.metas.ensures.fault_has_cause.later refl in
    let two : Looked IsUninstall (outside (g.H.Host.moments c.metas.new.host) (g.H.Host.faults c.metas.new.host) (g.R.Remotes.holds c.args.remotes.now) (g.R.Remotes.faults c.args.remotes.now)) (outside (g.H.Host.moments c.points.new.host) (g.H.Host.faults c.points.new.host) (g.R.Remotes.holds c.args.remotes.now) (g.R.Remotes.faults c.args.remotes.now)) = host_looked c.points.ensures.unchanged refl c.points.ensures.fault_has_cause.later refl in
    let t = g.met.H.Host.is_tree c.points.new.host in
    acts_err c.from_residual-in_err-names.result NoMemory c.from_residual-in_err-names.ensures.1
    (acts_looked unused_over (g.met.H.Host.is_tree c.metas.new.host) one (acts_looked unused_over t two (acts_halted unused_over t)))

pub returns-clause-acts : goal.returns-clause-acts
returns-clause-acts g c =
    let s = c.args.opened in
    let one : Looked IsUninstall (outside (g.H.Host.moments c.args.host.now) (g.H.Host.faults c.args.host.now) (g.R.Remotes.holds c.args.remotes.now) (g.R.Remotes.faults c.args.remotes.now)) (outside (g.H.Host.moments c.metas.new.host) (g.H.Host.faults c.metas.new.host) (g.R.Remotes.holds c.args.remotes.now) (g.R.Remotes.faults c.args.remotes.now)) = host_looked c.metas.ensures.unchanged refl c.metas.ensures.fault_has_cause.later refl in
    let two : Looked IsUninstall (outside (g.H.Host.moments c.metas.new.host) (g.H.Host.faults c.metas.new.host) (g.R.Remotes.holds c.args.remotes.now) (g.R.Remotes.faults c.args.remotes.now)) (outside (g.H.Host.moments c.points.new.host) (g.H.Host.faults c.points.new.host) (g.R.Remotes.holds c.args.remotes.now) (g.R.Remotes.faults c.args.remotes.now)) = host_looked c.points.ensures.unchanged refl c.points.ensures.fault_has_cause.later refl in
    let metas = c.in_ok-metas.metas in
    let points = c.in_ok-points.points in
    let names = c.in_ok-names.names in
    let of_metas : TellsOf (g.H.Host.moments c.args.host.now) metas (λ have. installed_metas have s.refs) = subst (λ (x : State). TellsOf (g.H.Host.moments c.args.host.now) metas (λ have. installed_metas have x.refs)) c.state.ensures c.in_ok-metas.ensures.tells in
    let of_points : TellsOf (g.H.Host.moments c.metas.new.host) points (λ have. installed_points have s.refs) = subst (λ (x : State). TellsOf (g.H.Host.moments c.metas.new.host) points (λ have. installed_points have x.refs)) c.state-2.ensures c.in_ok-points.ensures.tells in
    let are : names ≡ unused_of s metas points = c.in_ok-names.ensures ∙ ap (λ (x : State). unused_of x c.as_slice.result.now c.as_slice-2.result.now) c.state-3.ensures ∙ ap (λ (l : List _). unused_of s l c.as_slice-2.result.now) c.as_slice.ensures ∙ ap (λ (l : List _). unused_of s metas l) c.as_slice-2.ensures in
    acts_same unused_over (each_over drop_over names) (unused_known s metas points names (outside (g.H.Host.moments c.args.host.now) (g.H.Host.faults c.args.host.now) (g.R.Remotes.holds c.args.remotes.now) (g.R.Remotes.faults c.args.remotes.now)) (outside (g.H.Host.moments c.metas.new.host) (g.H.Host.faults c.metas.new.host) (g.R.Remotes.holds c.args.remotes.now) (g.R.Remotes.faults c.args.remotes.now)) c.metas.ensures.unchanged of_metas of_points are)
    (acts_looked (each_over drop_over names) (g.met.H.Host.is_tree c.metas.new.host) one
    (acts_looked (each_over drop_over names) (g.met.H.Host.is_tree c.points.new.host) two
    (subst (λ (l : List Ref). Acts (Rests s) IsUninstall (each_over drop_over l) s c.args.acted.now c.drop_each.new.acted c.drop_each.result (outside (g.H.Host.moments c.points.new.host) (g.H.Host.faults c.points.new.host) (g.R.Remotes.holds c.args.remotes.now) (g.R.Remotes.faults c.args.remotes.now)) (outside (g.H.Host.moments c.drop_each.new.host) (g.H.Host.faults c.drop_each.new.host) (g.R.Remotes.holds c.drop_each.new.remotes) (g.R.Remotes.faults c.drop_each.new.remotes))) c.as_slice-3.ensures c.drop_each.ensures.acts)))
