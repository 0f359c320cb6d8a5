use Rattle.std.proofs.Common.{◌≡◌, Bool, true, Result, sym, ◌∙◌, subst}
use Rattle.fp_small.specs.declared.state.State.{State}
use Rattle.ost_walk.specs.Ends.{outside}
use Rattle.fp_small.specs.declared.state.Layout.TheVariants.{Two}
use Rattle.fl_change.specs.Current.{are_as_offered}
use Rattle.fl_change.specs.declared.end.RunEnd.{RunEnd}
use Rattle.fl_change.proofs.Acting.{acts_err}
use Rattle.fl_change.proofs.Idling.{Peeks, idle_fails, idle_stays, idle_goes_on}
use Rattle.fl_change.proofs.change.change_all.Goals as goal

pub returns-in_err-is_idle-clause-acts : goal.returns-in_err-is_idle-clause-acts
returns-in_err-is_idle-clause-acts g c =
    let u = outside (g.H.Host.moments c.args.host.now) (g.H.Host.faults c.args.host.now) (g.R.Remotes.holds c.args.remotes.now) (g.R.Remotes.faults c.args.remotes.now) in
    let v = outside (g.H.Host.moments c.is_idle.new.host) (g.H.Host.faults c.is_idle.new.host) (g.R.Remotes.holds c.is_idle.new.remotes) (g.R.Remotes.faults c.is_idle.new.remotes) in
    let peeks : Peeks c.is_idle.result u v = record { still = c.is_idle.ensures.unchanged; same = c.is_idle.ensures.same; unrefused = c.is_idle.ensures.unrefused; host = c.is_idle.ensures.host; remote = c.is_idle.ensures.remote } in
    acts_err c.from_residual.result c.in_err-is_idle.field-0.0 c.from_residual.ensures.1
    (idle_fails c.args.changes.now c.args.opened (sym c.is_update_of_all.ensures ∙ c.if-not-is_update_of_all.false) c.in_err-is_idle.field-0.0 (g.met.H.Host.is_tree c.is_idle.new.host)
    (subst (λ (r : Result Bool RunEnd). Peeks r u v) c.in_err-is_idle.was peeks))

pub returns-then-branch-clause-acts : goal.returns-then-branch-clause-acts
returns-then-branch-clause-acts g c =
    let u = outside (g.H.Host.moments c.args.host.now) (g.H.Host.faults c.args.host.now) (g.R.Remotes.holds c.args.remotes.now) (g.R.Remotes.faults c.args.remotes.now) in
    let v = outside (g.H.Host.moments c.is_idle.new.host) (g.H.Host.faults c.is_idle.new.host) (g.R.Remotes.holds c.is_idle.new.remotes) (g.R.Remotes.faults c.is_idle.new.remotes) in
    let peeks : Peeks c.is_idle.result u v = record { still = c.is_idle.ensures.unchanged; same = c.is_idle.ensures.same; unrefused = c.is_idle.ensures.unrefused; host = c.is_idle.ensures.host; remote = c.is_idle.ensures.remote } in
    idle_stays c.args.changes.now c.args.opened (sym c.is_update_of_all.ensures ∙ c.if-not-is_update_of_all.false) c.requires.good.refs_ascend (g.met.H.Host.is_tree c.is_idle.new.host) peeks
    (λ held known. subst (λ (x : State). (x.layout ≡ Two) × (are_as_offered held x ≡ true)) c.state.ensures (c.in_ok-is_idle.ensures.idle held known c.if-branch.true))

pub returns-clause-acts : goal.returns-clause-acts
returns-clause-acts g c =
    let u = outside (g.H.Host.moments c.args.host.now) (g.H.Host.faults c.args.host.now) (g.R.Remotes.holds c.args.remotes.now) (g.R.Remotes.faults c.args.remotes.now) in
    let v = outside (g.H.Host.moments c.is_idle.new.host) (g.H.Host.faults c.is_idle.new.host) (g.R.Remotes.holds c.is_idle.new.remotes) (g.R.Remotes.faults c.is_idle.new.remotes) in
    let peeks : Peeks c.is_idle.result u v = record { still = c.is_idle.ensures.unchanged; same = c.is_idle.ensures.same; unrefused = c.is_idle.ensures.unrefused; host = c.is_idle.ensures.host; remote = c.is_idle.ensures.remote } in
    idle_goes_on c.args.changes.now c.args.opened (sym c.is_update_of_all.ensures ∙ c.if-not-is_update_of_all.false) (g.met.H.Host.is_tree c.is_idle.new.host) peeks c.tidy_and_change-2.ensures.acts
