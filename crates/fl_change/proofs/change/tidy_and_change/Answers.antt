use Rattle.std.proofs.Common.{◌≡◌, inl, inr, refl, subst, Result, Ok, Err, IfOk}
use Rattle.fp_host.specs.declared.host.HostEnd.{HostEnd}
use Rattle.fp_small.specs.declared.state.State.{State}
use Rattle.ost_walk.specs.Ends.{outside}
use Rattle.dep_tidy.specs.Tidy.{WasTidied}
use Rattle.fl_change.specs.Ends.{end_of_host}
use Rattle.fl_change.specs.Performs.{Acts, Rests}
use Rattle.fl_change.specs.Turns.{changing, migrating, in_turn, MayDo}
use Rattle.fl_change.proofs.Acting.{acts_err, acts_first, acts_second}
use Rattle.fl_change.proofs.Composing.{Tidying}
use Rattle.fl_change.proofs.Tidying.{tidying_of, acts_untidied_first, acts_tidied_first, settles_err, settles_untidied, settles_tidied}
use Rattle.fl_change.proofs.Working.{works_to}
use Rattle.fl_change.proofs.change.tidy_and_change.Goals as goal

pub returns-in_err-tidied-clause-acts : goal.returns-in_err-tidied-clause-acts
returns-in_err-tidied-clause-acts g c =
    let s = c.args.opened in
    let u = outside (g.H.Host.moments c.args.host.now) (g.H.Host.faults c.args.host.now) (g.R.Remotes.holds c.args.remotes.now) (g.R.Remotes.faults c.args.remotes.now) in
    let v = outside (g.H.Host.moments c.tidy.new.host) (g.H.Host.faults c.tidy.new.host) (g.R.Remotes.holds c.args.remotes.now) (g.R.Remotes.faults c.args.remotes.now) in
    let t = g.met.H.Host.is_tree in
    let tidying : Tidying (WasTidied s) s c.tidy.result u v = tidying_of s c.tidy.result c.tidy.ensures.any_moment c.tidy.ensures.on_success (λ x is. subst (λ (r : Result State HostEnd). IfOk r (λ o. o ≡ s)) is c.tidy.ensures.state) c.tidy.ensures.fault_has_cause refl refl in
    acts_err c.from_residual.result (end_of_host c.in_err-tidied.field-0.0) c.from_residual.ensures.1
    (acts_untidied_first (changing c.args.changes.now) s c.in_err-tidied.field-0.0 (subst (λ (r : Result State HostEnd). Tidying (WasTidied s) s r u v) c.in_err-tidied.was tidying))

pub returns-in_err-tidied-clause-settles : goal.returns-in_err-tidied-clause-settles
returns-in_err-tidied-clause-settles g c =
    let s = c.args.opened in
    let u = outside (g.H.Host.moments c.args.host.now) (g.H.Host.faults c.args.host.now) (g.R.Remotes.holds c.args.remotes.now) (g.R.Remotes.faults c.args.remotes.now) in
    let v = outside (g.H.Host.moments c.tidy.new.host) (g.H.Host.faults c.tidy.new.host) (g.R.Remotes.holds c.args.remotes.now) (g.R.Remotes.faults c.args.remotes.now) in
    let t = g.met.H.Host.is_tree in
    let tidying : Tidying (WasTidied s) s c.tidy.result u v = tidying_of s c.tidy.result c.tidy.ensures.any_moment c.tidy.ensures.on_success (λ x is. subst (λ (r : Result State HostEnd). IfOk r (λ o. o ≡ s)) is c.tidy.ensures.state) c.tidy.ensures.fault_has_cause refl refl in
    settles_err (g.R.Remotes.holds c.args.remotes.now) s c.from_residual.result (end_of_host c.in_err-tidied.field-0.0) c.from_residual.ensures.1
    (settles_untidied (g.R.Remotes.holds c.args.remotes.now) s c.in_err-tidied.field-0.0 (subst (λ (r : Result State HostEnd). Tidying (WasTidied s) s r u v) c.in_err-tidied.was tidying))

pub returns-in_err-current-clause-acts : goal.returns-in_err-current-clause-acts
returns-in_err-current-clause-acts g c =
    let s = c.args.opened in
    let u = outside (g.H.Host.moments c.args.host.now) (g.H.Host.faults c.args.host.now) (g.R.Remotes.holds c.args.remotes.now) (g.R.Remotes.faults c.args.remotes.now) in
    let v = outside (g.H.Host.moments c.tidy.new.host) (g.H.Host.faults c.tidy.new.host) (g.R.Remotes.holds c.args.remotes.now) (g.R.Remotes.faults c.args.remotes.now) in
    let t = g.met.H.Host.is_tree in
    let tidying : Tidying (WasTidied s) s c.tidy.result u v = tidying_of s c.tidy.result c.tidy.ensures.any_moment c.tidy.ensures.on_success (λ x is. subst (λ (r : Result State HostEnd). IfOk r (λ o. o ≡ s)) is c.tidy.ensures.state) c.tidy.ensures.fault_has_cause refl refl in
    let w = outside (g.H.Host.moments c.migrate.new.host) (g.H.Host.faults c.migrate.new.host) (g.R.Remotes.holds c.migrate.new.remotes) (g.R.Remotes.faults c.migrate.new.remotes) in
    let migrated : Acts (Rests s) (MayDo c.args.changes.now) migrating s c.args.acted.now c.migrate.new.acted (Err c.in_err-current.field-0.0) v w = works_to (λ op is. inl is) (subst (λ (x : State). Acts (Rests x) _ migrating x c.args.acted.now c.migrate.new.acted (Err c.in_err-current.field-0.0) v w) c.in_ok-tidied.ensures.state c.in_err-current.ensures.acts) in
    acts_err c.from_residual-in_err-current.result c.in_err-current.field-0.0 c.from_residual-in_err-current.ensures.1
    (acts_tidied_first (changing c.args.changes.now) s c.in_ok-tidied.tidied (Err c.in_err-current.field-0.0) (t c.tidy.new.host) (subst (λ (r : Result State HostEnd). Tidying (WasTidied s) s r u v) c.in_ok-tidied.was tidying)
    (acts_first migrating (in_turn c.args.changes.now) c.in_err-current.field-0.0 migrated))

pub returns-in_err-current-clause-settles : goal.returns-in_err-current-clause-settles
returns-in_err-current-clause-settles g c =
    let s = c.args.opened in
    let u = outside (g.H.Host.moments c.args.host.now) (g.H.Host.faults c.args.host.now) (g.R.Remotes.holds c.args.remotes.now) (g.R.Remotes.faults c.args.remotes.now) in
    let v = outside (g.H.Host.moments c.tidy.new.host) (g.H.Host.faults c.tidy.new.host) (g.R.Remotes.holds c.args.remotes.now) (g.R.Remotes.faults c.args.remotes.now) in
    let t = g.met.H.Host.is_tree in
    let tidying : Tidying (WasTidied s) s c.tidy.result u v = tidying_of s c.tidy.result c.tidy.ensures.any_moment c.tidy.ensures.on_success (λ x is. subst (λ (r : Result State HostEnd). IfOk r (λ o. o ≡ s)) is c.tidy.ensures.state) c.tidy.ensures.fault_has_cause refl refl in
    let w = outside (g.H.Host.moments c.migrate.new.host) (g.H.Host.faults c.migrate.new.host) (g.R.Remotes.holds c.migrate.new.remotes) (g.R.Remotes.faults c.migrate.new.remotes) in
    let migrated : Acts (Rests s) (MayDo c.args.changes.now) migrating s c.args.acted.now c.migrate.new.acted (Err c.in_err-current.field-0.0) v w = works_to (λ op is. inl is) (subst (λ (x : State). Acts (Rests x) _ migrating x c.args.acted.now c.migrate.new.acted (Err c.in_err-current.field-0.0) v w) c.in_ok-tidied.ensures.state c.in_err-current.ensures.acts) in
    settles_err (g.R.Remotes.holds c.args.remotes.now) s c.from_residual-in_err-current.result c.in_err-current.field-0.0 c.from_residual-in_err-current.ensures.1
    (settles_tidied (changing c.args.changes.now) s c.in_ok-tidied.tidied (Err c.in_err-current.field-0.0) (t c.tidy.new.host) (subst (λ (r : Result State HostEnd). Tidying (WasTidied s) s r u v) c.in_ok-tidied.was tidying)
    (acts_first migrating (in_turn c.args.changes.now) c.in_err-current.field-0.0 migrated))

pub returns-clause-acts : goal.returns-clause-acts
returns-clause-acts g c =
    let s = c.args.opened in
    let u = outside (g.H.Host.moments c.args.host.now) (g.H.Host.faults c.args.host.now) (g.R.Remotes.holds c.args.remotes.now) (g.R.Remotes.faults c.args.remotes.now) in
    let v = outside (g.H.Host.moments c.tidy.new.host) (g.H.Host.faults c.tidy.new.host) (g.R.Remotes.holds c.args.remotes.now) (g.R.Remotes.faults c.args.remotes.now) in
    let t = g.met.H.Host.is_tree in
    let tidying : Tidying (WasTidied s) s c.tidy.result u v = tidying_of s c.tidy.result c.tidy.ensures.any_moment c.tidy.ensures.on_success (λ x is. subst (λ (r : Result State HostEnd). IfOk r (λ o. o ≡ s)) is c.tidy.ensures.state) c.tidy.ensures.fault_has_cause refl refl in
    let w = outside (g.H.Host.moments c.migrate.new.host) (g.H.Host.faults c.migrate.new.host) (g.R.Remotes.holds c.migrate.new.remotes) (g.R.Remotes.faults c.migrate.new.remotes) in
    let migrated : Acts (Rests s) (MayDo c.args.changes.now) migrating s c.args.acted.now c.migrate.new.acted (Ok c.in_ok-current.current) v w = works_to (λ op is. inl is) (subst (λ (x : State). Acts (Rests x) _ migrating x c.args.acted.now c.migrate.new.acted (Ok c.in_ok-current.current) v w) c.in_ok-tidied.ensures.state c.in_ok-current.ensures.acts) in
    acts_tidied_first (changing c.args.changes.now) s c.in_ok-tidied.tidied c.do_each.result (t c.tidy.new.host) (subst (λ (r : Result State HostEnd). Tidying (WasTidied s) s r u v) c.in_ok-tidied.was tidying)
    (acts_second migrating (in_turn c.args.changes.now) c.in_ok-current.current c.do_each.result (t c.migrate.new.host) migrated (works_to (λ op may. inr may) c.do_each.ensures.acts))

pub returns-clause-settles : goal.returns-clause-settles
returns-clause-settles g c =
    let s = c.args.opened in
    let u = outside (g.H.Host.moments c.args.host.now) (g.H.Host.faults c.args.host.now) (g.R.Remotes.holds c.args.remotes.now) (g.R.Remotes.faults c.args.remotes.now) in
    let v = outside (g.H.Host.moments c.tidy.new.host) (g.H.Host.faults c.tidy.new.host) (g.R.Remotes.holds c.args.remotes.now) (g.R.Remotes.faults c.args.remotes.now) in
    let t = g.met.H.Host.is_tree in
    let tidying : Tidying (WasTidied s) s c.tidy.result u v = tidying_of s c.tidy.result c.tidy.ensures.any_moment c.tidy.ensures.on_success (λ x is. subst (λ (r : Result State HostEnd). IfOk r (λ o. o ≡ s)) is c.tidy.ensures.state) c.tidy.ensures.fault_has_cause refl refl in
    let w = outside (g.H.Host.moments c.migrate.new.host) (g.H.Host.faults c.migrate.new.host) (g.R.Remotes.holds c.migrate.new.remotes) (g.R.Remotes.faults c.migrate.new.remotes) in
    let migrated : Acts (Rests s) (MayDo c.args.changes.now) migrating s c.args.acted.now c.migrate.new.acted (Ok c.in_ok-current.current) v w = works_to (λ op is. inl is) (subst (λ (x : State). Acts (Rests x) _ migrating x c.args.acted.now c.migrate.new.acted (Ok c.in_ok-current.current) v w) c.in_ok-tidied.ensures.state c.in_ok-current.ensures.acts) in
    settles_tidied (changing c.args.changes.now) s c.in_ok-tidied.tidied c.do_each.result (t c.tidy.new.host) (subst (λ (r : Result State HostEnd). Tidying (WasTidied s) s r u v) c.in_ok-tidied.was tidying)
    (acts_second migrating (in_turn c.args.changes.now) c.in_ok-current.current c.do_each.result (t c.migrate.new.host) migrated (works_to (λ op may. inr may) c.do_each.ensures.acts))
