use Rattle.std.proofs.Common.{◌≡◌, Some, Result, refl, ap, sym, ◌∙◌, subst}
use Rattle.fp_small.specs.Config.{name_of}
use Rattle.fp_small.specs.declared.state.State.{State}
use Rattle.fp_host.specs.declared.host.HostEnd.{HostEnd}
use Rattle.ost_walk.specs.Ends.{outside}
use Rattle.ost_walk.specs.declared.pull_end.PullEnd.{PullEnd}
use Rattle.fp_small.specs.declared.state.RefRow.{RefRow}
use Rattle.dep_states.specs.After.{IsGood}
use Rattle.dep_states.specs.Shown.{at_name}
use Rattle.dep_switch.specs.Rows.{with_row}
use Rattle.op_change.specs.Obtaining.{Obtains}
use Rattle.op_change.proofs.Attempting.{Deploying, attempts_none, attempts_not, attempts, names_none, names_not, row_moves}
use Rattle.op_change.proofs.Brought.{is_bringing}
use Rattle.op_change.proofs.GoodRow.{good_brought}
use Rattle.op_change.proofs.incoming.bring.Goals as goal

pub obtain-requires : goal.obtain-requires
obtain-requires g c = (c.type_bounds.sync-typeof-rt, c.requires.moves)

pub returns-in_err-row-clause-attempts : goal.returns-in_err-row-clause-attempts
returns-in_err-row-clause-attempts g c op may is =
    let s = c.args.opened in
    let origin = c.remote_of-remote.result.now in
    let u = outside (g.H.Host.moments c.args.host.now) (g.H.Host.faults c.args.host.now) (g.R.Remotes.holds c.args.remotes.now) (g.R.Remotes.faults c.args.remotes.now) in
    let v = outside (g.H.Host.moments c.obtain.new.host) (g.H.Host.faults c.obtain.new.host) (g.R.Remotes.holds c.obtain.new.remotes) (g.R.Remotes.faults c.obtain.new.remotes) in
    let at : at_name name_of s.remotes c.args.origin.now ≡ Some origin = subst (λ (x : State). at_name name_of x.remotes c.args.origin.now ≡ Some origin) c.state.ensures c.remote_of-remote.ensures in
    attempts_none (is_bringing s op c.args.name.now c.args.origin.now c.args.commit.now origin may is at) _ _ c.from_residual.ensures.1 (g.met.H.Host.is_tree c.args.host.now)
    (subst (λ (r : Result RefRow PullEnd). Obtains s origin c.args.name.now c.args.commit.now r u v) c.in_err-row.was c.obtain.ensures.obtains)

pub returns-in_err-row-clause-refused_names : goal.returns-in_err-row-clause-refused_names
returns-in_err-row-clause-refused_names g c r is =
    let s = c.args.opened in
    let origin = c.remote_of-remote.result.now in
    let u = outside (g.H.Host.moments c.args.host.now) (g.H.Host.faults c.args.host.now) (g.R.Remotes.holds c.args.remotes.now) (g.R.Remotes.faults c.args.remotes.now) in
    let v = outside (g.H.Host.moments c.obtain.new.host) (g.H.Host.faults c.obtain.new.host) (g.R.Remotes.holds c.obtain.new.remotes) (g.R.Remotes.faults c.obtain.new.remotes) in
    names_none s origin c.args.name.now c.args.commit.now _ _ c.from_residual.ensures.1
    (subst (λ (r : Result RefRow PullEnd). Obtains s origin c.args.name.now c.args.commit.now r u v) c.in_err-row.was c.obtain.ensures.obtains) r is

pub deploy_row-requires : goal.deploy_row-requires
deploy_row-requires g c = record { moves = row_moves c.args.opened c.args.name.now c.remote_of-remote.result.now.name c.args.commit.now c.in_ok-row.row c.in_ok-row.ensures.row.is c.requires.moves }

pub returns-in_err-deploy_row-clause-attempts : goal.returns-in_err-deploy_row-clause-attempts
returns-in_err-deploy_row-clause-attempts g c op may is =
    let t = g.met.H.Host.is_tree in
    let s = c.args.opened in
    let origin = c.remote_of-remote.result.now in
    let u = outside (g.H.Host.moments c.args.host.now) (g.H.Host.faults c.args.host.now) (g.R.Remotes.holds c.args.remotes.now) (g.R.Remotes.faults c.args.remotes.now) in
    let v = outside (g.H.Host.moments c.obtain.new.host) (g.H.Host.faults c.obtain.new.host) (g.R.Remotes.holds c.obtain.new.remotes) (g.R.Remotes.faults c.obtain.new.remotes) in
    let w = outside (g.H.Host.moments c.deploy_row.new.host) (g.H.Host.faults c.deploy_row.new.host) (g.R.Remotes.holds c.obtain.new.remotes) (g.R.Remotes.faults c.obtain.new.remotes) in
    let at : at_name name_of s.remotes c.args.origin.now ≡ Some origin = subst (λ (x : State). at_name name_of x.remotes c.args.origin.now ≡ Some origin) c.state.ensures c.remote_of-remote.ensures in
    let e = c.deploy_row.ensures in
    let d : Deploying s c.in_ok-row.row c.deploy_row.result v w = record { told = t c.obtain.new.host; last = t c.deploy_row.new.host; state = e.state; moments = e.any_moment; success = e.on_success; starved = e.starved_unchanged; host = e.fault_has_cause; holdings = refl; remote_faults = refl } in
    attempts_not (is_bringing s op c.args.name.now c.args.origin.now c.args.commit.now origin may is at) c.in_ok-row.row c.in_ok-row.ensures.row.is (t c.args.host.now) c.in_ok-row.ensures.obtains _ _ c.from_residual-in_err-deploy_row.ensures.1
    (subst (λ (r : Result State HostEnd). Deploying s c.in_ok-row.row r v w) c.in_err-deploy_row.was d)

pub returns-in_err-deploy_row-clause-refused_names : goal.returns-in_err-deploy_row-clause-refused_names
returns-in_err-deploy_row-clause-refused_names g c r is = absurd (names_not _ _ c.from_residual-in_err-deploy_row.ensures.1 r is)

pub returns-clause-made : goal.returns-clause-made
returns-clause-made g c op may is =
    let s = c.args.opened in
    let origin = c.remote_of-remote.result.now in
    let at : at_name name_of s.remotes c.args.origin.now ≡ Some origin = subst (λ (x : State). at_name name_of x.remotes c.args.origin.now ≡ Some origin) c.state.ensures c.remote_of-remote.ensures in
    let b = is_bringing s op c.args.name.now c.args.origin.now c.args.commit.now origin may is at in
    let time = c.in_ok-row.row.timestamp in
    (time, c.in_ok-deploy_row.ensures.state ∙ ap (with_row s) c.in_ok-row.ensures.row.is ∙ b.made time)

pub returns-clause-good : goal.returns-clause-good
returns-clause-good g c =
    let row = c.in_ok-row.ensures.row in
    subst IsGood (sym (c.in_ok-deploy_row.ensures.state ∙ ap (with_row c.args.opened) row.is))
    (good_brought c.args.opened c.args.name.now c.remote_of-remote.result.now.name c.args.commit.now c.in_ok-row.row.timestamp c.requires.good row.name_is row.origin_is row.commit_is row.time c.requires.moves)

pub returns-clause-attempts : goal.returns-clause-attempts
returns-clause-attempts g c op may is =
    let t = g.met.H.Host.is_tree in
    let s = c.args.opened in
    let origin = c.remote_of-remote.result.now in
    let u = outside (g.H.Host.moments c.args.host.now) (g.H.Host.faults c.args.host.now) (g.R.Remotes.holds c.args.remotes.now) (g.R.Remotes.faults c.args.remotes.now) in
    let v = outside (g.H.Host.moments c.obtain.new.host) (g.H.Host.faults c.obtain.new.host) (g.R.Remotes.holds c.obtain.new.remotes) (g.R.Remotes.faults c.obtain.new.remotes) in
    let w = outside (g.H.Host.moments c.deploy_row.new.host) (g.H.Host.faults c.deploy_row.new.host) (g.R.Remotes.holds c.obtain.new.remotes) (g.R.Remotes.faults c.obtain.new.remotes) in
    let at : at_name name_of s.remotes c.args.origin.now ≡ Some origin = subst (λ (x : State). at_name name_of x.remotes c.args.origin.now ≡ Some origin) c.state.ensures c.remote_of-remote.ensures in
    let e = c.deploy_row.ensures in
    let d : Deploying s c.in_ok-row.row c.deploy_row.result v w = record { told = t c.obtain.new.host; last = t c.deploy_row.new.host; state = e.state; moments = e.any_moment; success = e.on_success; starved = e.starved_unchanged; host = e.fault_has_cause; holdings = refl; remote_faults = refl } in
    attempts (is_bringing s op c.args.name.now c.args.origin.now c.args.commit.now origin may is at) c.in_ok-row.row c.in_ok-row.ensures.row.is (t c.args.host.now) c.in_ok-row.ensures.obtains c.in_ok-deploy_row.field-0
    (subst (λ (r : Result State HostEnd). Deploying s c.in_ok-row.row r v w) c.in_ok-deploy_row.was d)
