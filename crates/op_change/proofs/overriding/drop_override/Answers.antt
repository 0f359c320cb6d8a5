use Rattle.std.proofs.Common.{arith, sym, subst}
use Rattle.fp_host.specs.Calls.{IsNoDir}
use Rattle.fp_host.specs.View.{View}
use Rattle.fp_host.proofs.Cause.{same_fault}
use Rattle.fp_host.proofs.Framed.{frame_sync}
use Rattle.fp_host.proofs.Ending.{ends_start, fault_caused}
use Rattle.fp_small.proofs.Emptying.{frame_at, ends_at}
use Rattle.dep_states.specs.Sound.{Opens}
use Rattle.op_change.proofs.Layers.{drop_goes, drop_end, can_drop}
use Rattle.op_change.proofs.overriding.drop_override.Goals as goal

pub returns-in_err-take_away-clause-any_moment : goal.returns-in_err-take_away-clause-any_moment
returns-in_err-take_away-clause-any_moment g c = drop_goes c.args.opened c.args.name.now c.requires (g.met.H.Host.is_tree c.args.host.now) (frame_at c.in_ok-path.ensures c.take_away.ensures.frame)

pub returns-in_err-take_away-clause-fault_has_cause : goal.returns-in_err-take_away-clause-fault_has_cause
returns-in_err-take_away-clause-fault_has_cause g c =
    let t = g.met.H.Host.is_tree c.args.host.now in
    let path = c.in_ok-path.path in
    fault_caused (Opens c.args.opened) (λ v. IsNoDir (v.names path)) _ _ _ _ _ t (omega arith) (ends_start t) c.take_away.ensures.fault_has_cause (same_fault _ _ _ c.in_err-take_away.was c.from_residual-in_err-take_away.ensures.1)
    (λ u v tree same opens. subst (λ (x : View). IsNoDir (x.names path)) (sym same) (subst (λ p. IsNoDir (u.names p)) (sym c.in_ok-path.ensures) (can_drop c.args.name.now c.requires tree opens)))

pub returns-in_err-sync-clause-any_moment : goal.returns-in_err-sync-clause-any_moment
returns-in_err-sync-clause-any_moment g c =
    let t = g.met.H.Host.is_tree in
    drop_goes c.args.opened c.args.name.now c.requires (t c.args.host.now) (frame_sync c.sync.ensures.step (frame_at c.in_ok-path.ensures c.take_away.ensures.frame) (t c.take_away.new.host))

pub returns-clause-any_moment : goal.returns-clause-any_moment
returns-clause-any_moment g c =
    let t = g.met.H.Host.is_tree in
    drop_goes c.args.opened c.args.name.now c.requires (t c.args.host.now) (frame_sync c.sync.ensures.step (frame_at c.in_ok-path.ensures c.take_away.ensures.frame) (t c.take_away.new.host))

pub returns-clause-on_success : goal.returns-clause-on_success
returns-clause-on_success g c =
    let t = g.met.H.Host.is_tree in
    let frame = frame_at c.in_ok-path.ensures c.take_away.ensures.frame in
    drop_end c.args.opened c.args.name.now c.requires (t c.args.host.now) (t c.take_away.new.host) (t c.sync.new.self) frame (ends_at c.in_ok-path.ensures c.in_ok-take_away.ensures.on_success) (frame_sync c.sync.ensures.step frame (t c.take_away.new.host)) c.in_ok-sync.ensures.step
