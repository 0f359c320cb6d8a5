use Rattle.std.proofs.Common.{◌≡◌, Ok, sym, subst}
use Rattle.fp_host.specs.Paths.{Elements, absent}
use Rattle.fp_host.specs.View.{View}
use Rattle.fp_host.specs.Calls.{Step, IsNoDir, syncs}
use Rattle.fp_host.proofs.Cause.{same_fault}
use Rattle.fp_host.proofs.Framed.{frame_sync}
use Rattle.fp_host.proofs.Ending.{ends_call, ends_on, ends_in_tree}
use Rattle.fp_small.proofs.Replacement.{free_no_dir}
use Rattle.fp_small.proofs.Emptying.{frame_at, ends_at}
use Rattle.ost_refs.specs.Places.{place_path}
use Rattle.ost_refs.proofs.Drops.{dropped}
use Rattle.ost_refs.proofs.changing.drop_ref.Goals as goal

pub returns-in_err-take_away-clause-fault_has_cause : goal.returns-in_err-take_away-clause-fault_has_cause
returns-in_err-take_away-clause-fault_has_cause g c = record {
  later = c.take_away.ensures.fault_has_cause.later;
  fault = λ is m told free. c.take_away.ensures.fault_has_cause.fault (same_fault _ _ _ c.in_err-take_away.was c.from_residual-in_err-take_away.ensures.1 is) m told (subst (λ (q : Elements). IsNoDir (m.now.names q)) (sym c.in_ok-path.ensures) (free_no_dir _ m.now free));
}

pub returns-in_err-sync-clause-frame : goal.returns-in_err-sync-clause-frame
returns-in_err-sync-clause-frame g c =
    let t = g.met.H.Host.is_tree in
    frame_sync c.sync.ensures.step (frame_at c.in_ok-path.ensures c.take_away.ensures.frame) (t c.take_away.new.host)

pub returns-clause-frame : goal.returns-clause-frame
returns-clause-frame g c =
    let t = g.met.H.Host.is_tree in
    frame_sync c.sync.ensures.step (frame_at c.in_ok-path.ensures c.take_away.ensures.frame) (t c.take_away.new.host)

pub returns-clause-on_success : goal.returns-clause-on_success
returns-clause-on_success g c =
    let t = g.met.H.Host.is_tree in
    let p = place_path c.args.root.now c.args.place.now in
    let gone = ends_at c.in_ok-path.ensures c.in_ok-take_away.ensures.on_success in
    ends_in_tree (t c.sync.new.self)
    (ends_on {Q' = λ u w. (v : View) × (v.names p ≡ absent) × Step syncs (Ok tt) v w} (ends_call (t c.take_away.new.host) c.in_ok-sync.ensures.step) gone (t c.take_away.new.host) (λ u v w is q s. (v, q, s)))
    (λ u w tree q. dropped tree q.1 q.2)
