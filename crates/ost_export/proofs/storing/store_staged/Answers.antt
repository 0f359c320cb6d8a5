use Rattle.std.proofs.Common.{arith}
use Rattle.fp_host.specs.Calls.{syncs, Can}
use Rattle.fp_host.proofs.Cause.{clash_step, same_fault}
use Rattle.fp_host.proofs.Ending.{goes_last, ends_start, ends_call, ends_goes, call_caused, fault_caused, from_tree, to_tree}
use Rattle.fp_small.specs.Clear.{CanClear}
use Rattle.ost_export.specs.Placing.{CanPlaceAll, CanStore}
use Rattle.ost_export.proofs.Stored.{can_place, stores_sync, stores_place, stores_clear, stores_again, placed_at, cleared_at, stored_at, clears_still}
use Rattle.ost_export.proofs.storing.store_staged.Goals as goal

pub returns-in_err-sync-clause-any_moment : goal.returns-in_err-sync-clause-any_moment
returns-in_err-sync-clause-any_moment g c have = stores_sync c.requires have c.args.staged.now.items (g.met.H.Host.is_tree c.args.host.now) c.sync.ensures.step

pub returns-in_err-sync-clause-fault_has_cause : goal.returns-in_err-sync-clause-fault_has_cause
returns-in_err-sync-clause-fault_has_cause g c have =
    let t = g.met.H.Host.is_tree in
    call_caused (CanStore have c.args.root.now c.args.work.now c.args.staged.now.items) (Can syncs) _ _ _ _ _ (t c.args.host.now) (omega arith) (ends_start (t c.args.host.now)) c.in_err-sync.ensures.step c.in_err-sync.ensures.fault_has_cause c.from_residual.ensures.1
    (λ v w step. clash_step step) (λ u v tree q can. tt)

pub returns-in_err-place_all-clause-any_moment : goal.returns-in_err-place_all-clause-any_moment
returns-in_err-place_all-clause-any_moment g c have =
    let t = g.met.H.Host.is_tree in
    stores_place c.requires have c.args.staged.now.items (t c.args.host.now) (t c.sync.new.self) c.in_ok-sync.ensures.step (c.place_all.ensures.any_moment have)

pub returns-in_err-place_all-clause-fault_has_cause :
    goal.returns-in_err-place_all-clause-fault_has_cause
returns-in_err-place_all-clause-fault_has_cause g c have =
    let t = g.met.H.Host.is_tree in
    fault_caused (CanStore have c.args.root.now c.args.work.now c.args.staged.now.items) (CanPlaceAll have c.args.root.now c.args.work.now c.args.staged.now.items) _ _ _ _ _ (t c.args.host.now) c.sync.ensures.fault_has_cause.later
    (to_tree (t c.sync.new.self) (from_tree (t c.args.host.now) (ends_call (t c.args.host.now) c.in_ok-sync.ensures.step))) (c.place_all.ensures.fault_has_cause have)
    (same_fault _ _ _ c.in_err-place_all.was c.from_residual-in_err-place_all.ensures.1) (λ u v tree q can. can_place c.args.staged.now.items q.1.1 q.0 can)

pub returns-in_err-clear-clause-any_moment : goal.returns-in_err-clear-clause-any_moment
returns-in_err-clear-clause-any_moment g c have =
    let t = g.met.H.Host.is_tree in
    let kept = c.args.staged.now.items in
    stores_clear c.requires have kept (t c.place_all.new.host) (stores_place c.requires have kept (t c.args.host.now) (t c.sync.new.self) c.in_ok-sync.ensures.step (c.place_all.ensures.any_moment have)) c.clear.ensures.frame

pub returns-in_err-clear-clause-fault_has_cause : goal.returns-in_err-clear-clause-fault_has_cause
returns-in_err-clear-clause-fault_has_cause g c have =
    let t = g.met.H.Host.is_tree in
    let kept = c.args.staged.now.items in
    fault_caused (CanStore have c.args.root.now c.args.work.now kept) (CanClear c.args.work.now) _ _ _ _ _ (t c.args.host.now) (omega (arith, c.sync.ensures.fault_has_cause.later, (c.place_all.ensures.fault_has_cause have).later))
    (ends_goes (t c.args.host.now) (goes_last (stores_place c.requires have kept (t c.args.host.now) (t c.sync.new.self) c.in_ok-sync.ensures.step (c.place_all.ensures.any_moment have)))) c.clear.ensures.fault_has_cause
    (same_fault _ _ _ c.in_err-clear.was c.from_residual-in_err-clear.ensures.1) (λ u v tree q can. clears_still c.requires have kept q can)

pub returns-in_err-sync-2-clause-any_moment : goal.returns-in_err-sync-2-clause-any_moment
returns-in_err-sync-2-clause-any_moment g c have =
    let t = g.met.H.Host.is_tree in
    let kept = c.args.staged.now.items in
    stores_again c.requires have kept (t c.clear.new.host)
    (stores_clear c.requires have kept (t c.place_all.new.host) (stores_place c.requires have kept (t c.args.host.now) (t c.sync.new.self) c.in_ok-sync.ensures.step (c.place_all.ensures.any_moment have)) c.clear.ensures.frame)
    c.sync-2.ensures.step

pub returns-in_err-sync-2-clause-fault_has_cause : goal.returns-in_err-sync-2-clause-fault_has_cause
returns-in_err-sync-2-clause-fault_has_cause g c have =
    let t = g.met.H.Host.is_tree in
    let kept = c.args.staged.now.items in
    let so_far = stores_clear c.requires have kept (t c.place_all.new.host) (stores_place c.requires have kept (t c.args.host.now) (t c.sync.new.self) c.in_ok-sync.ensures.step (c.place_all.ensures.any_moment have)) c.clear.ensures.frame in
    call_caused (CanStore have c.args.root.now c.args.work.now kept) (Can syncs) _ _ _ _ _ (t c.args.host.now)
    (omega (arith, c.sync.ensures.fault_has_cause.later, (c.place_all.ensures.fault_has_cause have).later, c.clear.ensures.fault_has_cause.later)) (ends_goes (t c.args.host.now) (goes_last so_far)) c.in_err-sync-2.ensures.step c.in_err-sync-2.ensures.fault_has_cause
    c.from_residual-in_err-sync-2.ensures.1 (λ v w step. clash_step step) (λ u v tree q can. tt)

pub returns-clause-any_moment : goal.returns-clause-any_moment
returns-clause-any_moment g c have =
    let t = g.met.H.Host.is_tree in
    let kept = c.args.staged.now.items in
    stores_again c.requires have kept (t c.clear.new.host)
    (stores_clear c.requires have kept (t c.place_all.new.host) (stores_place c.requires have kept (t c.args.host.now) (t c.sync.new.self) c.in_ok-sync.ensures.step (c.place_all.ensures.any_moment have)) c.clear.ensures.frame)
    c.sync-2.ensures.step

pub returns-clause-on_success : goal.returns-clause-on_success
returns-clause-on_success g c have =
    let t = g.met.H.Host.is_tree in
    let kept = c.args.staged.now.items in
    let placed = placed_at c.requires have kept (t c.args.host.now) (t c.sync.new.self) (t c.place_all.new.host) c.in_ok-sync.ensures.step (c.in_ok-place_all.ensures.on_success have) in
    let cleared = cleared_at c.requires have kept (t c.place_all.new.host) (t c.clear.new.host) placed c.clear.ensures.frame c.in_ok-clear.ensures.on_success in
    stored_at c.requires have kept (t c.clear.new.host) (t c.sync-2.new.self) cleared c.in_ok-sync-2.ensures.step

pub returns-clause-fault_has_cause : goal.returns-clause-fault_has_cause
returns-clause-fault_has_cause g c have = record {
  later = omega (arith, c.sync.ensures.fault_has_cause.later, (c.place_all.ensures.fault_has_cause have).later, c.clear.ensures.fault_has_cause.later, c.sync-2.ensures.fault_has_cause.later);
  fault = λ is. absurd (cc is);
}
