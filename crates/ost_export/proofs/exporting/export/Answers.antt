use Rattle.std.proofs.Common.{arith}
use Rattle.std.proofs.lemmas.Result.{on_ok_weaker}
use Rattle.fp_host.specs.Calls.{syncs, Can}
use Rattle.fp_host.proofs.Cause.{clash_step}
use Rattle.fp_host.proofs.Ending.{ends_start, ends_call, call_caused, fault_caused}
use Rattle.ost_export.specs.Exports.{CanExportAll}
use Rattle.ost_export.proofs.Exported.{sync_exports, sync_furnishes, synced_exports, synced_furnishes, synced_exported, can_after}
use Rattle.ost_export.proofs.exporting.export.Goals as goal

pub returns-in_err-sync-clause-any_moment : goal.returns-in_err-sync-clause-any_moment
returns-in_err-sync-clause-any_moment g c = sync_exports (g.met.H.Host.is_tree c.args.host.now) c.sync.ensures.step

pub returns-in_err-sync-clause-starved : goal.returns-in_err-sync-clause-starved
returns-in_err-sync-clause-starved g c = λ is. sync_furnishes (g.met.H.Host.is_tree c.args.host.now) c.sync.ensures.step

pub returns-in_err-sync-clause-fault_has_cause : goal.returns-in_err-sync-clause-fault_has_cause
returns-in_err-sync-clause-fault_has_cause g c =
    let t = g.met.H.Host.is_tree in
    call_caused (CanExportAll c.args.root.now c.args.name.now c.args.built.now.objects) (Can syncs) _ _ _ _ _ (t c.args.host.now) (omega arith) (ends_start (t c.args.host.now)) c.in_err-sync.ensures.step c.in_err-sync.ensures.fault_has_cause c.from_residual.ensures.1
    (λ v w step. clash_step step) (λ u v tree q can. tt)

pub returns-clause-any_moment : goal.returns-clause-any_moment
returns-clause-any_moment g c = let t = g.met.H.Host.is_tree in synced_exports (t c.args.host.now) (t c.sync.new.self) c.in_ok-sync.ensures.step c.write_offer.ensures.any_moment

pub returns-clause-on_success : goal.returns-clause-on_success
returns-clause-on_success g c =
    let t = g.met.H.Host.is_tree in
    on_ok_weaker c.write_offer.result (λ was. synced_exported (t c.args.host.now) (t c.sync.new.self) c.in_ok-sync.ensures.step was) c.write_offer.ensures.on_success

pub returns-clause-starved : goal.returns-clause-starved
returns-clause-starved g c = let t = g.met.H.Host.is_tree in λ is. synced_furnishes (t c.args.host.now) (t c.sync.new.self) c.in_ok-sync.ensures.step (c.write_offer.ensures.starved is)

pub returns-clause-fault_has_cause : goal.returns-clause-fault_has_cause
returns-clause-fault_has_cause g c =
    let t = g.met.H.Host.is_tree in
    let condition = CanExportAll c.args.root.now c.args.name.now c.args.built.now.objects in
    fault_caused condition condition _ _ _ c.write_offer.result c.write_offer.result (t c.args.host.now) c.sync.ensures.fault_has_cause.later (ends_call (t c.args.host.now) c.in_ok-sync.ensures.step) c.write_offer.ensures.fault_has_cause (λ e. e)
    (λ u v tree step can. can_after step can)
