use Rattle.std.proofs.Common.{[], arith}
use Rattle.std.proofs.lemmas.Result.{on_ok_weaker}
use Rattle.fp_host.proofs.Cause.{same_fault}
use Rattle.fp_host.proofs.Ending.{fault_caused, to_tree}
use Rattle.ost_commit.specs.Objects.{have_of}
use Rattle.ost_export.specs.Staging.{CanStageAll}
use Rattle.ost_export.specs.Placing.{CanStore}
use Rattle.ost_export.specs.Storing.{CanStoreAll}
use Rattle.ost_export.proofs.Paths.{apart_named}
use Rattle.ost_export.proofs.Objects.{stores_looks, begun_at, stores_works, filled_at, stores_puts, stored_at, can_stage_all, can_store}
use Rattle.ost_export.proofs.storing.store_objects.Goals as goal

pub stage_all-requires-clause-apart : goal.stage_all-requires-clause-apart
stage_all-requires-clause-apart g c = apart_named c.requires.no_work c.in_ok-work.ensures.name

pub store_staged-requires : goal.store_staged-requires
store_staged-requires g c = apart_named c.requires.no_work c.in_ok-work.ensures.name

pub returns-in_err-work-clause-any_moment : goal.returns-in_err-work-clause-any_moment
returns-in_err-work-clause-any_moment g c = stores_looks (g.met.H.Host.is_tree c.args.host.now) c.staging_place.ensures.unchanged

pub returns-in_err-staged-clause-any_moment : goal.returns-in_err-staged-clause-any_moment
returns-in_err-staged-clause-any_moment g c =
    let t = g.met.H.Host.is_tree in
    stores_works c.requires.no_work (t c.staging_place.new.host) (stores_looks (t c.args.host.now) c.staging_place.ensures.unchanged) (begun_at (t c.args.host.now) c.staging_place.ensures.unchanged c.in_ok-work.ensures.tells) c.stage_all.ensures.any_moment

pub returns-in_err-staged-clause-fault_has_cause : goal.returns-in_err-staged-clause-fault_has_cause
returns-in_err-staged-clause-fault_has_cause g c =
    let t = g.met.H.Host.is_tree in
    let objects = c.args.objects.now in
    fault_caused (CanStoreAll c.args.root.now objects) (CanStageAll c.in_ok-work.work objects) _ _ _ _ _ (t c.args.host.now) c.staging_place.ensures.fault_has_cause.later
    (to_tree (t c.staging_place.new.host) (begun_at (t c.args.host.now) c.staging_place.ensures.unchanged c.in_ok-work.ensures.tells)) c.stage_all.ensures.fault_has_cause (same_fault _ _ _ c.in_err-staged.was c.from_residual-in_err-staged.ensures.1)
    (λ u v tree q can. can_stage_all c.requires.no_work objects [] q.0 q.1 can)

pub returns-clause-any_moment : goal.returns-clause-any_moment
returns-clause-any_moment g c =
    let t = g.met.H.Host.is_tree in
    let objects = c.args.objects.now in
    let staged = c.in_ok-staged.staged.items in
    let begun = begun_at (t c.args.host.now) c.staging_place.ensures.unchanged c.in_ok-work.ensures.tells in
    let so_far = stores_works c.requires.no_work (t c.staging_place.new.host) (stores_looks (t c.args.host.now) c.staging_place.ensures.unchanged) begun c.stage_all.ensures.any_moment in
    stores_puts c.requires.no_work objects staged (t c.stage_all.new.host) so_far (filled_at objects staged (t c.args.host.now) (t c.staging_place.new.host) begun c.stage_all.ensures.any_moment c.in_ok-staged.ensures.on_success) (c.store_staged.ensures.any_moment (have_of objects))

pub returns-clause-on_success : goal.returns-clause-on_success
returns-clause-on_success g c =
    let t = g.met.H.Host.is_tree in
    let objects = c.args.objects.now in
    let staged = c.in_ok-staged.staged.items in
    let begun = begun_at (t c.args.host.now) c.staging_place.ensures.unchanged c.in_ok-work.ensures.tells in
    let filled = filled_at objects staged (t c.args.host.now) (t c.staging_place.new.host) begun c.stage_all.ensures.any_moment c.in_ok-staged.ensures.on_success in
    on_ok_weaker c.store_staged.result (λ was. stored_at c.requires.no_work objects staged (t c.stage_all.new.host) (t c.store_staged.new.host) filled (c.store_staged.ensures.any_moment (have_of objects)) was) (c.store_staged.ensures.on_success (have_of objects))

pub returns-clause-fault_has_cause : goal.returns-clause-fault_has_cause
returns-clause-fault_has_cause g c =
    let t = g.met.H.Host.is_tree in
    let objects = c.args.objects.now in
    let staged = c.in_ok-staged.staged.items in
    let begun = begun_at (t c.args.host.now) c.staging_place.ensures.unchanged c.in_ok-work.ensures.tells in
    fault_caused (CanStoreAll c.args.root.now objects) (CanStore (have_of objects) c.args.root.now c.in_ok-work.work staged) _ _ _ c.store_staged.result c.store_staged.result (t c.args.host.now) (omega (arith, c.staging_place.ensures.fault_has_cause.later, c.stage_all.ensures.fault_has_cause.later))
    (filled_at objects staged (t c.args.host.now) (t c.staging_place.new.host) begun c.stage_all.ensures.any_moment c.in_ok-staged.ensures.on_success) (c.store_staged.ensures.fault_has_cause (have_of objects)) (λ e. e)
    (λ u v tree q can. can_store c.requires.no_work objects staged q can)
