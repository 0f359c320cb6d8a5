use Rattle.std.proofs.Common.{◌≡◌, Err, ap, ◌∙◌}
use Rattle.std.proofs.lemmas.Result.{err_from_is_err_and}
use Rattle.fp_base.proofs.Lists.{drop_read}
use Rattle.ost_walk.specs.declared.pull_end.PullEnd.{PullEnd}
use Rattle.ost_walk.specs.declared.pull_end.PullEnd.TheVariants as ends
use Rattle.fl_plan.proofs.Points.{points_looks, points_next, points_failed, points_starved}
use Rattle.fl_plan.proofs.Parts.{plan_and}
use Rattle.fl_plan.proofs.extensions.with_points.Goals as goal

pub returns-in_err-push_more-in-Ok-clause-plans : goal.returns-in_err-push_more-in-Ok-clause-plans
returns-in_err-push_more-in-Ok-clause-plans g c =
    let inv = c.loop-point.invariant in
    let points = c.args.points.now in
    let i = c.loop-point.point-index in
    let p = err_from_is_err_and c.from_residual.result c.from_residual.ensures.1 in
    let starved : c.from_residual.result ≡ Err ends.NoMemory = p.1 ∙ ap (λ (e : PullEnd). Err e) p.2 in
    rw starved (points_starved c.args.state.now c.args.remote.now points c.args.plan c.loop-point.plan inv.looks i inv.rest c.point-item.result
    (drop_read points i c.point-item.result c.loop-point-test.true c.point-item.is) (g.met.H.Host.is_tree c.loop-point.host) c.in-Ok.more c.in-Ok.ensures.plans)

pub returns-in-Err-clause-plans : goal.returns-in-Err-clause-plans
returns-in-Err-clause-plans g c =
    let inv = c.loop-point.invariant in
    let points = c.args.points.now in
    let i = c.loop-point.point-index in
    points_failed c.args.state.now c.args.remote.now points c.args.plan c.loop-point.plan inv.looks i inv.rest c.point-item.result
    (drop_read points i c.point-item.result c.loop-point-test.true c.point-item.is) (g.met.H.Host.is_tree c.loop-point.host) c.in-Err.end c.in-Err.ensures.plans

pub loop-point-preserved : goal.loop-point-preserved
loop-point-preserved g c =
    let inv = c.loop-point.invariant in
    let points = c.args.points.now in
    let i = c.loop-point.point-index in
    let here = drop_read points i c.point-item.result c.loop-point-test.true c.point-item.is in
    let told = g.met.H.Host.is_tree c.loop-point.host in
    record {
      looks = points_looks c.args.state.now c.args.remote.now points c.args.plan c.loop-point.plan inv.looks i inv.rest c.point-item.result here told c.in-Ok.more c.in-Ok.ensures.plans;
      rest = rw c.in_ok-push_more-in-Ok.ensures (points_next c.args.state.now c.args.remote.now points c.args.plan c.loop-point.plan inv.looks i inv.rest c.point-item.result here told c.in-Ok.more c.in-Ok.ensures.plans);
      good = rw c.in_ok-push_more-in-Ok.ensures (plan_and c.args.state.now c.loop-point.plan c.in-Ok.more inv.good c.in-Ok.ensures.good);
    }
