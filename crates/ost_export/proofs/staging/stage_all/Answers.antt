use Rattle.std.proofs.Common.{arith}
use Rattle.fp_host.proofs.Cause.{same_fault}
use Rattle.fp_host.proofs.Ending.{ends_goes, fault_caused}
use Rattle.ost_commit.specs.Objects.{have_of}
use Rattle.ost_export.specs.Staging.{CanStageAll, CanStageOne}
use Rattle.ost_export.proofs.Listed.{whole_in}
use Rattle.ost_export.proofs.Works.{works_start, works_within}
use Rattle.ost_export.proofs.Filling.{stages_start, here, stages_next, can_stage_one, stages_all}
use Rattle.ost_export.proofs.staging.stage_all.Goals as goal

pub loop-object-init : goal.loop-object-init
loop-object-init g c =
    let t = g.met.H.Host.is_tree in
    record {
      works = works_start (t c.args.host.now);
      some = stages_start _ c.new-staged.ensures.items (t c.args.host.now);
      later = omega arith;
    }

pub loop-object-preserved : goal.loop-object-preserved
loop-object-preserved g c =
    let t = g.met.H.Host.is_tree in
    let objects = c.args.objects.now in
    let i = c.loop-object.object-index in
    let o = c.object-item.result in
    record {
      works = works_within (t c.loop-object.host) c.stage_lacking.ensures.any_moment c.loop-object.invariant.works;
      some = stages_next c.requires.apart objects i o c.loop-object-test.true c.object-item.is c.stage_lacking.ensures.digits (t c.args.host.now) (t c.loop-object.host) c.loop-object.invariant.works c.loop-object.invariant.some
          (c.in_ok-stage_lacking.ensures.on_success (have_of objects) (whole_in objects o c.requires.whole (here c.requires.apart objects i o c.loop-object-test.true c.object-item.is)));
      later = omega (arith, c.loop-object.invariant.later, c.stage_lacking.ensures.fault_has_cause.later);
    }

pub returns-in_err-stage_lacking-clause-any_moment : goal.returns-in_err-stage_lacking-clause-any_moment
returns-in_err-stage_lacking-clause-any_moment g c = let t = g.met.H.Host.is_tree in works_within (t c.loop-object.host) c.stage_lacking.ensures.any_moment c.loop-object.invariant.works

pub returns-in_err-stage_lacking-clause-fault_has_cause : goal.returns-in_err-stage_lacking-clause-fault_has_cause
returns-in_err-stage_lacking-clause-fault_has_cause g c =
    let t = g.met.H.Host.is_tree in
    let objects = c.args.objects.now in
    let i = c.loop-object.object-index in
    let o = c.object-item.result in
    fault_caused (CanStageAll c.args.work.now objects) (CanStageOne c.args.work.now o.object) _ _ _ _ _ (t c.args.host.now) c.loop-object.invariant.later (ends_goes (t c.args.host.now) c.loop-object.invariant.works) c.stage_lacking.ensures.fault_has_cause
    (same_fault _ _ _ c.in_err-stage_lacking.was c.from_residual.ensures.1) (λ u v tree works can. can_stage_one objects o (here c.requires.apart objects i o c.loop-object-test.true c.object-item.is) works can)

pub returns-clause-on_success : goal.returns-clause-on_success
returns-clause-on_success g c = stages_all c.args.objects.now c.loop-object.object-index _ c.loop-object-test.false c.loop-object.invariant.some
