use Rattle.std.proofs.Common.{◌≡◌, ◌≤◌, length, IsTrue}
use Rattle.gv_value.specs.Framing.{cut, marks}
use Rattle.gv_value.specs.Plans.{plan_shapes, are_plans}
use Rattle.gv_decode.specs.Decoded.{slices, offsets_left}
use Rattle.gv_decode.proofs.Runs.{SoFar}
use Rattle.gv_decode.proofs.cutting.framed_members.Given as goal

abbrev pub invariant-loop-plan : goal.invariant-loop-plan
invariant-loop-plan l =
    let f = l.frame in let body = f.body.now in let ts = plan_shapes l.left in record {
      good : IsTrue (are_plans l.left);
      within : l.at ≤ length body;
      few : l.unused ≤ f.count;
      so_far : SoFar (slices l.children.items) (cut body l.at (marks (length body) l.at ts (offsets_left f l.unused)))
          (cut body 0 (marks (length body) 0 (plan_shapes l.plans) (offsets_left f f.count)));
    }

abbrev pub decreases-loop-plan : goal.decreases-loop-plan
decreases-loop-plan l = length l.left
