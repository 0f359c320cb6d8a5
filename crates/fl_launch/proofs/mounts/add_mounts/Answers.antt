use Rattle.std.proofs.Common.{arith}
use Rattle.fl_launch.proofs.Lines.{mounts-more}
use Rattle.fl_launch.proofs.mounts.add_mounts.Goals as goal

pub loop-point-preserved : goal.loop-point-preserved
loop-point-preserved c =
    mounts-more c.args.front.now c.args.state.now c.args.points.now c.loop-point.point-index c.point-item.result _ _ _ (omega arith) c.point-item.is c.loop-point.invariant c.in_ok-add_mount.ensures
