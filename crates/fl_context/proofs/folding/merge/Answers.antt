use Rattle.std.proofs.Common.{arith}
use Rattle.fl_context.proofs.Merging.{merged-more}
use Rattle.fl_context.proofs.folding.merge.Goals as goal

pub loop-layer-preserved : goal.loop-layer-preserved
loop-layer-preserved c =
    merged-more c.args.layers.now c.loop-layer.layer-index c.layer-item.result _ _ (omega arith) c.layer-item.is c.loop-layer.invariant c.in_ok-take_layer.ensures
