use Rattle.fl_export.specs.Rewritten.{rewritten_pair}
use Rattle.fl_export.proofs.Gather.{flat_next}
use Rattle.fl_export.proofs.rewriting.rewritten_group.Goals as goal

pub loop-pair-preserved : goal.loop-pair-preserved
loop-pair-preserved c =
    flat_next (rewritten_pair c.args.name.now) c.as_slice-pair-items.result.now c.loop-pair.pair-index c.pair-item.result c.loop-pair-test.true c.pair-item.is c.loop-pair.pairs.items c.add_pair.new.pairs.items
    c.loop-pair.invariant c.in_ok-add_pair.ensures
