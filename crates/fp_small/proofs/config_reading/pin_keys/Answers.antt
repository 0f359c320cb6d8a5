use Rattle.std.proofs.Common.{◌∙◌}
use Rattle.fp_small.proofs.ConfigReads.{pins_more}
use Rattle.fp_small.proofs.config_reading.pin_keys.Goals as goal

pub loop-pair-preserved : goal.loop-pair-preserved
loop-pair-preserved c = pins_more c.args.pairs.now c.loop-pair.pair-index c.pair-item.result c.loop-pair.pins.items c.insert_by_name.new.items.items c.in_ok-pin.pin c.loop-pair-test.true c.pair-item.is (c.in_ok-pin.ensures.ok ∙ c.as_bytes.ensures.value ∙ c.as_str.ensures) c.loop-pair.invariant c.in_ok-insert_by_name.ensures.ok
