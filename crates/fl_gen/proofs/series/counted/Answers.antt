use Rattle.std.proofs.Common.{ℕ, ◌+◌, ◌%◌, arith}
use Rattle.fl_gen.specs.declared.limits.TheConstants.{BYTE_END}
use Rattle.fl_gen.proofs.Counting.{one_more, none_yet}
use Rattle.fl_gen.proofs.series.counted.Goals as goal

pub loop-at-init : goal.loop-at-init
loop-at-init c = grind (arith, none_yet (λ (i : ℕ). (c.args.start + i) % BYTE_END))

pub loop-at-preserved : goal.loop-at-preserved
loop-at-preserved c = grind (arith, one_more (λ (i : ℕ). (c.args.start + i) % BYTE_END) c.loop-at.at)
