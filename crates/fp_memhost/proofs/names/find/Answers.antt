use Rattle.std.proofs.Common.{◌+◌, ◌-◌, ◌/◌, arith}
use Rattle.std.specs.declared.cmp.Ordering.TheVariants.{Less, Greater}
use Rattle.fp_memhost.proofs.Ordered.{lower, higher, read_at, found_at}
use Rattle.fp_memhost.proofs.names.find.Goals as goal

pub loop-low-preserved-in-Less : goal.loop-low-preserved-in-Less
loop-low-preserved-in-Less c =
    let names = c.args.names.now in
    let text = c.args.text.now in
    let m = c.loop-low.low + (c.loop-low.high - c.loop-low.low) / 2 in
    (omega arith, c.loop-low.invariant.1, lower names text c.requires m (omega arith) (read_at names m c.index-names-middle.result c.text.result.now text Less (omega arith) c.text.ensures.text c.in-Less.ensures), c.loop-low.invariant.3)

pub loop-low-preserved : goal.loop-low-preserved
loop-low-preserved c =
    let names = c.args.names.now in
    let text = c.args.text.now in
    let m = c.loop-low.low + (c.loop-low.high - c.loop-low.low) / 2 in
    (omega arith, omega arith, c.loop-low.invariant.2, higher names text c.requires m (read_at names m c.index-names-middle.result c.text.result.now text Greater (omega arith) c.text.ensures.text c.in-Greater.ensures))

pub returns-in-Equal : goal.returns-in-Equal
returns-in-Equal c =
    let m = c.loop-low.low + (c.loop-low.high - c.loop-low.low) / 2 in
    found_at c.args.names.now m c.index-names-middle.result c.text.result.now c.args.text.now c.requires (omega arith) c.text.ensures.text c.text.ensures.back c.in-Equal.ensures
