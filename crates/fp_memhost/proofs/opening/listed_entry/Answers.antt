use Rattle.std.proofs.Common.{◌∙◌, sym, arith}
use Rattle.fp_memhost.proofs.Opened.{listed_step}
use Rattle.fp_memhost.proofs.opening.listed_entry.Goals as goal

pub returns-then-eq : goal.returns-then-eq
returns-then-eq c = sym (listed_step c.args.names.now c.loop-path.path-index c.loop-path-item.result c.args.text.now c.text.result.now _ (omega arith) c.loop-path-item.is c.text.ensures.back c.if-eq.ensures) ∙ c.loop-path.invariant

pub loop-path-preserved : goal.loop-path-preserved
loop-path-preserved c = sym (listed_step c.args.names.now c.loop-path.path-index c.loop-path-item.result c.args.text.now c.text.result.now _ (omega arith) c.loop-path-item.is c.text.ensures.back c.if-eq.ensures) ∙ c.loop-path.invariant
