use Rattle.std.proofs.Common.{false, get_or, sym, ap, ◌∙◌}
use Rattle.fl_meta.specs.Separators.{escapes}
use Rattle.fl_meta.proofs.Whole.{escapes_next}
use Rattle.fl_meta.proofs.separators.ends_escaped.Goals as goal

pub loop-byte-preserved : goal.loop-byte-preserved
loop-byte-preserved c =
    let items = c.as_bytes-byte-items.result.now in
    let i = c.loop-byte.byte-index in
    c.escapes-escaped.ensures ∙ ap (λ e. escapes e (get_or items i 0)) c.loop-byte.invariant ∙ sym (escapes_next false items i c.loop-byte-test.true)
