use Rattle.fl_lines.proofs.Escapes.{escaped-more}
use Rattle.fl_lines.proofs.escaping.escape.Goals as goal

pub loop-letter-preserved : goal.loop-letter-preserved
loop-letter-preserved c = escaped-more _ _ _ _ c.loop-letter.invariant c.in_ok-push_escaped.ensures
