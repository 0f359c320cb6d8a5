use Rattle.std.proofs.Common.{sym}
use Rattle.ost_object.proofs.Bound.{no_texts_in}
use Rattle.ost_object.proofs.bindings.no_texts.Goals as goal

pub returns-in-len1-up : goal.returns-in-len1-up
returns-in-len1-up c = sym (no_texts_in c.args.bytes.now c.in-len1-up.len_at_least)
