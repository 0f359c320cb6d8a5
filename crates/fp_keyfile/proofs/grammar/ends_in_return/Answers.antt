use Rattle.std.proofs.Common.{sym}
use Rattle.fp_keyfile.specs.Grammar.{is_return}
use Rattle.fp_keyfile.proofs.Texts.{ends_so-last}
use Rattle.fp_keyfile.proofs.grammar.ends_in_return.Goals as goal

pub returns-in-len1-up : goal.returns-in-len1-up
returns-in-len1-up c = sym (ends_so-last is_return c.args.bytes.now c.in-len1-up.len_at_least)
