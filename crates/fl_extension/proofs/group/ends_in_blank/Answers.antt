use Rattle.std.proofs.Common.{sym, ◌∙◌}
use Rattle.fp_keyfile.specs.Grammar.{is_blank}
use Rattle.fp_keyfile.proofs.Texts.{ends_so-last}
use Rattle.fl_extension.proofs.group.ends_in_blank.Goals as goal

pub returns-in-len1-up : goal.returns-in-len1-up
returns-in-len1-up c = c.is_blank.ensures ∙ sym (ends_so-last is_blank c.args.bytes.now c.in-len1-up.len_at_least)
