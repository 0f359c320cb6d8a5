use Rattle.std.proofs.Common.{Some, None, ap, ◌∙◌}
use Rattle.fl_export.specs.Keys.{is_plain_at}
use Rattle.fl_export.proofs.keys.is_plain.Goals as goal

pub returns-in-Some : goal.returns-in-Some
returns-in-Some c = c.are_parts.ensures ∙ ap (is_plain_at c.args.key.now) c.in-Some.ensures

pub returns-in-None : goal.returns-in-None
returns-in-None c = c.is_name.ensures ∙ ap (is_plain_at c.args.key.now) c.in-None.ensures
