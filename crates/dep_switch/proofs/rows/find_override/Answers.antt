use Rattle.std.proofs.Common.{◌∙◌, ap}
use Rattle.dep_states.specs.Shown.{at_name, override_key}
use Rattle.dep_switch.proofs.Named.{at_name-find}
use Rattle.dep_switch.proofs.rows.find_override.Goals as goal

pub returns : goal.returns
returns c = c.find_text.ensures ∙ at_name-find override_key c.args.rows.now c.as_str.result.now ∙ ap (at_name override_key c.args.rows.now) c.as_str.ensures
