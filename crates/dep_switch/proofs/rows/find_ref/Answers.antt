use Rattle.std.proofs.Common.{◌∙◌, ap}
use Rattle.dep_states.specs.Shown.{at_name, ref_key}
use Rattle.dep_switch.proofs.Named.{at_name-find}
use Rattle.dep_switch.proofs.rows.find_ref.Goals as goal

pub returns-clause-row : goal.returns-clause-row
returns-clause-row c = c.find_text.ensures ∙ at_name-find ref_key c.args.rows.now c.as_str.result.now ∙ ap (at_name ref_key c.args.rows.now) c.as_str.ensures.text
