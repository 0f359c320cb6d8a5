use Rattle.std.proofs.Common.{◌∙◌, ap}
use Rattle.fp_small.specs.Config.{name_of}
use Rattle.dep_states.specs.Shown.{at_name}
use Rattle.dep_switch.proofs.Named.{at_name-find}
use Rattle.dep_switch.proofs.rows.find_remote.Goals as goal

pub returns : goal.returns
returns c = c.find_text.ensures ∙ at_name-find name_of c.args.rows.now c.as_str.result.now ∙ ap (at_name name_of c.args.rows.now) c.as_str.ensures.text
