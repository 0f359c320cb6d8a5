use Rattle.std.proofs.Common.{not, ◌∙◌, sym, rules}
use Rattle.std.specs.Str.{bytes_eq}
use Rattle.std.proofs.lemmas.Fn.{filter_same}
use Rattle.fp_small.specs.declared.state.OverrideRow.{OverrideRow}
use Rattle.fp_small.proofs.Ordered.{removed-filter}
use Rattle.dep_states.specs.Shown.{override_key}
use Rattle.dep_switch.proofs.rows.remove_override.Goals as goal

pub returns : goal.returns
returns c = filter_same _ (λ (y : OverrideRow). not (bytes_eq y.name c.args.name.now)) _ (λ x b f' k. search rules) c.args.rows.now.items c.retain.new.self.items c.retain.ensures.filtered ∙ sym (removed-filter override_key c.args.rows.now.items c.args.name.now)
