use Rattle.std.proofs.Common.{not, ◌∙◌, sym, rules}
use Rattle.std.specs.Str.{bytes_eq}
use Rattle.std.proofs.lemmas.Fn.{filter_same}
use Rattle.fp_name.specs.Refs.{ref_text}
use Rattle.fp_small.specs.declared.state.RefRow.{RefRow}
use Rattle.fp_small.proofs.Ordered.{removed-filter}
use Rattle.dep_states.specs.Shown.{ref_key}
use Rattle.dep_switch.proofs.rows.remove_ref.Goals as goal

pub returns-clause-rows : goal.returns-clause-rows
returns-clause-rows c = filter_same _ (λ (y : RefRow). not (bytes_eq (ref_key y) (ref_text c.args.name.now))) _ (λ x b f' k. search rules) c.args.rows.now.items c.retain.new.self.items c.retain.ensures.filtered ∙ sym (removed-filter ref_key c.args.rows.now.items (ref_text c.args.name.now))
