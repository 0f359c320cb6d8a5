use Rattle.std.proofs.Common.{ap, sym, ◌∙◌}
use Rattle.std.specs.Prelude.{option_copied}
use Rattle.std.specs.Str.{bytes_eq}
use Rattle.std.proofs.lemmas.Bool.{false≢true}
use Rattle.fp_name.specs.Refs.{ref_text}
use Rattle.dep_states.specs.Shown.{at_name, ref_key}
use Rattle.dep_tidy.proofs.RowsKept.{from_some, from_none}
use Rattle.dep_tidy.proofs.rows.is_from.Goals as goal

pub returns-in-None-clause-has : goal.returns-in-None-clause-has
returns-in-None-clause-has c = (λ t. absurd (false≢true t), λ k. absurd (from_none c.args.state.now c.args.origin.now c.args.name.now (ap (λ rows. at_name ref_key rows (ref_text c.args.name.now)) (sym c.as_slice.ensures) ∙ sym c.row_of.ensures.row ∙ ap option_copied c.in-None.is) k))

pub returns-in-Some-clause-has : goal.returns-in-Some-clause-has
returns-in-Some-clause-has c = from_some c.args.state.now c.args.origin.now c.args.name.now c.in-Some.row.now c.eq.result (ap (λ rows. at_name ref_key rows (ref_text c.args.name.now)) (sym c.as_slice.ensures) ∙ sym c.row_of.ensures.row ∙ ap option_copied c.in-Some.is) (c.eq.ensures ∙ (λ i. bytes_eq (c.as_str.ensures.text i) (c.as_str-text.ensures.text i)))
