use Rattle.std.proofs.Common.{ap, sym, ◌∙◌}
use Rattle.std.specs.Prelude.{option_copied}
use Rattle.std.proofs.lemmas.Bool.{false≢true}
use Rattle.fp_name.specs.Refs.{ref_text}
use Rattle.dep_states.specs.Shown.{at_name, ref_key}
use Rattle.dep_tidy.proofs.RowsKept.{kept_some, kept_none}
use Rattle.dep_tidy.proofs.rows.is_kept.Goals as goal

pub returns-in-None : goal.returns-in-None
returns-in-None c = (λ t. absurd (false≢true t), λ k. absurd (kept_none c.args.state.now c.args.name.now c.args.commit.now (ap (λ rows. at_name ref_key rows (ref_text c.args.name.now)) (sym c.as_slice.ensures) ∙ sym c.row_of.ensures.row ∙ ap option_copied c.in-None.is) k))

pub returns-in-Some : goal.returns-in-Some
returns-in-Some c = kept_some c.args.state.now c.args.name.now c.args.commit.now c.in-Some.row.now c.is_kept_by.result (ap (λ rows. at_name ref_key rows (ref_text c.args.name.now)) (sym c.as_slice.ensures) ∙ sym c.row_of.ensures.row ∙ ap option_copied c.in-Some.is) c.is_kept_by.ensures
