use Rattle.std.proofs.Common.{List, ap, sym, ◌∙◌}
use Rattle.std.proofs.lemmas.Slice.Eq.{bytes_eq-Decides}
use Rattle.fp_name.specs.Refs.{ref_text}
use Rattle.fp_small.specs.declared.state.RefRow.{RefRow}
use Rattle.dep_states.specs.Shown.{at_name, ref_key}
use Rattle.op_change.proofs.rows.is_kept.Goals as goal

pub returns-in-Some-previous-clause-kept : goal.returns-in-Some-previous-clause-kept
returns-in-Some-previous-clause-kept c is = (
  c.in-Some.row.now,
  ap (λ (rows : List RefRow). at_name ref_key rows (ref_text c.args.name.now)) (sym c.as_slice.ensures) ∙ sym c.in-Some.ensures.row,
  (c.in-Some-previous.previous, c.in-Some-previous.is, (bytes_eq-Decides c.in-Some-previous.previous.commit c.args.commit.now).0 (sym c.eq.ensures ∙ is)),
)
