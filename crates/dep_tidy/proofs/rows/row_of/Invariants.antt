use Rattle.std.proofs.Common.{◌≡◌, drop}
use Rattle.fp_name.specs.Refs.{ref_text}
use Rattle.dep_states.specs.Shown.{at_name, ref_key}
use Rattle.dep_tidy.proofs.rows.row_of.Given as goal

abbrev pub invariant-loop-row : goal.invariant-loop-row
invariant-loop-row l = at_name ref_key l.rows (ref_text l.name) ≡ at_name ref_key (drop l.row-index l.rows) (ref_text l.name)
