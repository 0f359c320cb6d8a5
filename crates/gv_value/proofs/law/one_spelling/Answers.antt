use Rattle.gv_value.proofs.Exact.{reads_types, reads_values, spells_values, one_spelling_each, one_value_each}
use Rattle.gv_value.proofs.Depths.{bounds_depth}
use Rattle.gv_value.proofs.law.one_spelling.Goals as goal

pub returns-clause-types : goal.returns-clause-types
returns-clause-types c = reads_types

pub returns-clause-read : goal.returns-clause-read
returns-clause-read c = reads_values

pub returns-clause-spelled : goal.returns-clause-spelled
returns-clause-spelled c = spells_values

pub returns-clause-one_spelling : goal.returns-clause-one_spelling
returns-clause-one_spelling c = one_spelling_each

pub returns-clause-one_value : goal.returns-clause-one_value
returns-clause-one_value c = one_value_each

pub returns-clause-depth : goal.returns-clause-depth
returns-clause-depth c = bounds_depth
