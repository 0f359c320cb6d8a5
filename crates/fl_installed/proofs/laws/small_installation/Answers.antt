use Rattle.fl_installed.proofs.Samples.{first_is, second_is, none_without_tree, none_absent, runtime_none}
use Rattle.fl_installed.proofs.laws.small_installation.Goals as goal

pub returns-clause-first : goal.returns-clause-first
returns-clause-first c = first_is

pub returns-clause-second : goal.returns-clause-second
returns-clause-second c = second_is

pub returns-clause-without_tree : goal.returns-clause-without_tree
returns-clause-without_tree c = none_without_tree

pub returns-clause-absent : goal.returns-clause-absent
returns-clause-absent c = none_absent

pub returns-clause-runtime : goal.returns-clause-runtime
returns-clause-runtime c = runtime_none
