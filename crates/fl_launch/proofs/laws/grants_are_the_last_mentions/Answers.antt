use Rattle.fl_context.proofs.Ascending.{merged_ascends}
use Rattle.fl_context.proofs.Merging.{value_in-merged}
use Rattle.fl_launch.proofs.Granting.{merged_alone}
use Rattle.fl_launch.proofs.laws.grants_are_the_last_mentions.Goals as goal

pub returns-clause-last : goal.returns-clause-last
returns-clause-last c = value_in-merged

pub returns-clause-ascending : goal.returns-clause-ascending
returns-clause-ascending c = merged_ascends

pub returns-clause-alone : goal.returns-clause-alone
returns-clause-alone c = merged_alone
