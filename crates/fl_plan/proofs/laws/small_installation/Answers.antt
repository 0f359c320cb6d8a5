use Rattle.fl_plan.proofs.Samples.{sample_targets, sample_unused, sample_of_named, sample_of_pinned, sample_of_unused, sample_no_points}
use Rattle.fl_plan.proofs.laws.small_installation.Goals as goal

pub returns-clause-targets : goal.returns-clause-targets
returns-clause-targets c = sample_targets

pub returns-clause-of_application : goal.returns-clause-of_application
returns-clause-of_application c = sample_unused

pub returns-clause-of_named : goal.returns-clause-of_named
returns-clause-of_named c = sample_of_named

pub returns-clause-of_pinned : goal.returns-clause-of_pinned
returns-clause-of_pinned c = sample_of_pinned

pub returns-clause-of_unused : goal.returns-clause-of_unused
returns-clause-of_unused c = sample_of_unused

pub returns-clause-no_points : goal.returns-clause-no_points
returns-clause-no_points c = sample_no_points
