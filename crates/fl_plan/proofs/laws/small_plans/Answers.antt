use Rattle.fl_plan.proofs.Samples.{sample_filled, sample_open, sample_coming, sample_manual, sample_update, sample_install, sample_number}
use Rattle.fl_plan.proofs.laws.small_plans.Goals as goal

pub returns-clause-filled : goal.returns-clause-filled
returns-clause-filled c = sample_filled

pub returns-clause-open_point : goal.returns-clause-open_point
returns-clause-open_point c = sample_open

pub returns-clause-coming : goal.returns-clause-coming
returns-clause-coming c = sample_coming

pub returns-clause-manual : goal.returns-clause-manual
returns-clause-manual c = sample_manual

pub returns-clause-update : goal.returns-clause-update
returns-clause-update c = sample_update

pub returns-clause-install : goal.returns-clause-install
returns-clause-install c = sample_install

pub returns-clause-number : goal.returns-clause-number
returns-clause-number c = sample_number
