use Rattle.fl_plan.proofs.Rows.{runtime_installed, passes_limit}
use Rattle.fl_plan.proofs.laws.runtime_is_installed.Goals as goal

pub returns-clause-planned : goal.returns-clause-planned
returns-clause-planned c b target is = runtime_installed b.held b.stored b.state target.remote target.name target.commit is.comes.head is.comes.is is.runtime is.comes.says is.there

pub returns-clause-limited : goal.returns-clause-limited
returns-clause-limited c b target is = passes_limit b.held b.stored b.state target.remote target.name target.commit is.comes.head is.comes.is is.runtime is.comes.says is.there
