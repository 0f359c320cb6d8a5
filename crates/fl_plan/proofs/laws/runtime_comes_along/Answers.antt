use Rattle.fl_plan.proofs.Rows.{runtime_comes, runtime_missing, runtime_refused, own_first, second_offers}
use Rattle.fl_plan.proofs.laws.runtime_comes_along.Goals as goal

pub returns-clause-planned : goal.returns-clause-planned
returns-clause-planned c b target runtime both =
    runtime_comes b.held b.stored b.state target.remote target.name target.commit both.comes.head both.comes.is
    runtime.name runtime.remote runtime.commit both.head both.comes.says both.says both.missing both.first both.heads

pub returns-clause-missing : goal.returns-clause-missing
returns-clause-missing c b target runtime points is = runtime_missing b.held b.stored b.state target.remote target.name target.commit is.head is.is runtime points is.says

pub returns-clause-refused : goal.returns-clause-refused
returns-clause-refused c b target runtime points refusal is bad =
    runtime_refused b.held b.stored b.state target.remote target.name target.commit is.head is.is
    runtime points bad.remote bad.commit refusal is.says bad.missing bad.first bad.refused

pub returns-clause-own_first : goal.returns-clause-own_first
returns-clause-own_first c = own_first

pub returns-clause-second : goal.returns-clause-second
returns-clause-second c = second_offers
