use Rattle.fl_plan.proofs.Rows.{head_refuses}
use Rattle.fl_plan.proofs.Skips.{own_refusal, only_own_ref}
use Rattle.fl_plan.proofs.laws.plans_refuse.Goals as goal

pub returns-clause-own : goal.returns-clause-own
returns-clause-own c = own_refusal

pub returns-clause-head : goal.returns-clause-head
returns-clause-head c b target refusal = head_refuses b.held b.stored b.state target.remote target.name target.commit refusal

pub returns-clause-absent : goal.returns-clause-absent
returns-clause-absent c = only_own_ref
