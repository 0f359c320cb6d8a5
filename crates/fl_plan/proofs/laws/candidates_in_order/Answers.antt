use Rattle.fl_plan.proofs.Rows.{candidate_offers, candidate_refused}
use Rattle.fl_plan.proofs.laws.candidates_in_order.Goals as goal

pub returns-clause-first : goal.returns-clause-first
returns-clause-first c = candidate_offers

pub returns-clause-next : goal.returns-clause-next
returns-clause-next c = candidate_refused
