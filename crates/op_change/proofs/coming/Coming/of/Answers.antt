use Rattle.op_change.proofs.Passing.{passes, looks_to, looks_starved}
use Rattle.op_change.proofs.coming.Coming.of.Goals as goal

pub returns-in_err-head-clause-looks : goal.returns-in_err-head-clause-looks
returns-in_err-head-clause-looks g c =
    looks_to c.read_head.ensures.looks _ (λ is. passes _ _ _ _ c.in_err-head.was c.from_residual.ensures.1 is) (λ is. passes _ _ _ _ c.in_err-head.was c.from_residual.ensures.1 is)

pub returns-in_err-row-clause-looks : goal.returns-in_err-row-clause-looks
returns-in_err-row-clause-looks g c = looks_starved c.read_head.ensures.looks _ c.from_residual-in_err-row.ensures.1

pub returns-in_err-places-clause-looks : goal.returns-in_err-places-clause-looks
returns-in_err-places-clause-looks g c = looks_starved c.read_head.ensures.looks _ c.from_residual-in_err-places.ensures.1

pub returns-clause-looks : goal.returns-clause-looks
returns-clause-looks g c = looks_to c.read_head.ensures.looks _ (λ is. absurd (cc is)) (λ is. absurd (cc is))
