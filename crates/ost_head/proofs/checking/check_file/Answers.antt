use Rattle.ost_walk.proofs.Ended.{host_end}
use Rattle.ost_head.proofs.checking.check_file.Goals as goal

pub returns-in_err-got-clause-fault_has_cause : goal.returns-in_err-got-clause-fault_has_cause
returns-in_err-got-clause-fault_has_cause g c =
    let cause = c.stored_digest.ensures.fault_has_cause in
    record { later = cause.later; fault = λ is m at can. cause.fault (host_end _ _ _ c.in_err-got.was c.from_residual-in_err-got.ensures.1 is) m at can }
