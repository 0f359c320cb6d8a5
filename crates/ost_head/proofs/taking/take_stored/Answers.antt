use Rattle.ost_walk.proofs.Ended.{host_end}
use Rattle.ost_head.proofs.taking.take_stored.Goals as goal

pub returns-in_err-bytes-clause-fault_has_cause : goal.returns-in_err-bytes-clause-fault_has_cause
returns-in_err-bytes-clause-fault_has_cause g c =
    let cause = c.read_sized.ensures.fault_has_cause in
    record { later = cause.later; fault = λ is m at can. cause.fault (host_end _ _ _ c.in_err-bytes.was c.from_residual-in_err-bytes.ensures.1 is) m at can }
