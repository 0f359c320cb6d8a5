use Rattle.fp_host.proofs.Cause.{same_fault}
use Rattle.ost_store.proofs.reading.read_sized.Goals as goal

pub returns-in_err-count-clause-fault_has_cause : goal.returns-in_err-count-clause-fault_has_cause
returns-in_err-count-clause-fault_has_cause g c = record {
  later = c.read_piece.ensures.fault_has_cause.later;
  fault = λ is m at there. c.read_piece.ensures.fault_has_cause.fault (same_fault _ _ _ c.in_err-count.was c.from_residual-in_err-count.ensures.1 is) m at there;
}
