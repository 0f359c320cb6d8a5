use Rattle.std.proofs.Common.{[]}
use Rattle.fp_host.proofs.Cause.{same_fault}
use Rattle.ost_head.proofs.checking.stored_digest.Goals as goal

pub returns-in_err-hash_pieces-clause-fault_has_cause :
    goal.returns-in_err-hash_pieces-clause-fault_has_cause
returns-in_err-hash_pieces-clause-fault_has_cause g c =
    let cause = c.hash_pieces.ensures.fault_has_cause in
    record { later = cause.later; fault = λ is m at can. cause.fault (same_fault _ _ _ c.in_err-hash_pieces.was c.from_residual-in_err-hash_pieces.ensures.1 is) m at can }

pub returns-clause-tells : goal.returns-clause-tells
returns-clause-tells g c m at bits content is long = c.finish.ensures c.args.mode content ((c.in_ok-hash_pieces.ensures.tells m at bits content is long).more c.args.mode [] c.new-hasher.ensures)

pub returns-clause-fault_has_cause : goal.returns-clause-fault_has_cause
returns-clause-fault_has_cause g c = record { later = c.hash_pieces.ensures.fault_has_cause.later; fault = λ is. absurd (cc is) }
