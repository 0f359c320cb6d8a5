use Rattle.ost_walk.specs.declared.ends.WalkEnd.TheVariants as ends
use Rattle.ost_head.proofs.Brought.{same_end}
use Rattle.ost_head.proofs.copying.copy_file.Goals as goal

pub returns-in_err-copy_pieces-clause-fault_has_cause :
    goal.returns-in_err-copy_pieces-clause-fault_has_cause
returns-in_err-copy_pieces-clause-fault_has_cause g c =
    let cause = c.copy_pieces.ensures.fault_has_cause in
    record { later = cause.later; fault = λ is m at can. cause.fault (same_end _ _ _ ends.HostFault c.in_err-copy_pieces.was c.from_residual.ensures.1 is) m at can }
