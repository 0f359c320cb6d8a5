use Rattle.std.proofs.Common.{◌≡◌, Err, ap}
use Rattle.ost_walk.specs.declared.ends.WalkEnd.{WalkEnd}
use Rattle.ost_walk.specs.declared.ends.WalkEnd.TheVariants as walks
use Rattle.ost_head.proofs.taking.hash_stored.Goals as goal

pub returns-in-Err-clause-fault_has_cause : goal.returns-in-Err-clause-fault_has_cause
returns-in-Err-clause-fault_has_cause g c =
    let cause = c.in-Err.ensures.fault_has_cause in
    record { later = cause.later; fault = λ is m at can. cause.fault (ap (λ (e : WalkEnd). Err e) (cc is)) m at can }
