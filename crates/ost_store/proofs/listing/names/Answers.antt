use Rattle.std.proofs.Common.{subst}
use Rattle.fp_host.specs.Paths.{Elements}
use Rattle.fp_host.proofs.Cause.{same_fault}
use Rattle.fp_host.proofs.Ending.{ends_to}
use Rattle.fp_small.specs.Clear.{Reaches}
use Rattle.ost_store.specs.Walks.{AreLeavesBelow}
use Rattle.ost_store.proofs.Levels.{within_reach}
use Rattle.ost_store.proofs.Sorted.{lists_names}
use Rattle.ost_store.proofs.listing.names.Goals as goal

pub returns-clause-tells : goal.returns-clause-tells
returns-clause-tells g c =
    let root = c.args.root.now in
    ends_to c.in_ok-found.ensures.tells (λ u w leaves.
    lists_names root c.in_ok-found.found.items c.in_ok-in_order.field-0
    (subst (λ (p : Elements). AreLeavesBelow p u c.in_ok-found.found.items) c.in_ok-objects.ensures leaves) c.in_ok-in_order.ensures)

pub returns-in_err-found-clause-fault_has_cause : goal.returns-in_err-found-clause-fault_has_cause
returns-in_err-found-clause-fault_has_cause g c =
    let told = c.leaves_below.ensures.fault_has_cause in
    record {
      later = told.later;
      fault = λ is m at can. told.fault (same_fault _ _ _ c.in_err-found.was c.from_residual-in_err-found.ensures.1 is) m at (within_reach c.args.root.now c.in_ok-objects.objects c.in_ok-objects.ensures can);
    }

pub returns-clause-reach : goal.returns-clause-reach
returns-clause-reach g c = ends_to c.in_ok-found.ensures.reach (λ u w r. subst (λ (p : Elements). Reaches p 127 u) c.in_ok-objects.ensures r)
