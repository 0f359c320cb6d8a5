use Rattle.std.proofs.Common.{subst, IsErrOf, OnOk}
use Rattle.fp_host.specs.Paths.{Elements}
use Rattle.fp_host.specs.Causes.{IsCaused}
use Rattle.fp_host.specs.Frame.{AtEnd}
use Rattle.fp_host.specs.Moments.{Always}
use Rattle.fp_host.specs.declared.host.HostEnd.TheVariants.{Fault}
use Rattle.fp_host.proofs.Ending.{ends_start, ends_to}
use Rattle.fp_small.proofs.Unsynced.{none_same}
use Rattle.ost_checkout.specs.Placing.{Copies, WasCopied, CanCopyObject}
use Rattle.ost_checkout.proofs.Copied.{copies_none}
use Rattle.ost_checkout.proofs.placing.put_object.Goals as goal

pub returns-in_err-object-clause-any_moment : goal.returns-in_err-object-clause-any_moment
returns-in_err-object-clause-any_moment g c = copies_none (g.met.H.Host.is_tree c.args.host.now)

pub returns-in_err-object-clause-unsynced : goal.returns-in_err-object-clause-unsynced
returns-in_err-object-clause-unsynced g c = ends_to (ends_start (g.met.H.Host.is_tree c.args.host.now)) (λ u w same. none_same same)

pub returns-clause-any_moment : goal.returns-clause-any_moment
returns-clause-any_moment g c = subst (λ (p : Elements). Always (Copies p c.args.path.now) (g.H.Host.moments c.args.host.now) (g.H.Host.moments c.copy_object.new.host)) c.in_ok-object.ensures c.copy_object.ensures.any_moment

pub returns-clause-on_success : goal.returns-clause-on_success
returns-clause-on_success g c =
    subst (λ (p : Elements). OnOk c.copy_object.result (AtEnd (WasCopied p c.args.path.now) (g.H.Host.moments c.args.host.now) (g.H.Host.moments c.copy_object.new.host))) c.in_ok-object.ensures c.copy_object.ensures.on_success

pub returns-clause-fault_has_cause : goal.returns-clause-fault_has_cause
returns-clause-fault_has_cause g c =
    subst (λ (p : Elements). IsCaused (IsErrOf c.copy_object.result Fault) (g.H.Host.moments c.args.host.now) (CanCopyObject p c.args.path.now) (g.H.Host.faults c.args.host.now) (g.H.Host.faults c.copy_object.new.host))
    c.in_ok-object.ensures c.copy_object.ensures.fault_has_cause
