use Rattle.std.proofs.Common.{IsErrOf}
use Rattle.fp_host.specs.declared.host.HostEnd.TheVariants.{Fault}
use Rattle.fp_host.proofs.Cause.{passed_on}
use Rattle.fp_host.proofs.Ending.{ends_looks}
use Rattle.fp_host.proofs.Looking.{looks_within}
use Rattle.ost_store.specs.Names.{CanList}
use Rattle.ost_fsck.proofs.Reporting.{reported_all}
use Rattle.ost_fsck.proofs.checking.check_store.Goals as goal

pub returns-clause-unchanged : goal.returns-clause-unchanged
returns-clause-unchanged g c = looks_within c.check_all.ensures.unchanged c.names.ensures.unchanged (g.met.H.Host.is_tree c.names.new.host)

pub returns-clause-tells : goal.returns-clause-tells
returns-clause-tells g c =
    let t = g.met.H.Host.is_tree in
    reported_all _ c.check_all.result c.as_slice.ensures (t c.args.host.now) (t c.names.new.host) c.names.ensures.unchanged c.in_ok-paths.ensures.tells c.check_all.ensures.tells

pub returns-clause-fault_has_cause : goal.returns-clause-fault_has_cause
returns-clause-fault_has_cause g c =
    let t = g.met.H.Host.is_tree in
    passed_on (IsErrOf c.check_all.result Fault) (IsErrOf c.check_all.result Fault) (CanList c.args.root.now) (λ v. Unit {0}) _ _ _ (t c.args.host.now)
    c.names.ensures.fault_has_cause.later (ends_looks (t c.args.host.now) c.names.ensures.unchanged) c.check_all.ensures.fault_has_cause (λ is. is) (λ u v tree q can. tt)
