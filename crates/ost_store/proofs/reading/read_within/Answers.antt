use Rattle.std.proofs.Common.{IsErrOf}
use Rattle.fp_host.specs.declared.host.HostEnd.TheVariants.{Fault}
use Rattle.fp_host.proofs.Cause.{same_fault}
use Rattle.fp_host.proofs.Looking.{looks_within}
use Rattle.ost_store.proofs.Contents.{file_caused}
use Rattle.ost_store.proofs.reading.read_within.Goals as goal

pub returns-in_err-bytes-clause-unchanged : goal.returns-in_err-bytes-clause-unchanged
returns-in_err-bytes-clause-unchanged g c = looks_within c.read_sized.ensures.unchanged c.get.ensures.unchanged (g.met.H.Host.is_tree c.get.new.host)

pub returns-in_err-bytes-clause-fault_has_cause : goal.returns-in_err-bytes-clause-fault_has_cause
returns-in_err-bytes-clause-fault_has_cause g c =
    let counted = file_caused c.args.root.now c.args.digest.now _ (IsErrOf c.read_sized.result Fault) _ _ _ c.in_ok-size.field-0 c.in-File.mode c.in-File.size (g.met.H.Host.is_tree c.args.host.now) c.get.ensures.fault_has_cause.later
    c.get.ensures.unchanged c.in_ok-size.ensures.tells c.in-File.is c.read_sized.ensures.fault_has_cause in
    record {
      later = counted.later;
      fault = λ is m at there. counted.fault (same_fault _ _ _ c.in_err-bytes.was c.from_residual-in_err-bytes.ensures.1 is) m at there;
    }

pub returns-clause-unchanged : goal.returns-clause-unchanged
returns-clause-unchanged g c = looks_within c.read_sized.ensures.unchanged c.get.ensures.unchanged (g.met.H.Host.is_tree c.get.new.host)
