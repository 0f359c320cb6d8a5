use Rattle.ost_store.specs.Reads.{HasFile}
use Rattle.ost_head.proofs.Stored.{piece_caused}
use Rattle.ost_head.proofs.storing.read_file.Goals as goal

pub returns-in-Err-clause-fault_has_cause : goal.returns-in-Err-clause-fault_has_cause
returns-in-Err-clause-fault_has_cause g c = piece_caused _ _ (HasFile c.args.root.now c.args.digest.now) c.in-Err.end c.from.result c.from.ensures c.in-Err.ensures.fault_has_cause
