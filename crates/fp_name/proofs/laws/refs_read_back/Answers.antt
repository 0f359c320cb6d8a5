use Rattle.fp_name.proofs.Refs.{ref_of-ref_text, ref_of-some}
use Rattle.fp_name.proofs.laws.refs_read_back.Goals as goal

pub returns-clause-written : goal.returns-clause-written
returns-clause-written c = ref_of-ref_text

pub returns-clause-read : goal.returns-clause-read
returns-clause-read c = ref_of-some
