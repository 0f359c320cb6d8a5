use Rattle.fp_name.proofs.HexTexts.{unhex-hex, unhex-some}
use Rattle.fp_name.proofs.laws.digests_read_back.Goals as goal

pub returns-clause-written : goal.returns-clause-written
returns-clause-written c = unhex-hex

pub returns-clause-read : goal.returns-clause-read
returns-clause-read c = unhex-some
