use Rattle.ost_refs.proofs.Files.{written, read}
use Rattle.ost_refs.proofs.laws.ref_files_read_back.Goals as goal

pub returns-clause-written : goal.returns-clause-written
returns-clause-written c = written

pub returns-clause-read : goal.returns-clause-read
returns-clause-read c = read
