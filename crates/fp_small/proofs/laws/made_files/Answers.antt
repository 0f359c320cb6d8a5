use Rattle.fp_small.proofs.Bare.{file_made, file_ready}
use Rattle.fp_small.proofs.laws.made_files.Goals as goal

pub returns-clause-made : goal.returns-clause-made
returns-clause-made c = file_made

pub returns-clause-ready : goal.returns-clause-ready
returns-clause-ready c = file_ready
