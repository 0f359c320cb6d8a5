use Rattle.fp_keyfile.proofs.Read.{file_of-text_of}
use Rattle.fp_keyfile.proofs.laws.written_reads_back.Goals as goal

pub returns : goal.returns
returns c = file_of-text_of
