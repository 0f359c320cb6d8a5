use Rattle.fp_small.proofs.ConfigTexts.{written_back}
use Rattle.fp_small.proofs.laws.written_config_reads_back.Goals as goal

pub returns : goal.returns
returns c = written_back
