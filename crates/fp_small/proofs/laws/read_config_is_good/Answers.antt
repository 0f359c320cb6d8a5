use Rattle.fp_small.proofs.ConfigReads.{read_good}
use Rattle.fp_small.proofs.laws.read_config_is_good.Goals as goal

pub returns : goal.returns
returns c = read_good
