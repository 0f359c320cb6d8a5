use Rattle.fp_keyfile.proofs.Good.{good-without_pair}
use Rattle.fp_keyfile.proofs.laws.remove_is_good.Goals as goal

pub returns : goal.returns
returns c = good-without_pair
