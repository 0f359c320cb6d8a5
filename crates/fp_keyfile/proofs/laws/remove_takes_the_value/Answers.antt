use Rattle.fp_keyfile.proofs.Changes.{value_at-without_pair}
use Rattle.fp_keyfile.proofs.laws.remove_takes_the_value.Goals as goal

pub returns : goal.returns
returns c = λ file name key n k good. value_at-without_pair file name key n k good
