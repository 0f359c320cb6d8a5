use Rattle.fp_keyfile.proofs.Changes.{value_at-with_pair}
use Rattle.fp_keyfile.proofs.laws.set_gives_the_value.Goals as goal

pub returns : goal.returns
returns c = value_at-with_pair
