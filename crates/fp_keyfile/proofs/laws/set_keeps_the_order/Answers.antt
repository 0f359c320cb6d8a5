use Rattle.fp_keyfile.proofs.Good.{names_of-with_pair}
use Rattle.fp_keyfile.proofs.Changes.{keys_at-with_pair}
use Rattle.fp_keyfile.proofs.laws.set_keeps_the_order.Goals as goal

pub returns : goal.returns
returns c = record { names = names_of-with_pair; keys = keys_at-with_pair }
