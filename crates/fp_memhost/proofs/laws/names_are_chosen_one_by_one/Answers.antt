use Rattle.fp_memhost.proofs.Stops.{entry_left}
use Rattle.fp_memhost.proofs.laws.names_are_chosen_one_by_one.Goals as goal

pub returns : goal.returns
returns c = entry_left
