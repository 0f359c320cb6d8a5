use Rattle.dep_states.proofs.FirstPath.{damaged_gives}
use Rattle.dep_states.proofs.laws.the_first_path_is_by_bytes.Goals as goal

pub returns : goal.returns
returns c = damaged_gives
