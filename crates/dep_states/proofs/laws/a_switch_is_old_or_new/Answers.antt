use Rattle.dep_states.proofs.Switching.{switch_law}
use Rattle.dep_states.proofs.laws.a_switch_is_old_or_new.Goals as goal

pub returns : goal.returns
returns c = λ u w s t name row rest good with_ follows staged. switch_law rest good with_ follows staged
