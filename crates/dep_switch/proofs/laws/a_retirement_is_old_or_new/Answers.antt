use Rattle.dep_switch.proofs.Retires.{retire_law}
use Rattle.dep_switch.proofs.laws.a_retirement_is_old_or_new.Goals as goal

pub returns : goal.returns
returns c = λ u w s t name good with_ follows opens. retire_law good with_ follows opens
