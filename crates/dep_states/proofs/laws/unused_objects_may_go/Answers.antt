use Rattle.dep_states.proofs.Sparing.{prune_spares}
use Rattle.dep_states.proofs.laws.unused_objects_may_go.Goals as goal

pub returns : goal.returns
returns c = λ v d kind unused. prune_spares d kind unused
