use Rattle.dep_states.proofs.Changes.{after_set, after_drop}
use Rattle.dep_states.proofs.laws.operations_change_one_override.Goals as goal

pub returns-clause-set : goal.returns-clause-set
returns-clause-set c = λ s row time up. after_set s up row time

pub returns-clause-drop : goal.returns-clause-drop
returns-clause-drop c = λ s name time up. after_drop s up name time
