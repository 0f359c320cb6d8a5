use Rattle.dep_states.proofs.Pulling.{new_spares, pull_law, pulls_refl, pulls_on}
use Rattle.dep_states.proofs.laws.new_objects_may_come.Goals as goal

pub returns-clause-spares : goal.returns-clause-spares
returns-clause-spares c = λ s v opens. new_spares opens

pub returns-clause-pulls : goal.returns-clause-pulls
returns-clause-pulls c = λ s u w opens pulls. pull_law opens pulls

pub returns-clause-nothing : goal.returns-clause-nothing
returns-clause-nothing c = λ u. pulls_refl

pub returns-clause-one_after_another : goal.returns-clause-one_after_another
returns-clause-one_after_another c = λ u v w first second. pulls_on first second
