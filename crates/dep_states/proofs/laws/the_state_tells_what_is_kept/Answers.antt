use Rattle.dep_states.proofs.Sparing.{kept_of_state, state_of_kept}
use Rattle.dep_states.proofs.laws.the_state_tells_what_is_kept.Goals as goal

pub returns : goal.returns
returns c = λ disk s name commit good shown. (λ kept. kept_of_state shown kept, λ kept. state_of_kept good shown kept)
