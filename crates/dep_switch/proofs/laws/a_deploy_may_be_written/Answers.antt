use Rattle.dep_switch.proofs.Sparing.{deploy_spares}
use Rattle.dep_switch.proofs.laws.a_deploy_may_be_written.Goals as goal

pub returns : goal.returns
returns c = λ s v name commit digest opens off. deploy_spares name commit digest opens off
