use Rattle.std.proofs.Common.{inl, inr, rules}
use Rattle.dep_states.proofs.DeployShapes.{no_deploy}
use Rattle.dep_states.proofs.deploy_reading.data_of.Goals as goal
use Rattle.dep_states.proofs.deploy_reading.data_of.Goals.{in_default-via-then-members-lt4, in_default-via-else-members-lt4+else-members-lt5}

pub returns-in_default : goal.returns-in_default
returns-in_default c = no_deploy c.args.members.now (elim c.in_default.branch [
  | in_default-via-then-members-lt4 w ↦ inl (search rules)
  | in_default-via-else-members-lt4+else-members-lt5 w ↦ inr (search rules)
])
