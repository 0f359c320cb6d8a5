use Rattle.std.proofs.Common.{inl, inr, sym, rules}
use Rattle.dep_states.proofs.DeployShapes.{no_previous}
use Rattle.dep_states.proofs.deploy_reading.previous_of.Goals as goal
use Rattle.dep_states.proofs.deploy_reading.previous_of.Goals.{in_default-via-then-members-lt2, in_default-via-else-members-lt2+else-members-lt3}

pub returns-in_default : goal.returns-in_default
returns-in_default c = sym (no_previous c.args.members.now (elim c.in_default.branch [
  | in_default-via-then-members-lt2 w ↦ inl (search rules)
  | in_default-via-else-members-lt2+else-members-lt3 w ↦ inr (search rules)
]))
