use Rattle.bus_policy.proofs.Replies.{rising_lose_nothing, others_pass}
use Rattle.bus_policy.proofs.laws.rising_serials_lose_nothing.Goals as goal

pub returns-clause-rising : goal.returns-clause-rising
returns-clause-rising c = rising_lose_nothing

pub returns-clause-others : goal.returns-clause-others
returns-clause-others c = others_pass
