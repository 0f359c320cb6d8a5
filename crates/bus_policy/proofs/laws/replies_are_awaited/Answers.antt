use Rattle.bus_policy.proofs.Replies.{replies_awaited}
use Rattle.bus_policy.proofs.Refusing.{refusals_answer}
use Rattle.bus_policy.proofs.laws.replies_are_awaited.Goals as goal

pub returns-clause-replies : goal.returns-clause-replies
returns-clause-replies c = replies_awaited

pub returns-clause-refusals : goal.returns-clause-refusals
returns-clause-refusals c = refusals_answer
