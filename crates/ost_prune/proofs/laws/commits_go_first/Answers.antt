use Rattle.ost_prune.proofs.InOrder.{order_kept, order_broken}
use Rattle.ost_prune.proofs.laws.commits_go_first.Goals as goal

pub returns-clause-kept : goal.returns-clause-kept
returns-clause-kept c root keep commit u unused is_one = order_kept root keep commit unused is_one

pub returns-clause-broken : goal.returns-clause-broken
returns-clause-broken c root keep commit other u unused is_one unused_other is_none order = order_broken root keep commit other unused is_one unused_other is_none order
