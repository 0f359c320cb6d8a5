use Rattle.ost_pull.proofs.Pulled.{pulls_on, pulls_work}
use Rattle.ost_pull.proofs.laws.pulls_go_on.Goals as goal

pub returns-clause-goes_on : goal.returns-clause-goes_on
returns-clause-goes_on c root t u v w apart first second = pulls_on root t apart first second

pub returns-clause-work : goal.returns-clause-work
returns-clause-work c root t u w apart works = pulls_work root t u w apart works
