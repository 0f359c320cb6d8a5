use Rattle.ost_checkout.proofs.Laid.{outside_name, outside_stop}
use Rattle.ost_checkout.proofs.laws.names_outside_stay.Goals as goal

pub returns-clause-name : goal.returns-clause-name
returns-clause-name c root commit to q u w apart out off = outside_name q apart out off

pub returns-clause-stop : goal.returns-clause-stop
returns-clause-stop c root commit to u w apart out disk left = outside_stop apart out disk left
