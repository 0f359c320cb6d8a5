use Rattle.bus_proxy.proofs.Getting.{client_gets}
use Rattle.bus_proxy.proofs.laws.what_the_client_gets.Goals as goal

pub returns : goal.returns
returns c = client_gets
