use Rattle.bus_proxy.proofs.Naming.{unique_len}
use Rattle.bus_proxy.proofs.proxy.Filter.with_hasher.Goals as goal

pub new-requires-2 : goal.new-requires-2
new-requires-2 g c = record { client = λ t is. unique_len t.now (c.requires.client t is) }
