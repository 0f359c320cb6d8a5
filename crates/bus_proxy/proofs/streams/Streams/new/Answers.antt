use Rattle.std.proofs.Common.{refl}
use Rattle.bus_proxy.proofs.Taking.{begun}
use Rattle.bus_proxy.proofs.streams.Streams.new.Goals as goal

pub returns : goal.returns
returns c = begun _ c.in_ok-new.ensures.0 c.in_ok-new.ensures.1 c.in_ok-new-2.ensures.0 c.in_ok-new-2.ensures.1 refl
