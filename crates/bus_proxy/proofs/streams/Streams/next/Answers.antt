use Rattle.bus_proxy.proofs.Taking.{gave_frame}
use Rattle.bus_proxy.proofs.streams.Streams.next.Goals as goal

pub returns-in-Client-clause-message : goal.returns-in-Client-clause-message
returns-in-Client-clause-message c = gave_frame c.next.result _ _ _ c.next.ensures

pub returns-in-Bus-clause-message : goal.returns-in-Bus-clause-message
returns-in-Bus-clause-message c = gave_frame c.next-in-Bus.result _ _ _ c.next-in-Bus.ensures
