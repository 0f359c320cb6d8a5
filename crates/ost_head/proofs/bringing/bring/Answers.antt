use Rattle.ost_head.proofs.Brought.{always_comes}
use Rattle.ost_head.proofs.bringing.bring.Goals as goal

pub returns-in-Ok-Link-clause-any_moment : goal.returns-in-Ok-Link-clause-any_moment
returns-in-Ok-Link-clause-any_moment g c = always_comes (g.met.H.Host.is_tree c.args.host.now) c.bring_link.ensures.any_moment
