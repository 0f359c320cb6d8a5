use Rattle.bus_proxy.proofs.Cutting.{alike}
use Rattle.bus_proxy.proofs.laws.pieces_dont_matter.Goals as goal

pub returns : goal.returns
returns c = alike
