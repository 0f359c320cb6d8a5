use Rattle.fl_gen.proofs.Installs.{installs}
use Rattle.fl_gen.proofs.laws.what_is_installed_is_generated.Goals as goal

pub returns : goal.returns
returns c = installs
