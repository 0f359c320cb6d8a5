use Rattle.ost_walk.proofs.Quiet.{stored}
use Rattle.fl_installed.proofs.files.look_there.Goals as goal

pub returns-clause-tells : goal.returns-clause-tells
returns-clause-tells g c have s = c.look.ensures.tells have (stored c.requires s)
