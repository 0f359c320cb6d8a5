use Rattle.fl_installed.proofs.LocalPoints.{launch_is_local}
use Rattle.fl_installed.proofs.laws_of_launches.launch_depends_on_metadata.Goals as goal

pub returns : goal.returns
returns c = launch_is_local
