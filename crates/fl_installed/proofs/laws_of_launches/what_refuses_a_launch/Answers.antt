use Rattle.fl_installed.proofs.Refusing.{launch_refuses}
use Rattle.fl_installed.proofs.laws_of_launches.what_refuses_a_launch.Goals as goal

pub returns : goal.returns
returns c = launch_refuses
