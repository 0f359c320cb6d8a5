use Rattle.fl_installed.proofs.Named.{applications_name}
use Rattle.fl_installed.proofs.laws.applications_name_runtimes.Goals as goal

pub returns : goal.returns
returns c = applications_name
