use Rattle.fl_top.proofs.Stored.{files_are_stored, known_is_stored, launch_is_stored}
use Rattle.fl_top.proofs.laws.deployed_files_are_stored.Goals as goal

pub returns-clause-files : goal.returns-clause-files
returns-clause-files c = files_are_stored

pub returns-clause-known : goal.returns-clause-known
returns-clause-known c = known_is_stored

pub returns-clause-launch : goal.returns-clause-launch
returns-clause-launch c = launch_is_stored
