use Rattle.ost_model.proofs.Looked.{reached, file_reached, no_fault_on_path}
use Rattle.ost_model.proofs.laws.what_is_found_is_reached.Goals as goal

pub returns-clause-dirs : goal.returns-clause-dirs
returns-clause-dirs c = reached

pub returns-clause-files : goal.returns-clause-files
returns-clause-files c = file_reached

pub returns-clause-paths : goal.returns-clause-paths
returns-clause-paths c = no_fault_on_path
