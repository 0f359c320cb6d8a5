use Rattle.fl_installed.proofs.Standing.{standing_is_read, standing_is_stored}
use Rattle.fl_installed.proofs.laws.metadata_is_what_stands.Goals as goal

pub returns-clause-read : goal.returns-clause-read
returns-clause-read c = standing_is_read

pub returns-clause-stored : goal.returns-clause-stored
returns-clause-stored c = standing_is_stored
