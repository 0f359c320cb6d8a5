use Rattle.fl_extension.proofs.Seen.{directory_key}
use Rattle.fl_extension.proofs.laws.directories_are_keys.Goals as goal

pub returns-clause-key : goal.returns-clause-key
returns-clause-key c = directory_key
