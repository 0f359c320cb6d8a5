use Rattle.fl_override.proofs.Reading.{mentions_written}
use Rattle.fl_override.proofs.laws.what_is_read_can_be_written.Goals as goal

pub returns : goal.returns
returns c = mentions_written
