use Rattle.fl_launch.proofs.Readable.{launch_reads_back}
use Rattle.fl_launch.proofs.laws.launches_read_back.Goals as goal

pub returns : goal.returns
returns c = launch_reads_back
