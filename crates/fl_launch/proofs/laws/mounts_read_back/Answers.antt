use Rattle.fl_launch.proofs.Mounted.{app_reads_back, runtime_reads_back}
use Rattle.fl_launch.proofs.laws.mounts_read_back.Goals as goal

pub returns-clause-app : goal.returns-clause-app
returns-clause-app c = app_reads_back

pub returns-clause-runtime : goal.returns-clause-runtime
returns-clause-runtime c = runtime_reads_back
