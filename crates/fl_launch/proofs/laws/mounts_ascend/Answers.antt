use Rattle.fl_launch.proofs.Lines as lines
use Rattle.fl_launch.proofs.laws.mounts_ascend.Goals as goal

pub returns-clause-ascending : goal.returns-clause-ascending
returns-clause-ascending c = lines.mounts_ascend

pub returns-clause-each : goal.returns-clause-each
returns-clause-each c = lines.mounts_are
