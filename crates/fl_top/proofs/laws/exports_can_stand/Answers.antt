use Rattle.fl_top.proofs.ExportLaws.{bare_in_step, placed_are, stale_are_not}
use Rattle.fl_top.proofs.laws.exports_can_stand.Goals as goal

pub returns-clause-bare : goal.returns-clause-bare
returns-clause-bare c = bare_in_step

pub returns-clause-placed : goal.returns-clause-placed
returns-clause-placed c = placed_are

pub returns-clause-stale : goal.returns-clause-stale
returns-clause-stale c = stale_are_not
