use Rattle.fl_samples.proofs.WholeExports.{rows_are, whole_placed}
use Rattle.fl_samples.proofs.exporting.its_exports_stand.Goals as goal

pub returns-clause-exported : goal.returns-clause-exported
returns-clause-exported c = rows_are

pub returns-clause-stand : goal.returns-clause-stand
returns-clause-stand c = whole_placed
