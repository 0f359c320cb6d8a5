use Rattle.ost_export.proofs.Spared.{bare_can, absent_fit}
use Rattle.ost_export.proofs.laws.exports_can_be_done.Goals as goal

pub returns-clause-bare : goal.returns-clause-bare
returns-clause-bare c = bare_can

pub returns-clause-fit : goal.returns-clause-fit
returns-clause-fit c = absent_fit
