use Rattle.fl_top.proofs.ExportLaws.{exports_listed}
use Rattle.fl_top.proofs.laws.exports_are_listed.Goals as goal

pub returns : goal.returns
returns c = exports_listed
