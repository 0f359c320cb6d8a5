use Rattle.fl_export.proofs.Local.{exported_is_local}
use Rattle.fl_export.proofs.laws.what_is_exported_depends_on_the_objects.Goals as goal

pub returns : goal.returns
returns c = exported_is_local
