use Rattle.fl_export.proofs.Samples.{stable_exported, first_decides, runtime_exports_none, absent_exports_none}
use Rattle.fl_export.proofs.laws.a_small_application_is_exported.Goals as goal

pub returns-clause-stable : goal.returns-clause-stable
returns-clause-stable c = stable_exported

pub returns-clause-both : goal.returns-clause-both
returns-clause-both c = first_decides

pub returns-clause-runtime : goal.returns-clause-runtime
returns-clause-runtime c = runtime_exports_none

pub returns-clause-absent : goal.returns-clause-absent
returns-clause-absent c = absent_exports_none
