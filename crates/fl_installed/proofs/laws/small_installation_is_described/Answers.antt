use Rattle.fl_installed.proofs.Samples.{info_told, info_absent, info_of_kind}
use Rattle.fl_installed.proofs.laws.small_installation_is_described.Goals as goal

pub returns-clause-info : goal.returns-clause-info
returns-clause-info c = info_told

pub returns-clause-absent : goal.returns-clause-absent
returns-clause-absent c = info_absent

pub returns-clause-kind : goal.returns-clause-kind
returns-clause-kind c = info_of_kind
