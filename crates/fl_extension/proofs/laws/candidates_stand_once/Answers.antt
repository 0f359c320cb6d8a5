use Rattle.fl_extension.proofs.Seen.{candidates_distinct, once_distinct, once_among}
use Rattle.fl_extension.proofs.laws.candidates_stand_once.Goals as goal

pub returns-clause-branches : goal.returns-clause-branches
returns-clause-branches c = candidates_distinct

pub returns-clause-distinct : goal.returns-clause-distinct
returns-clause-distinct c = once_distinct

pub returns-clause-each : goal.returns-clause-each
returns-clause-each c = once_among
