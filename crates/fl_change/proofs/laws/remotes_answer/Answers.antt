use Rattle.std.proofs.Common.{refl, length}
use Rattle.std.proofs.lemmas.Bool.{le-leb, lt-leb}
use Rattle.fp_small.specs.declared.limits.TheConstants.{MOST_REMOTES}
use Rattle.fl_change.proofs.laws.remotes_answer.Goals as goal

pub returns-clause-exists : goal.returns-clause-exists
returns-clause-exists c held x row has = rw has refl

pub returns-clause-limit : goal.returns-clause-limit
returns-clause-limit c held x row not many = rw (not, le-leb MOST_REMOTES (length x.state.remotes) many) refl

pub returns-clause-adds : goal.returns-clause-adds
returns-clause-adds c held x row not few = rw (not, lt-leb MOST_REMOTES (length x.state.remotes) few) refl

pub returns-clause-absent : goal.returns-clause-absent
returns-clause-absent c held x row not = rw not refl

pub returns-clause-modifies : goal.returns-clause-modifies
returns-clause-modifies c held x row has = rw has refl
