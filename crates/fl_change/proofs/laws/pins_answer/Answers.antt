use Rattle.std.proofs.Common.{refl, length}
use Rattle.std.proofs.lemmas.Bool.{le-leb, lt-leb}
use Rattle.fp_small.specs.declared.limits.TheConstants.{MOST_PINS}
use Rattle.fl_change.proofs.laws.pins_answer.Goals as goal

pub returns-clause-exists : goal.returns-clause-exists
returns-clause-exists c held x pin has = rw has refl

pub returns-clause-limit : goal.returns-clause-limit
returns-clause-limit c held x pin not many = rw (not, le-leb MOST_PINS (length x.state.pins) many) refl

pub returns-clause-pins : goal.returns-clause-pins
returns-clause-pins c held x pin not few = rw (not, lt-leb MOST_PINS (length x.state.pins) few) refl

pub returns-clause-absent : goal.returns-clause-absent
returns-clause-absent c held x pin not = rw not refl

pub returns-clause-unpins : goal.returns-clause-unpins
returns-clause-unpins c held x pin has = rw has refl
