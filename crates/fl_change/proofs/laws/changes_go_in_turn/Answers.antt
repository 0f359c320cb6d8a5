use Rattle.std.proofs.Common.{refl}
use Rattle.fl_change.proofs.laws.changes_go_in_turn.Goals as goal

pub returns-clause-none : goal.returns-clause-none
returns-clause-none c held x = refl

pub returns-clause-stays : goal.returns-clause-stays
returns-clause-stays c held x change more is = rw is refl

pub returns-clause-done : goal.returns-clause-done
returns-clause-done c held x change more d next is goes = rw (is, goes) refl

pub returns-clause-refused : goal.returns-clause-refused
returns-clause-refused c held x change more refusal is = rw is refl
