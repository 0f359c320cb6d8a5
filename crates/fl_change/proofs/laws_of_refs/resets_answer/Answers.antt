use Rattle.std.proofs.Common.{refl}
use Rattle.fl_change.proofs.laws_of_refs.resets_answer.Goals as goal

pub returns-clause-none : goal.returns-clause-none
returns-clause-none c held x name none = rw none refl

pub returns-clause-done : goal.returns-clause-done
returns-clause-done c held x name row some = rw some refl
