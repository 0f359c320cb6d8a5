use Rattle.std.proofs.Common.{refl}
use Rattle.fl_change.proofs.laws_of_refs.uninstalls_answer.Goals as goal

pub returns-clause-not_installed : goal.returns-clause-not_installed
returns-clause-not_installed c held x name none = rw none refl

pub returns-clause-in_use : goal.returns-clause-in_use
returns-clause-in_use c held x name app row some used = rw (some, used) refl

pub returns-clause-done : goal.returns-clause-done
returns-clause-done c held x name row some none = rw (some, none) refl
