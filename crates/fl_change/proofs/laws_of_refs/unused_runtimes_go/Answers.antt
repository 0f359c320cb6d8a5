use Rattle.std.proofs.Common.{refl}
use Rattle.fl_change.proofs.laws_of_refs.unused_runtimes_go.Goals as goal

pub returns-clause-begins : goal.returns-clause-begins
returns-clause-begins c held x = refl

pub returns-clause-none : goal.returns-clause-none
returns-clause-none c held x = refl

pub returns-clause-taken : goal.returns-clause-taken
returns-clause-taken c held x name more row some = rw some refl
