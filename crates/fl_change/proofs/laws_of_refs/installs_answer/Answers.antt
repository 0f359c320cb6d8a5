use Rattle.std.proofs.Common.{refl}
use Rattle.fl_change.proofs.laws_of_refs.installs_answer.Goals as goal

pub returns-clause-no_remote : goal.returns-clause-no_remote
returns-clause-no_remote c held x remote name none = rw none refl

pub returns-clause-installed : goal.returns-clause-installed
returns-clause-installed c held x remote name from row some there = rw (some, there) refl

pub returns-clause-refused : goal.returns-clause-refused
returns-clause-refused c held x remote name from refusal may is = rw (may.there, may.absent, is) refl

pub returns-clause-planned : goal.returns-clause-planned
returns-clause-planned c held x remote name from plan may is = rw (may.there, may.absent, is) refl
