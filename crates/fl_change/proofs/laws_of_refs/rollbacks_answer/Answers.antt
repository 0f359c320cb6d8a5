use Rattle.std.proofs.Common.{refl}
use Rattle.fl_change.proofs.laws_of_refs.rollbacks_answer.Goals as goal

pub returns-clause-not_installed : goal.returns-clause-not_installed
returns-clause-not_installed c held x name none = rw none refl

pub returns-clause-no_previous : goal.returns-clause-no_previous
returns-clause-no_previous c held x name row some none = rw (some, none) refl

pub returns-clause-bad_metadata : goal.returns-clause-bad_metadata
returns-clause-bad_metadata c held x name previous refusal goes = rw (goes.deployed, goes.before, goes.says) refl

pub returns-clause-runtime_missing : goal.returns-clause-runtime_missing
returns-clause-runtime_missing c held x name previous runtime is none = rw (is.goes.deployed, is.goes.before, is.goes.says, is.names, none) refl

pub returns-clause-runtime_there : goal.returns-clause-runtime_there
returns-clause-runtime_there c held x name previous runtime is there = rw (is.goes.deployed, is.goes.before, is.goes.says, is.names, there) refl

pub returns-clause-no_runtime : goal.returns-clause-no_runtime
returns-clause-no_runtime c held x name previous is = rw (is.goes.deployed, is.goes.before, is.goes.says, is.names) refl
