use Rattle.std.proofs.Common.{refl}
use Rattle.fl_change.proofs.laws_of_refs.updates_answer.Goals as goal

pub returns-clause-not_installed : goal.returns-clause-not_installed
returns-clause-not_installed c held x name none = rw none refl

pub returns-clause-no_remote : goal.returns-clause-no_remote
returns-clause-no_remote c held x name row some none = rw (some, none) refl

pub returns-clause-refused : goal.returns-clause-refused
returns-clause-refused c held x name from refusal comes is = rw (comes.deployed, comes.there, is) refl

pub returns-clause-planned : goal.returns-clause-planned
returns-clause-planned c held x name from plan comes is = rw (comes.deployed, comes.there, is) refl

pub returns-clause-up_to_date : goal.returns-clause-up_to_date
returns-clause-up_to_date c held x name from comes is = rw (comes.deployed, comes.there, is) refl
