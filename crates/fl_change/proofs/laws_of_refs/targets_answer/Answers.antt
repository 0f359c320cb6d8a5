use Rattle.std.proofs.Common.{refl}
use Rattle.fp_small.specs.declared.refusal.Refusal.TheVariants as refusals
use Rattle.fl_plan.proofs.Skips.{own_refusal}
use Rattle.fl_change.proofs.Passed.{is_no_offer-alone}
use Rattle.fl_change.proofs.laws_of_refs.targets_answer.Goals as goal

pub returns-clause-remote_gone : goal.returns-clause-remote_gone
returns-clause-remote_gone c held x name row some none = rw (some, none) refl

pub returns-clause-not_offered : goal.returns-clause-not_offered
returns-clause-not_offered c held x name from remote missed comes is = rw (comes.deployed, comes.there, own_refusal held x.have x.state from name (refusals.NoSuchRef remote missed) is) refl

pub returns-clause-wrong_mode : goal.returns-clause-wrong_mode
returns-clause-wrong_mode c held x name from remote mode comes is = rw (comes.deployed, comes.there, own_refusal held x.have x.state from name (refusals.WrongMode remote mode) is) refl

pub returns-clause-refused : goal.returns-clause-refused
returns-clause-refused c held x name from refusal comes is not =
    rw (comes.deployed, comes.there, is, is_no_offer-alone refusal (λ remote missed same. not (remote, missed, same))) refl

pub returns-clause-planned : goal.returns-clause-planned
returns-clause-planned c held x name from plan comes is = rw (comes.deployed, comes.there, is) refl
