use Rattle.std.proofs.Common.{refl}
use Rattle.std.specs.Str.{is_utf8, chars}
use lib.Utf8.{encode}
use Rattle.fp_name.specs.Hex.{hex}
use Rattle.fl_change.proofs.Installed.{update_plan, update_not_refused, update_is_done, older_plan}
use Rattle.fl_change.proofs.laws_of_refs.sample_runtime_is_updated.Goals as goal

pub returns-clause-done : goal.returns-clause-done
returns-clause-done c = rw (update_plan, update_not_refused, update_is_done) refl

pub returns-clause-done_of_all : goal.returns-clause-done_of_all
returns-clause-done_of_all c = rw (update_plan, update_not_refused, update_is_done) refl

pub returns-clause-text : goal.returns-clause-text
unfolding hex is_utf8 chars encode
returns-clause-text c = refl

pub returns-clause-state : goal.returns-clause-state
returns-clause-state c = refl

pub returns-clause-older : goal.returns-clause-older
returns-clause-older c = rw older_plan refl

pub returns-clause-older_of_all : goal.returns-clause-older_of_all
returns-clause-older_of_all c = rw older_plan refl
