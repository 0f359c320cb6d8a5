use Rattle.std.proofs.Common.{refl}
use Rattle.fp_name.specs.Hex.{hex}
use Rattle.std.specs.Str.{is_utf8, chars}
use lib.Utf8.{encode}
use Rattle.fl_plan.proofs.Rows.{up_to_date}
use Rattle.dep_states.specs.Samples.{hub}
use Rattle.dep_states.specs.Deployed.{platform, commit}
use Rattle.fl_change.specs.Sample.{holdings, installed}
use Rattle.fl_change.proofs.Installed.{offers, plan, not_refused, is_done, goes}
use Rattle.fl_change.proofs.laws_of_refs.sample_runtime_is_installed.Goals as goal

pub returns-clause-done : goal.returns-clause-done
returns-clause-done c = rw (plan, not_refused, is_done) refl

pub returns-clause-text : goal.returns-clause-text
unfolding hex is_utf8 chars encode
returns-clause-text c = refl

pub returns-clause-state : goal.returns-clause-state
returns-clause-state c = refl

pub returns-clause-again : goal.returns-clause-again
returns-clause-again c = refl

pub returns-clause-idle : goal.returns-clause-idle
returns-clause-idle c = rw (up_to_date holdings installed.have installed.state hub platform commit offers refl) refl

pub returns-clause-uninstalled : goal.returns-clause-uninstalled
returns-clause-uninstalled c = goes

pub returns-clause-gone : goal.returns-clause-gone
returns-clause-gone c = refl

pub returns-clause-not_rolled_back : goal.returns-clause-not_rolled_back
returns-clause-not_rolled_back c = refl
