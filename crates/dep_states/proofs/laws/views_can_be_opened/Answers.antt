use Rattle.dep_states.specs.Deployed.{deployed_disk}
use Rattle.dep_states.proofs.Deployed.{deployed_shows, deployed_sound}
use Rattle.dep_states.proofs.Images.{bare_opens}
use Rattle.dep_states.proofs.Openings.{shown_opens}
use Rattle.dep_states.proofs.laws.views_can_be_opened.Goals as goal

pub returns-clause-bare : goal.returns-clause-bare
returns-clause-bare c = bare_opens

pub returns-clause-deployed : goal.returns-clause-deployed
returns-clause-deployed c = λ v tree settled same. shown_opens v deployed_disk tree settled same deployed_shows deployed_sound
