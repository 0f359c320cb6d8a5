use Rattle.gv_value.specs.Basics.{form_of}
use Rattle.gv_value.proofs.FitSteps.{held_fits}
use Rattle.gv_value.proofs.fitting.content_fits.Goals as goal

pub returns-in_default : goal.returns-in_default
returns-in_default c = held_fits (form_of c.args.of) c.args.content c.requires c.in_default.not-Text
