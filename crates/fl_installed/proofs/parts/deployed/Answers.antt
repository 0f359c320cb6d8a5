use Rattle.std.proofs.Common.{◌∙◌, ap}
use Rattle.fl_installed.specs.Parts.{said_by}
use Rattle.fl_installed.proofs.parts.deployed.Goals as goal

pub returns-clause-tells : goal.returns-clause-tells
returns-clause-tells g c files d =
    c.in_ok-said_by.ensures ∙ ap (said_by c.args.name.now) (c.in_ok-file.ensures.tells files d)
