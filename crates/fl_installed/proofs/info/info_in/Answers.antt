use Rattle.std.proofs.Common.{◌∙◌, ap}
use Rattle.fl_installed.specs.Described.{as_info, by_file}
use Rattle.fl_installed.proofs.info.info_in.Goals as goal

pub returns-clause-tells : goal.returns-clause-tells
returns-clause-tells g c files d =
    c.as_info.ensures ∙ ap as_info (c.in_ok-meta.ensures.tells ∙ ap (by_file c.args.name.now) (c.in_ok-file.ensures.tells files d))
