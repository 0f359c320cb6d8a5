use Rattle.std.proofs.Common.{sym, ◌∙◌, ap}
use Rattle.fl_installed.specs.Users.{is_name}
use Rattle.fl_installed.specs.Files.{metadata_in}
use Rattle.fl_installed.proofs.Named.{none_named}
use Rattle.fl_installed.proofs.users.names_it.Goals as goal

pub returns-then-not-is_app-clause-tells : goal.returns-then-not-is_app-clause-tells
returns-then-not-is_app-clause-tells g c have s =
    sym (ap (is_name c.args.runtime.now) (none_named c.args.row.now.name (metadata_in have c.args.row.now.commit) (sym c.is_app.ensures ∙ c.if-not-is_app.true)))
