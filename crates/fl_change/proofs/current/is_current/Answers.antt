use Rattle.std.proofs.Common.{false, Ok, refl, sym, ◌∙◌, ap}
use Rattle.std.specs.Option.{option_copied}
use Rattle.fl_change.proofs.Offered.{offered_at}
use Rattle.fl_change.proofs.current.is_current.Goals as goal

pub returns-in-Some-clause-tells : goal.returns-in-Some-clause-tells
returns-in-Some-clause-tells g c held told = offered_at held c.args.row.now _ _ c.is_offered.result (ap option_copied (sym c.in-Some.is) ∙ c.find_remote.ensures) (c.is_offered.ensures.tells held told)

pub returns-in-None-clause-tells : goal.returns-in-None-clause-tells
returns-in-None-clause-tells g c held told = offered_at held c.args.row.now _ _ (Ok false) (ap option_copied (sym c.in-None.is) ∙ c.find_remote.ensures) refl
