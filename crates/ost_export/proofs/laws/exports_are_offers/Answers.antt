use Rattle.ost_export.proofs.Offering.{is_found, same_objects}
use Rattle.ost_export.proofs.laws.exports_are_offers.Goals as goal

pub returns-clause-offered : goal.returns-clause-offered
returns-clause-offered c = is_found

pub returns-clause-objects : goal.returns-clause-objects
returns-clause-objects c = same_objects
