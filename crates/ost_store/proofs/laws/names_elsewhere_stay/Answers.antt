use Rattle.ost_store.proofs.Staying.{staged_stays, grown_stays, placed_stays, removed_stays}
use Rattle.ost_store.proofs.laws.names_elsewhere_stay.Goals as goal

pub returns-clause-staged : goal.returns-clause-staged
returns-clause-staged c = staged_stays

pub returns-clause-grown : goal.returns-clause-grown
returns-clause-grown c = grown_stays

pub returns-clause-placed : goal.returns-clause-placed
returns-clause-placed c = placed_stays

pub returns-clause-removed : goal.returns-clause-removed
returns-clause-removed c = removed_stays
