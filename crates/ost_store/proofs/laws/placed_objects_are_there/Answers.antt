use Rattle.ost_store.proofs.Staying.{placed_object, placed_others, removed_others}
use Rattle.ost_store.proofs.laws.placed_objects_are_there.Goals as goal

pub returns-clause-there : goal.returns-clause-there
returns-clause-there c = placed_object

pub returns-clause-others : goal.returns-clause-others
returns-clause-others c = placed_others

pub returns-clause-removed : goal.returns-clause-removed
returns-clause-removed c = removed_others
