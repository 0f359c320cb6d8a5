use Rattle.ost_model.proofs.Stores.{objects_are_named, objects_are_no_folders}
use Rattle.ost_model.proofs.laws.stores_hold_what_their_names_say.Goals as goal

pub returns-clause-named : goal.returns-clause-named
returns-clause-named c = objects_are_named

pub returns-clause-no_folders : goal.returns-clause-no_folders
returns-clause-no_folders c = objects_are_no_folders
