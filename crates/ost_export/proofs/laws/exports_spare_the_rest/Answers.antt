use Rattle.ost_export.proofs.Spared.{other_ref, other_object, elsewhere}
use Rattle.ost_export.proofs.laws.exports_spare_the_rest.Goals as goal

pub returns-clause-refs : goal.returns-clause-refs
returns-clause-refs c have root r commit place u w outer other exports = other_ref outer place other exports

pub returns-clause-objects : goal.returns-clause-objects
returns-clause-objects c have root r commit d kind u w outer there exports = other_object outer d kind there exports

pub returns-clause-elsewhere : goal.returns-clause-elsewhere
returns-clause-elsewhere c have root q r commit u w off up no_tmp no_repo exports = elsewhere q off up no_tmp no_repo exports
