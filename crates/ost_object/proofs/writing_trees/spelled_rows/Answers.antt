use Rattle.ost_object.proofs.Written.{spells_as}
use Rattle.ost_object.proofs.writing_trees.spelled_rows.Goals as goal

pub returns : goal.returns
returns c = spells_as c.spelled.result _ _ _ _ c.in_ok-of.ensures c.in_ok-value.ensures c.spelled.ensures
