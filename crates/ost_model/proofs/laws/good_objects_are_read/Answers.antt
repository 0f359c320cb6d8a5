use Rattle.fp_base.specs.declared.object.ObjKind.TheVariants as kinds
use Rattle.ost_model.specs.Order.{order}
use Rattle.ost_model.proofs.Good.{good_tree, good_commit, walks_none}
use Rattle.ost_model.proofs.laws.good_objects_are_read.Goals as goal

pub returns-clause-trees : goal.returns-clause-trees
returns-clause-trees c = λ have d good. good_tree d (have d kinds.DirTree) good

pub returns-clause-commits : goal.returns-clause-commits
returns-clause-commits c = λ have d good. good_commit d (have d kinds.Commit) good

pub returns-clause-walks : goal.returns-clause-walks
returns-clause-walks c = λ have commit none. walks_none have 0 (order have commit) none
