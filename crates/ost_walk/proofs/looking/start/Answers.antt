use Rattle.ost_object.specs.Views.{tree_view}
use Rattle.ost_walk.specs.declared.found.Here.TheVariants as here
use Rattle.ost_walk.proofs.Followed.{at_start, root_refused, commit_refused}
use Rattle.ost_walk.proofs.Quiet.{looks_on, looks_ok, looks_err, supplied}
use Rattle.ost_walk.proofs.looking.start.Goals as goal

pub returns-in-Ok-open_tree-clause-looks : goal.returns-in-Ok-open_tree-clause-looks
returns-in-Ok-open_tree-clause-looks g c = looks_ok (here.Dir c.in-Ok-open_tree.tree 0) (looks_on (g.met.H.Host.is_tree c.fetch_root.new.host) c.in-Ok.ensures.looks c.in-Ok-open_tree.ensures.looks)

pub returns-in-Ok-open_tree-clause-tells : goal.returns-in-Ok-open_tree-clause-tells
returns-in-Ok-open_tree-clause-tells g c have s =
    at_start have c.args.commit.now c.in-Ok.root (c.in-Ok.ensures.tells have s) (tree_view c.in-Ok-open_tree.tree) (c.in-Ok-open_tree.ensures.tells have (supplied c.in-Ok.ensures.looks s))

pub returns-in-Err-open_tree-clause-looks : goal.returns-in-Err-open_tree-clause-looks
returns-in-Err-open_tree-clause-looks g c = looks_err (looks_on (g.met.H.Host.is_tree c.fetch_root.new.host) c.in-Ok.ensures.looks c.in-Err-open_tree.ensures.looks)

pub returns-in-Err-open_tree-clause-tells : goal.returns-in-Err-open_tree-clause-tells
returns-in-Err-open_tree-clause-tells g c have s =
    root_refused have c.args.commit.now c.in-Ok.root (c.in-Ok.ensures.tells have s) c.in-Err-open_tree.end (c.in-Err-open_tree.ensures.tells have (supplied c.in-Ok.ensures.looks s))

pub returns-in-Err-clause-looks : goal.returns-in-Err-clause-looks
returns-in-Err-clause-looks g c = looks_err c.in-Err.ensures.looks

pub returns-in-Err-clause-tells : goal.returns-in-Err-clause-tells
returns-in-Err-clause-tells g c have s = commit_refused have c.args.commit.now c.in-Err.end (c.in-Err.ensures.tells have s)
