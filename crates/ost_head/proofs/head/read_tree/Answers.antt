use Rattle.ost_object.specs.Views.{commit_view, tree_view}
use Rattle.ost_walk.proofs.Quiet.{looks_ok, looks_err, looks_on, supplied}
use Rattle.ost_head.proofs.Headed.{tree_off, meta_off, meta_on}
use Rattle.ost_head.proofs.head.read_tree.Goals as goal

pub returns-in-Ok-find_meta-clause-looks : goal.returns-in-Ok-find_meta-clause-looks
returns-in-Ok-find_meta-clause-looks g c = looks_ok c.in-Ok.tree (looks_on (g.met.H.Host.is_tree c.find_tree.new.host) c.in-Ok.ensures.looks c.in-Ok-find_meta.ensures.looks)

pub returns-in-Ok-find_meta-clause-tells : goal.returns-in-Ok-find_meta-clause-tells
returns-in-Ok-find_meta-clause-tells g c have s name commit since = meta_on have name commit since (commit_view c.args.commit.now) (tree_view c.in-Ok.tree) (c.in-Ok.ensures.tells have s) (c.in-Ok-find_meta.ensures.tells have (supplied c.in-Ok.ensures.looks s))

pub returns-in-Err-find_meta-clause-looks : goal.returns-in-Err-find_meta-clause-looks
returns-in-Err-find_meta-clause-looks g c = looks_err (looks_on (g.met.H.Host.is_tree c.find_tree.new.host) c.in-Ok.ensures.looks c.in-Err-find_meta.ensures.looks)

pub returns-in-Err-find_meta-clause-tells : goal.returns-in-Err-find_meta-clause-tells
returns-in-Err-find_meta-clause-tells g c have s name commit since =
    meta_off have name commit since (commit_view c.args.commit.now) (tree_view c.in-Ok.tree) (c.in-Ok.ensures.tells have s) c.in-Err-find_meta.end (c.in-Err-find_meta.ensures.tells have (supplied c.in-Ok.ensures.looks s))

pub returns-in-Err-clause-tells : goal.returns-in-Err-clause-tells
returns-in-Err-clause-tells g c have s name commit since = tree_off have name commit since (commit_view c.args.commit.now) c.in-Err.end (c.in-Err.ensures.tells have s)
