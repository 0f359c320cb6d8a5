use Rattle.std.proofs.Common.{◌∙◌}
use Rattle.ost_object.specs.Views.{commit_view, tree_view}
use Rattle.ost_walk.proofs.Quiet.{looks_ok, looks_err, looks_on, supplied}
use Rattle.ost_head.proofs.Headed.{commit_off, commit_on, later_off}
use Rattle.ost_head.proofs.head.read_root.Goals as goal

pub returns-in-Ok-read_tree-clause-looks : goal.returns-in-Ok-read_tree-clause-looks
returns-in-Ok-read_tree-clause-looks g c = looks_ok _ (looks_on (g.met.H.Host.is_tree c.find_commit.new.host) c.in-Ok.ensures.looks c.in-Ok-read_tree.ensures.looks)

pub returns-in-Ok-read_tree-clause-tells : goal.returns-in-Ok-read_tree-clause-tells
returns-in-Ok-read_tree-clause-tells g c have s name since =
    commit_on have name c.args.commit.now since (commit_view c.in-Ok.read) (c.in-Ok.ensures.tells have s) ∙ c.in-Ok-read_tree.ensures.tells have (supplied c.in-Ok.ensures.looks s) name c.args.commit.now since

pub returns-in-Err-read_tree-clause-looks : goal.returns-in-Err-read_tree-clause-looks
returns-in-Err-read_tree-clause-looks g c = looks_err (looks_on (g.met.H.Host.is_tree c.find_commit.new.host) c.in-Ok.ensures.looks c.in-Err-read_tree.ensures.looks)

pub returns-in-Err-read_tree-clause-tells : goal.returns-in-Err-read_tree-clause-tells
returns-in-Err-read_tree-clause-tells g c have s name since =
    later_off have name c.args.commit.now since (commit_view c.in-Ok.read) c.in-Err-read_tree.end (c.in-Ok.ensures.tells have s) (c.in-Err-read_tree.ensures.tells have (supplied c.in-Ok.ensures.looks s) name c.args.commit.now since)

pub returns-in-Err-clause-tells : goal.returns-in-Err-clause-tells
returns-in-Err-clause-tells g c have s name since = commit_off have name c.args.commit.now since c.in-Err.end (c.in-Err.ensures.tells have s)
