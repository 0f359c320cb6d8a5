use Rattle.std.specs.Prelude.{option_map}
use Rattle.fp_host.proofs.Looking.{looks_within}
use Rattle.ost_object.specs.Views.{tree_view}
use Rattle.fl_export.proofs.Looked.{root_found, if_ok_told}
use Rattle.ost_model.proofs.Stored.{still_stored}
use Rattle.fl_export.proofs.trees.root_of.Goals as goal

pub returns-clause-tells : goal.returns-clause-tells
returns-clause-tells g c have s = if_ok_told c.tree_there.result (λ tree is. root_found have c.args.commit.now c.in_ok-root.root (option_map tree_view tree) (c.in_ok-root.ensures.tells have s) is) (c.tree_there.ensures.tells have (still_stored c.read_root.ensures.unchanged s))

pub returns-clause-unchanged : goal.returns-clause-unchanged
returns-clause-unchanged g c = looks_within c.tree_there.ensures.unchanged c.read_root.ensures.unchanged (g.met.H.Host.is_tree c.read_root.new.host)
