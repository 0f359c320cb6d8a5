use Rattle.std.specs.Prelude.{codes, option_map}
use Rattle.fp_host.proofs.Looking.{looks_within}
use Rattle.ost_object.specs.Views.{dir_row, tree_view}
use Rattle.fl_export.proofs.Looked.{next_on, if_ok_told}
use Rattle.ost_model.proofs.Stored.{still_stored}
use Rattle.fl_export.proofs.trees.apps_in.Goals as goal

pub returns-clause-unchanged : goal.returns-clause-unchanged
returns-clause-unchanged g c =
    let t = g.met.H.Host.is_tree in
    looks_within c.enter.ensures.unchanged c.read_tree.ensures.unchanged (t c.read_tree.new.host)

pub returns-clause-tells : goal.returns-clause-tells
returns-clause-tells g c have s =
    if_ok_told c.enter.result (λ found is. next_on have (codes "apps") (dir_row c.args.dir.now) (option_map tree_view c.in_ok-tree.tree) (option_map tree_view found) (c.in_ok-tree.ensures.tells have s) is)
    (c.enter.ensures.tells have (still_stored c.read_tree.ensures.unchanged s))
