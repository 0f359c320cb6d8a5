use Rattle.std.specs.Prelude.{codes, option_map}
use Rattle.fp_host.proofs.Looking.{looks_within}
use Rattle.ost_object.specs.Views.{tree_view}
use Rattle.fl_export.specs.Exported.{in_export}
use Rattle.fl_export.specs.Texts.{share}
use Rattle.fl_export.proofs.Looked.{look_on, if_ok_told}
use Rattle.ost_model.proofs.Stored.{still_stored}
use Rattle.fl_export.proofs.trees.applications_of.Goals as goal

pub returns-clause-unchanged : goal.returns-clause-unchanged
returns-clause-unchanged g c =
    let t = g.met.H.Host.is_tree in
    looks_within c.enter.ensures.unchanged c.share_of.ensures.unchanged (t c.share_of.new.host)

pub returns-clause-tells : goal.returns-clause-tells
returns-clause-tells g c have s =
    if_ok_told c.enter.result (λ tree is. look_on have c.args.commit.now (codes "applications") (share in_export) (option_map tree_view c.in_ok-share.share) (option_map tree_view tree) (c.in_ok-share.ensures.tells have s) is)
    (c.enter.ensures.tells have (still_stored c.share_of.ensures.unchanged s))
