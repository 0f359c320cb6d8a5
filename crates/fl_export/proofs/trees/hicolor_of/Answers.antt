use Rattle.std.proofs.Common.{◌∷◌}
use Rattle.std.specs.Prelude.{codes, option_map}
use Rattle.fp_host.proofs.Looking.{looks_within}
use Rattle.ost_object.specs.Views.{tree_view}
use Rattle.fl_export.specs.Exported.{in_export}
use Rattle.fl_export.specs.Texts.{share}
use Rattle.fl_export.proofs.Looked.{look_on, if_ok_told}
use Rattle.ost_model.proofs.Stored.{still_stored}
use Rattle.fl_export.proofs.trees.hicolor_of.Goals as goal

pub returns-in_err-icons-clause-unchanged : goal.returns-in_err-icons-clause-unchanged
returns-in_err-icons-clause-unchanged g c =
    let t = g.met.H.Host.is_tree in
    looks_within c.enter.ensures.unchanged c.share_of.ensures.unchanged (t c.share_of.new.host)

pub returns-clause-unchanged : goal.returns-clause-unchanged
returns-clause-unchanged g c =
    let t = g.met.H.Host.is_tree in
    looks_within c.enter-2.ensures.unchanged (looks_within c.enter.ensures.unchanged c.share_of.ensures.unchanged (t c.share_of.new.host)) (t c.enter.new.host)

pub returns-clause-tells : goal.returns-clause-tells
returns-clause-tells g c have s =
    let next = still_stored c.share_of.ensures.unchanged s in
    let found = look_on have c.args.commit.now (codes "icons") (share in_export) (option_map tree_view c.in_ok-share.share) (option_map tree_view c.in_ok-icons.icons) (c.in_ok-share.ensures.tells have s) (c.in_ok-icons.ensures.tells have next) in
    if_ok_told c.enter-2.result (λ tree is. look_on have c.args.commit.now (codes "hicolor") (codes "icons" ∷ share in_export) (option_map tree_view c.in_ok-icons.icons) (option_map tree_view tree) found is)
    (c.enter-2.ensures.tells have (still_stored c.enter.ensures.unchanged next))
