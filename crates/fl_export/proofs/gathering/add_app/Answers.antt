use Rattle.fp_host.proofs.Looking.{looks_within}
use Rattle.fl_export.specs.Exported.{desktops_by, icons_by}
use Rattle.fl_export.proofs.Gather.{then_others}
use Rattle.ost_model.proofs.Stored.{still_stored}
use Rattle.fl_export.proofs.gathering.add_app.Goals as goal

pub returns-clause-unchanged : goal.returns-clause-unchanged
returns-clause-unchanged g c = looks_within c.add_icons.ensures.unchanged c.add_applications.ensures.unchanged (g.met.H.Host.is_tree c.add_applications.new.host)

pub returns-clause-tells : goal.returns-clause-tells
returns-clause-tells g c have s =
    then_others c.add_icons.result c.args.rows.now.items c.add_applications.new.rows.items c.add_icons.new.rows.items (desktops_by have c.args.name.now c.args.commit.now) (icons_by have c.args.name.now c.args.commit.now)
    (c.in_ok-add_applications.ensures.tells have s) (c.add_icons.ensures.tells have (still_stored c.add_applications.ensures.unchanged s))
