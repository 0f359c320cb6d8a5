use Rattle.std.proofs.Common.{None, refl}
use Rattle.std.specs.Prelude.{Some, codes}
use Rattle.ost_model.specs.Look.{entry_in}
use Rattle.ost_object.specs.Views.{tree_view}
use Rattle.ost_head.proofs.Looking.{looks_none}
use Rattle.ost_head.proofs.Headed.{entry_file, entry_none}
use Rattle.ost_head.proofs.head.head_below.Goals as goal

pub returns-in-Some-clause-tells : goal.returns-in-Some-clause-tells
returns-in-Some-clause-tells g c have s =
    entry_file have c.args.name.now c.args.commit.now c.args.timestamp (entry_in (codes "metadata") (Some (tree_view c.args.tree.now))) c.in-Some.digest c.head_at.result c.in-Some.ensures (c.head_at.ensures.tells have s)

pub returns-in-None-clause-looks : goal.returns-in-None-clause-looks
returns-in-None-clause-looks g c = looks_none c.head_kept.result (g.met.H.Host.is_tree c.args.host.now) c.head_kept.ensures.faults

pub returns-in-None-clause-tells : goal.returns-in-None-clause-tells
returns-in-None-clause-tells g c have s =
    entry_none have c.args.name.now c.args.commit.now c.args.timestamp (entry_in (codes "metadata") (Some (tree_view c.args.tree.now))) c.head_kept.result c.in-None.ensures (c.head_kept.ensures.tells None refl)
