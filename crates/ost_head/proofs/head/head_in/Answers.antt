use Rattle.std.proofs.Common.{sym, ◌∙◌}
use Rattle.std.specs.Option.{option_or}
use Rattle.std.specs.Prelude.{Some, codes}
use Rattle.ost_model.specs.Look.{entry_in}
use Rattle.ost_object.specs.Views.{commit_view, tree_view}
use Rattle.ost_head.specs.Heads.{commit_refused, root_refused, metadata_at}
use Rattle.ost_head.proofs.Headed.{early_refused, early_none}
use Rattle.ost_head.proofs.head.head_in.Goals as goal

pub returns-in-Some-clause-tells : goal.returns-in-Some-clause-tells
returns-in-Some-clause-tells g c have s =
    let root = c.args.root.now in
    early_refused c.in-Some.refusal (option_or (commit_refused c.args.name.now c.args.since (commit_view root.commit)) (root_refused c.args.commit.now (tree_view root.tree)))
    (metadata_at have c.args.name.now c.args.commit.now root.commit.timestamp (entry_in (codes "metadata") (Some (tree_view root.tree)))) (sym c.in-Some.is ∙ c.in_ok-early.ensures)

pub returns-in-None-clause-tells : goal.returns-in-None-clause-tells
returns-in-None-clause-tells g c have s =
    let root = c.args.root.now in
    early_none (option_or (commit_refused c.args.name.now c.args.since (commit_view root.commit)) (root_refused c.args.commit.now (tree_view root.tree)))
    (metadata_at have c.args.name.now c.args.commit.now root.commit.timestamp (entry_in (codes "metadata") (Some (tree_view root.tree)))) c.head_below.result (sym c.in-None.is ∙ c.in_ok-early.ensures) (c.head_below.ensures.tells have s)
