use Rattle.std.proofs.Common.{ℕ, List, ◌≢◌}
use Rattle.std.specs.Prelude.{Ok}
use Rattle.std.proofs.lemmas.Result.{IfErr-weaker}
use Rattle.ost_model.specs.Readers.{tree_read, tree_breaks}
use Rattle.ost_object.specs.Views.{tree_view}
use Rattle.ost_commit.specs.Writing.{IsRefused}
use Rattle.ost_commit.proofs.Holding.{want_for, refused_reads}
use Rattle.ost_commit.proofs.writing.dirtree_bytes.Goals as goal

pub returns-clause-error : goal.returns-clause-error
returns-clause-error c =
    let view = tree_view c.args.tree.now in
    IfErr-weaker c.object_bytes.result _ _ (λ e h. want_for (IsRefused c.write_dirtree.result) ((bytes : List ℕ) → tree_read bytes ≢ Ok view) e
    (refused_reads tree_read tree_breaks c.write_dirtree.result view c.write_dirtree.ensures) h) c.object_bytes.ensures.error
