use Rattle.std.proofs.Common.{[]}
use Rattle.std.proofs.lemmas.Result.{IfErr-weaker}
use Rattle.ost_commit.specs.Rows.{says}
use Rattle.ost_commit.specs.Sizes.{IsTooLarge}
use Rattle.ost_commit.proofs.Holding.{fault_for, fault_of_build, fault_of_refusal, err_at}
use Rattle.ost_commit.proofs.Taking.{good_rows}
use Rattle.ost_commit.proofs.committing.commit_tree.Goals as goal

pub row_digests-requires-after_bounds : goal.row_digests-requires-after_bounds
row_digests-requires-after_bounds g c κs within = good_rows [] 0 c.args.rows.now c.in_ok-tree.ensures.good

pub contents_of-requires-clause-good : goal.contents_of-requires-clause-good
contents_of-requires-clause-good g c = good_rows [] 0 c.args.rows.now c.in_ok-tree.ensures.good

pub returns-clause-error : goal.returns-clause-error
returns-clause-error g c =
    let rows = c.args.rows.now in
    IfErr-weaker c.with_directories.result _ _ (λ e h. fault_of_build rows c.args.name.now c.args.subject.now c.args.timestamp e c.in_ok-tree.ensures.good (h rows (says rows) c.in_ok-tree.ensures.gathers)) c.with_directories.ensures.error

pub returns-in_err-tree-clause-error : goal.returns-in_err-tree-clause-error
returns-in_err-tree-clause-error g c =
    let e = c.in_err-tree.field-0.0 in
    err_at c.from_residual.result e _ c.from_residual.ensures.1 (fault_of_refusal c.args.rows.now c.args.name.now c.args.subject.now c.args.timestamp e c.in_err-tree.ensures.refused)

pub returns-in_err-contents-clause-error : goal.returns-in_err-contents-clause-error
returns-in_err-contents-clause-error g c =
    let e = c.in_err-contents.field-0.0 in
    err_at c.from_residual-in_err-contents.result e _ c.from_residual-in_err-contents.ensures.1
    (fault_of_build c.args.rows.now c.args.name.now c.args.subject.now c.args.timestamp e c.in_ok-tree.ensures.good (fault_for ⊥ _ e (λ (x : ⊥). absurd x) c.in_err-contents.ensures.error))
