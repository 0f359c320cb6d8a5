use Rattle.std.proofs.Common.{◌≡◌, ℕ, List, true, subst}
use Rattle.std.proofs.lemmas.Result.{IfErr-weaker}
use Rattle.ost_model.specs.Fields.{CommitView}
use Rattle.ost_model.specs.Types.{dictionary_shape}
use Rattle.ost_model.specs.Readers.{commit_read, commit_breaks}
use Rattle.ost_object.specs.Views.{commit_view}
use Rattle.ost_object.specs.Writes.{Writes}
use Rattle.ost_commit.specs.Commits.{commit_of_tree, bound_to}
use Rattle.ost_commit.specs.Sizes.{IsLargeCommit}
use Rattle.ost_commit.specs.Writing.{IsRefused, HasNoBytes}
use Rattle.ost_commit.proofs.Holding.{want_for, refused_reads, err_at}
use Rattle.ost_commit.proofs.Sizes.{large_binding}
use Rattle.ost_commit.proofs.writing.commit_bytes.Goals as goal

pub returns-clause-error : goal.returns-clause-error
returns-clause-error c =
    let h = c.args.heading in
    let view = commit_of_tree h.name.now h.subject.now h.timestamp c.args.root.tree c.args.root.meta in
    IfErr-weaker c.object_bytes.result _ _ (λ e want. want_for (IsRefused c.write_commit.result) (IsLargeCommit h.name.now h.subject.now h.timestamp) e
    (λ refused. record {
      tree = c.args.root.tree;
      meta = c.args.root.meta;
      tree_digest = c.as_bytes-tree.ensures.good;
      meta_digest = c.as_bytes-meta.ensures.good;
      none = refused_reads commit_read commit_breaks c.write_commit.result view (subst (λ (y : CommitView). Writes commit_read commit_breaks c.write_commit.result y) c.in_ok-commit.ensures.says c.write_commit.ensures) refused;
    }) want) c.object_bytes.ensures.error

pub returns-in_err-commit-clause-error : goal.returns-in_err-commit-clause-error
returns-in_err-commit-clause-error c =
    let h = c.args.heading in
    let e = c.in_err-commit.field-0.0 in
    err_at c.from_residual.result e _ c.from_residual.ensures.1 (want_for (HasNoBytes dictionary_shape (bound_to h.name.now)) (IsLargeCommit h.name.now h.subject.now h.timestamp) e
    (large_binding h.name.now h.subject.now h.timestamp c.args.root.tree c.args.root.meta c.as_bytes-tree.ensures.good c.as_bytes-meta.ensures.good) c.in_err-commit.ensures.error)
