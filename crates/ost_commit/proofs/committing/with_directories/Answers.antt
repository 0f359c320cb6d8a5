use Rattle.std.proofs.Common.{◌≡◌, inl, inr, ◌∙◌, ap, subst}
use Rattle.std.specs.Prelude.{Ok}
use Rattle.ost_model.specs.Contents.{meta_digest}
use Rattle.ost_model.specs.Readers.{commit_read}
use Rattle.ost_commit.specs.Rows.{says}
use Rattle.ost_commit.specs.Commits.{commit_of_tree}
use Rattle.ost_commit.specs.Trees.{IsRootWritten}
use Rattle.ost_commit.specs.Sizes.{IsLargeDirectory, IsLargeCommit, IsTooLarge}
use Rattle.ost_commit.proofs.Holding.{fault_for, fault_of_want, err_at}
use Rattle.ost_commit.proofs.Keys.{distinct}
use Rattle.ost_commit.proofs.Assembly.{assembled}
use Rattle.ost_commit.proofs.committing.with_directories.Goals as goal

pub returns-clause-built : goal.returns-clause-built
returns-clause-built c rows g digests held =
    let made = c.in_ok-made.made in
    let h = c.args.heading in
    let meta : c.meta_digest-meta.result ≡ meta_digest c.in_ok-meta_bytes.meta_bytes = c.meta_digest-meta.ensures ∙ ap meta_digest c.as_slice.ensures in
    assembled rows h.name.now h.subject.now h.timestamp c.args.tree.folders.items c.args.digests.now c.args.contents.entries c.in_ok-meta_bytes.meta_bytes c.in_ok-commit.commit made c.in_ok-gathered.field-0 g digests held
    (distinct c.args.contents.entries c.in_ok-gathered.ensures.files_ordered) (distinct made.trees.entries c.in_ok-gathered.ensures.trees_ordered) c.in_ok-made.ensures.usable
    (subst (λ d. IsRootWritten rows (says rows) c.args.digests.now d made) meta (c.in_ok-made.ensures.written rows (says rows) g digests)) c.in_ok-meta_bytes.ensures.reads
    (subst (λ d. commit_read c.in_ok-commit.commit ≡ Ok (commit_of_tree h.name.now h.subject.now h.timestamp made.root d)) meta c.in_ok-commit.ensures.reads)
    c.in_ok-gathered.ensures.objects c.in_ok-gathered.ensures.commit

pub returns-in_err-meta_bytes-clause-error : goal.returns-in_err-meta_bytes-clause-error
returns-in_err-meta_bytes-clause-error c =
    let e = c.in_err-meta_bytes.field-0.0 in
    err_at c.from_residual.result e _ c.from_residual.ensures.1 (λ rows said g. fault_of_want ⊥ _ e (λ (x : ⊥). absurd x) c.in_err-meta_bytes.ensures.error)

pub returns-in_err-made-clause-error : goal.returns-in_err-made-clause-error
returns-in_err-made-clause-error c =
    let h = c.args.heading in
    let e = c.in_err-made.field-0.0 in
    err_at c.from_residual-in_err-made.result e _ c.from_residual-in_err-made.ensures.1
    (λ rows said g. fault_for (IsLargeDirectory rows said) (IsTooLarge rows said h.name.now h.subject.now h.timestamp) e (λ (x : IsLargeDirectory rows said). inl x) (c.in_err-made.ensures.error rows said g))

pub returns-in_err-commit-clause-error : goal.returns-in_err-commit-clause-error
returns-in_err-commit-clause-error c =
    let h = c.args.heading in
    let e = c.in_err-commit.field-0.0 in
    let large = IsLargeCommit h.name.now h.subject.now h.timestamp in
    err_at c.from_residual-in_err-commit.result e _ c.from_residual-in_err-commit.ensures.1
    (λ rows said g. fault_of_want large (IsTooLarge rows said h.name.now h.subject.now h.timestamp) e (λ (x : large). inr x) c.in_err-commit.ensures.error)
