use Rattle.std.proofs.Common.{◌≡◌, ◌≢◌, ℕ, List, Ok, sym, ◌∙◌, ap, subst, Some, None}
use Rattle.fp_base.specs.declared.object.ObjKind.TheVariants as kinds
use Rattle.ost_model.specs.declared.object.Object.TheVariants as objects
use Rattle.ost_model.specs.Contents.{meta_digest}
use Rattle.ost_model.specs.Readers.{if_read, tree_read}
use Rattle.ost_commit.specs.Sizes.{IsUnwritten}
use Rattle.ost_model.specs.Objects.{object_fault}
use Rattle.ost_object.specs.Views.{tree_view}
use Rattle.ost_commit.proofs.Reading.{tree_good}
use Rattle.ost_commit.proofs.Holding.{usable_more, fault_of_put, fault_of_want, err_at}
use Rattle.ost_commit.proofs.directories.add_dirtree.Goals as goal

pub returns-in-Ok-clause-adds : goal.returns-in-Ok-clause-adds
returns-in-Ok-clause-adds c = let digest : c.meta_digest-digest.result ≡ meta_digest c.in_ok-bytes.bytes = cc in record {
  bytes = c.in_ok-bytes.bytes;
  puts = c.in-Ok.ensures.put;
  good = subst (λ d. object_fault d kinds.DirTree (Some (objects.Meta c.in_ok-bytes.bytes)) ≡ None) (sym digest) (tree_good c.in_ok-bytes.bytes (tree_view c.in_ok-listing.listing.tree) c.in_ok-bytes.ensures.reads);
  reads = ap if_read c.in_ok-bytes.ensures.reads ∙ ap Some c.in_ok-listing.ensures.tree;
  places = c.in_ok-listing.ensures.places;
  few = c.in_ok-listing.ensures.few;
}

pub returns-in-Ok-clause-usable : goal.returns-in-Ok-clause-usable
returns-in-Ok-clause-usable c =
    let digest : c.meta_digest-digest.result ≡ meta_digest c.in_ok-bytes.bytes = cc in
    usable_more kinds.DirTree c.args.trees.now.entries c.put.new.table.entries c.meta_digest-digest.result (objects.Meta c.in_ok-bytes.bytes) c.requires.usable
    (subst (λ d. object_fault d kinds.DirTree (Some (objects.Meta c.in_ok-bytes.bytes)) ≡ None) (sym digest) (tree_good c.in_ok-bytes.bytes (tree_view c.in_ok-listing.listing.tree) c.in_ok-bytes.ensures.reads)) c.in-Ok.ensures.put

pub returns-clause-error : goal.returns-clause-error
returns-clause-error c =
    let digest : c.meta_digest-digest.result ≡ meta_digest c.in_ok-bytes.bytes = cc in
    fault_of_put _ kinds.DirTree c.args.trees.now.entries c.meta_digest-digest.result (objects.Meta c.in_ok-bytes.bytes) c.in-Err.error c.requires.usable
    (subst (λ d. object_fault d kinds.DirTree (Some (objects.Meta c.in_ok-bytes.bytes)) ≡ None) (sym digest) (tree_good c.in_ok-bytes.bytes (tree_view c.in_ok-listing.listing.tree) c.in_ok-bytes.ensures.reads)) c.in-Err.ensures.error

pub returns-in_err-bytes-clause-error : goal.returns-in_err-bytes-clause-error
returns-in_err-bytes-clause-error c =
    let e = c.in_err-bytes.field-0.0 in
    let view = tree_view c.in_ok-listing.listing.tree in
    let is = c.in_ok-listing.ensures.tree in
    err_at c.from_residual-in_err-bytes.result e _ c.from_residual-in_err-bytes.ensures.1 (fault_of_want ((bytes : List ℕ) → tree_read bytes ≢ Ok view) _ e
    (λ none. subst IsUnwritten is (record { digests = c.in_ok-listing.ensures.named; none = none })) c.in_err-bytes.ensures.error)
