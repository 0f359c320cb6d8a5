-- Metadata objects that are read once they were checked.
use Rattle.std.proofs.Common.{◌≡◌, ℕ, List, Option, Some, None, Result, Ok, Err, refl, sym, ◌∙◌, ap, subst}
use Rattle.fp_base.specs.declared.object.ObjKind.{ObjKind}
use Rattle.fp_base.specs.declared.object.ObjKind.TheVariants as kinds
use Rattle.fp_base.specs.declared.rule.Rule.{Rule}
use Rattle.ost_model.specs.declared.object.Object.{Object}
use Rattle.ost_model.specs.declared.object.Object.TheVariants as objects
use Rattle.ost_model.specs.Fields.{CommitView, TreeView}
use Rattle.ost_model.specs.Readers.{commit_read, tree_read, commit_of, tree_of, if_read}
use Rattle.ost_model.specs.Objects.{Have, Fault, object_fault}
use Rattle.ost_model.specs.Order.{commit_at, tree_at, read_as}
use Rattle.ost_model.proofs.Good.{good_tree, good_commit}
use Rattle.ost_object.specs.Answers.{Breaks}
use Rattle.ost_object.specs.declared.error.ObjectError.{ObjectError}
use Rattle.ost_object.specs.declared.error.ObjectError.TheVariants as unread
use Rattle.ost_walk.specs.declared.ends.WalkEnd.{WalkEnd}
use Rattle.ost_walk.specs.Ends.{RefusesBy, EndsBy, IsFaultOf, unread_end}
use Rattle.ost_walk.specs.Steps.{own_fault}
use Rattle.ost_walk.proofs.Ended.{never_refused}
use Rattle.ost_head.specs.Objects.{IsGood}
use Rattle.ost_head.specs.Parts.{ReadsAs, IsReadAs}

-- ---- a commit

pub commit_is : (bytes : List ℕ) (view : CommitView) → commit_read bytes ≡ Ok view → read_as commit_of (Some (objects.Meta bytes)) ≡ Some view
commit_is bytes view is = ap if_read is

pub commit_unread : (d bytes : List ℕ) (error : ObjectError) (end : WalkEnd) → end ≡ unread_end d kinds.Commit error → Breaks error (commit_read bytes) → object_fault d kinds.Commit (Some (objects.Meta bytes)) ≡ None → RefusesBy (λ w. ⊥) end
commit_unread d bytes (unread.Malformed rule) end is broken good =
    let v = good_commit d (Some (objects.Meta bytes)) good in
    absurd (cc (sym v.1 ∙ ap if_read broken))
commit_unread d bytes unread.NoMemory end is broken good = subst (λ (e : WalkEnd). RefusesBy (λ w. ⊥) e) (sym is) tt

pub commit_no_other : (d : List ℕ) (o : Object) → ((bytes : List ℕ) → o ≡ objects.Meta bytes → ⊥) → object_fault d kinds.Commit (Some o) ≡ None → ⊥
commit_no_other d (objects.Meta bytes) not good = not bytes refl
commit_no_other d (objects.File mode bytes) not good = absurd (cc good)
commit_no_other d (objects.Link text) not good = absurd (cc good)

-- ---- a dirtree

pub tree_is : (bytes : List ℕ) (view : TreeView) → tree_read bytes ≡ Ok view → read_as tree_of (Some (objects.Meta bytes)) ≡ Some view
tree_is bytes view is = ap if_read is

pub tree_unread : (d bytes : List ℕ) (error : ObjectError) (end : WalkEnd) → end ≡ unread_end d kinds.DirTree error → Breaks error (tree_read bytes) → object_fault d kinds.DirTree (Some (objects.Meta bytes)) ≡ None → RefusesBy (λ w. ⊥) end
tree_unread d bytes (unread.Malformed rule) end is broken good =
    let v = good_tree d (Some (objects.Meta bytes)) good in
    absurd (cc (sym v.1 ∙ ap if_read broken))
tree_unread d bytes unread.NoMemory end is broken good = subst (λ (e : WalkEnd). RefusesBy (λ w. ⊥) e) (sym is) tt

pub tree_no_other : (d : List ℕ) (o : Object) → ((bytes : List ℕ) → o ≡ objects.Meta bytes → ⊥) → object_fault d kinds.DirTree (Some o) ≡ None → ⊥
tree_no_other d (objects.Meta bytes) not good = not bytes refl
tree_no_other d (objects.File mode bytes) not good = absurd (cc good)
tree_no_other d (objects.Link text) not good = absurd (cc good)

-- ---- an object that was found

pub found_good : (have : Have) (d : List ℕ) (kind : ObjKind) (o : Object) → IsGood d kind (have d kind) o → own_fault have d kind ≡ None
found_good have d kind o g = ap (object_fault d kind) g.is ∙ g.good

pub commit_found : {A : Type 0} (view : A → CommitView) (have : Have) (d : List ℕ) (o : Object) (r : Result A WalkEnd) → IsGood d kinds.Commit (have d kinds.Commit) o
    → (object_fault d kinds.Commit (Some o) ≡ None → ReadsAs view (read_as commit_of (Some o)) r)
    → EndsBy (λ c. IsReadAs (own_fault have d kinds.Commit) (commit_at have d) (view c)) (IsFaultOf d kinds.Commit (own_fault have d kinds.Commit)) r
commit_found view have d o (Ok c) g reads = record { good = found_good have d kinds.Commit o g; read = ap (read_as commit_of) g.is ∙ reads g.good }
commit_found view have d o (Err end) g reads = never_refused _ end (reads g.good)

pub tree_found : {A : Type 0} (view : A → TreeView) (have : Have) (d : List ℕ) (o : Object) (r : Result A WalkEnd) → IsGood d kinds.DirTree (have d kinds.DirTree) o
    → (object_fault d kinds.DirTree (Some o) ≡ None → ReadsAs view (read_as tree_of (Some o)) r)
    → EndsBy (λ t. IsReadAs (own_fault have d kinds.DirTree) (tree_at have d) (view t)) (IsFaultOf d kinds.DirTree (own_fault have d kinds.DirTree)) r
tree_found view have d o (Ok t) g reads = record { good = found_good have d kinds.DirTree o g; read = ap (read_as tree_of) g.is ∙ reads g.good }
tree_found view have d o (Err end) g reads = never_refused _ end (reads g.good)
