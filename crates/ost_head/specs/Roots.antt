-- The root of a commit, and the head that it leads to.
use Rattle.std.specs.Prelude.{◌≡◌, ℕ, List, Option, Result, Err}
use Rattle.fp_base.specs.declared.object.ObjKind.TheVariants as kinds
use Rattle.fp_name.specs.Refs.{Ref}
use Rattle.ost_model.specs.Fields.{CommitView}
use Rattle.ost_model.specs.Objects.{Have}
use Rattle.ost_model.specs.Order.{tree_at}
use Rattle.ost_object.specs.Views.{commit_view, tree_view}
use Rattle.ost_object.specs.declared.dirtree.DirTree.{DirTree}
use Rattle.ost_walk.specs.declared.ends.WalkEnd.{WalkEnd}
use Rattle.ost_walk.specs.Ends.{EndsBy}
use Rattle.fp_small.specs.declared.refusal.Refusal.{Refusal}
use Rattle.ost_walk.specs.PullEnds.{walk_refusal}
use Rattle.ost_walk.specs.Refusals.{object_refused}
use Rattle.ost_head.specs.Heads.{with_tree, head_in, head_of, unless_refused}
use Rattle.ost_head.specs.declared.head.Head.{Head}
use Rattle.ost_head.specs.declared.head.Root.{Root}

-- The head of a commit, by the dirtree of its root
abbrev pub of_tree : Have → Ref → List ℕ → Option ℕ → CommitView → Result Head Refusal
of_tree have name commit since c = unless_refused (object_refused have c.tree kinds.DirTree)
    (with_tree have name commit since c (tree_at have c.tree))

-- Holds if the result is the dirtree of the root, with which the head is read, or the refusal of
-- the head
abbrev pub ReadsTree : Have → CommitView → Result DirTree WalkEnd → Type 0
ReadsTree have c result = (name : Ref) (commit : List ℕ) (since : Option ℕ)
    → EndsBy (λ t. of_tree have name commit since c
    ≡ head_in have name commit since c (tree_view t))
    (λ w. of_tree have name commit since c ≡ Err (walk_refusal w)) result

-- Holds if the result is the commit and the dirtree of its root, with which the head is read, or
-- the refusal of the head
abbrev pub ReadsRoot : Have → List ℕ → Result Root WalkEnd → Type 0
ReadsRoot have commit result = (name : Ref) (since : Option ℕ)
    → EndsBy (λ r. head_of have name commit since
    ≡ head_in have name commit since (commit_view r.commit) (tree_view r.tree))
    (λ w. head_of have name commit since ≡ Err (walk_refusal w)) result
