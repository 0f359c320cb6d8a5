-- The directories of a commit, one after another.
use Rattle.std.proofs.Common.{◌≡◌, ℕ, List, [], ◌∷◌, Option, Some, None, Result, Ok, Err, refl, sym, ◌∙◌, ap, subst}
use Rattle.std.specs.Prelude.{option_and_then, option_map, IfOk}
use Rattle.fp_host.specs.Paths.{Elements}
use Rattle.fp_base.specs.declared.rule.Rule.{Rule}
use Rattle.ost_model.specs.Fields.{CommitView, DirRow, FileRow, TreeView}
use Rattle.ost_model.specs.Readers.{if_read}
use Rattle.ost_object.specs.declared.commit.CommitRoot.{CommitRoot}
use Rattle.ost_object.specs.declared.error.ObjectError.{ObjectError}
use Rattle.ost_object.specs.declared.error.ObjectError.TheVariants.{Malformed}
use Rattle.ost_object.specs.Answers.{Breaks, mapped}
use Rattle.ost_object.specs.Views.{root_in, root_view}
use Rattle.ost_model.specs.Objects.{Have}
use Rattle.ost_model.specs.Order.{commit_at, tree_at}
use Rattle.ost_model.specs.Look.{Found, nothing, directory, file_at, find_dir, find_file, either, entry_in, next, at_root, look}
use Rattle.fl_export.specs.Trees.{dir_tree, root_tree, tree_found, tree_below, tree_look, tree_next}

either_tree : (have : Have) (d : Option DirRow) (f : Option FileRow) → tree_found have (either d f) ≡ option_and_then (tree_at have) (option_map dir_tree d)
either_tree have (Some e) f = refl
either_tree have None (Some f) = refl
either_tree have None None = refl

entry_tree : (have : Have) (x : List ℕ) (t : Option TreeView) → tree_found have (entry_in x t) ≡ tree_below have x t
entry_tree have x None = refl
entry_tree have x (Some v) = either_tree have (find_dir x v.dirs) (find_file x v.files)

pub next_tree : (have : Have) (x : List ℕ) (f : Found) → tree_found have (next have x f) ≡ tree_below have x (tree_found have f)
next_tree have x nothing = refl
next_tree have x (file_at d) = refl
next_tree have x (directory e) = entry_tree have x (tree_at have e.tree)

-- what is in a directory that was found
pub look_on : (have : Have) (commit x : List ℕ) (up : Elements) (tree found : Option TreeView) → tree ≡ tree_look have commit up → found ≡ tree_below have x tree → found ≡ tree_look have commit (x ∷ up)
look_on have commit x up tree found at is = is ∙ ap (tree_below have x) at ∙ sym (next_tree have x (look have commit up))

pub next_on : (have : Have) (x : List ℕ) (e : DirRow) (tree found : Option TreeView) → tree ≡ tree_at have e.tree → found ≡ tree_below have x tree → found ≡ tree_next have x e
next_on have x e tree found at is = is ∙ ap (tree_below have x) at ∙ sym (next_tree have x (directory e))

-- ---- the root

pub root_told : (read : Result CommitView Rule) (root : CommitRoot) → mapped root_in read ≡ Ok (root_view root) → Some root.tree ≡ root_tree (if_read read)
root_told (Ok v) root is = let pair : root_in v ≡ root_view root = cc is in ap (λ (p : List ℕ × List ℕ). Some p.0) (sym pair)
root_told (Err rule) root is = absurd (cc is)

root_none : (read : Result CommitView Rule) (rule : Rule) → mapped root_in read ≡ Err rule → None ≡ root_tree (if_read read)
root_none (Ok v) rule is = absurd (cc is)
root_none (Err other) rule is = refl

pub root_untold : (read : Result CommitView Rule) (rule : Rule) (error : ObjectError) → error ≡ Malformed rule → Breaks error (mapped root_in read) → None ≡ root_tree (if_read read)
root_untold read rule error is breaks = root_none read rule (subst (λ (e : ObjectError). Breaks e (mapped root_in read)) is breaks)

pub root_found : (have : Have) (commit : List ℕ) (root : Option (List ℕ)) (tree : Option TreeView) → root ≡ root_tree (commit_at have commit) → tree ≡ option_and_then (tree_at have) root → tree ≡ tree_look have commit []
root_found have commit root tree at is = is ∙ ap (option_and_then (tree_at have)) at ∙ by_commit (commit_at have commit)
  where
    by_commit : (c : Option CommitView) → option_and_then (tree_at have) (root_tree c) ≡ tree_found have (at_root c)
    by_commit None = refl
    by_commit (Some c) = refl

-- ---- answers

pub if_ok_told : {A : Type 0} {E : Type 0} {P Q : A → Type 0} (r : Result A E) → ((a : A) → P a → Q a) → IfOk r P → IfOk r Q
if_ok_told (Ok a) to p = to a p
if_ok_told (Err e) to p = tt
