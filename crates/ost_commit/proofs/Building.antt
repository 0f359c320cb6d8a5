-- A gathered directory, written with the directories in it, is shown as it is said.
use Rattle.std.proofs.Common.{◌≡◌, ◌<◌, ◌-◌, ℕ, zero, suc, List, ◌∷◌, length, true, Option, Some, None, refl, sym, ◌∙◌, ap, subst, arith}
use Rattle.fp_host.specs.Paths.{Elements}
use Rattle.fp_base.specs.declared.object.ObjKind.TheVariants as kinds
use Rattle.ost_model.specs.Fields.{DirRow}
use Rattle.ost_model.specs.Objects.{Have}
use Rattle.ost_model.specs.Order.{tree_at}
use Rattle.ost_commit.specs.declared.row.TreeRow.{TreeRow}
use Rattle.ost_commit.specs.declared.tree.Child.{Child}
use Rattle.ost_commit.specs.declared.tree.Child.TheVariants as child
use Rattle.ost_commit.specs.declared.tree.Folder.{Folder}
use Rattle.ost_commit.specs.Rows.{Said, content}
use Rattle.ost_commit.specs.Refusals.{is_content}
use Rattle.ost_commit.specs.Shows.{found_said, meta_at, plain_meta, IsThere, Shows}
use Rattle.ost_commit.specs.Folders.{At, child_in, child_said, put_at, Gathers}
use Rattle.ost_commit.specs.Entries.{Names, tree_rows, child_found}
use Rattle.ost_commit.specs.Trees.{row_of}
use Rattle.ost_commit.proofs.Keys.{AreDistinct}
use Rattle.ost_commit.proofs.Listing.{found_child, listed_file, listed_dir}

-- the name of its entry plays no part
pub shows_named : (have : Have) (said : Elements → Said) (levels : ℕ) (path : Elements) (d e : DirRow) → e.tree ≡ d.tree → e.meta ≡ d.meta → Shows have said levels path d → Shows have said levels path e
shows_named have said zero path d e tree meta s = s
shows_named have said (suc levels) path d e tree meta s = record {
  view = s.view;
  tree = ap (tree_at have) tree ∙ s.tree;
  meta = ap (meta_at have) meta ∙ s.meta;
  each = s.each;
  files = s.files;
  dirs = s.dirs;
}

module _ (rows : List TreeRow) (said : Elements → Said) (folders : List Folder) (gathers : Gathers rows said folders) (have : Have) (names : Names)
    (named : (k : ℕ) → is_content (put_at rows k) ≡ true → content (names.file k) ≡ put_at rows k)
    (there : (k : ℕ) → k < length rows → is_content (put_at rows k) ≡ true → IsThere have (names.file k) kinds.File)
    (plain : meta_at have names.meta ≡ Some plain_meta) where
  found_is : (i : ℕ) (f : Folder) → At folders i f → (x : List ℕ) (c : Option Child) → child_in f.children.entries x ≡ c → found_said (child_found names x c) ≡ child_said rows c
  found_is i f at x None is = refl
  found_is i f at x (Some (child.Content k)) is = named k (gathers.inside i f x k at is).1
  found_is i f at x (Some (child.Folder j)) is = refl

  pub shows_folder : (i : ℕ) (f : Folder) (t : List ℕ) → At folders i f → AreDistinct f.children.entries → tree_at have t ≡ Some (tree_rows names f.children.entries)
      → ((j : ℕ) (g : Folder) → At folders j g → i < j → Shows have said (65 - length g.path) g.path (row_of (names.tree j) names.meta)) → Shows have said (65 - length f.path) f.path (row_of t names.meta)
  shows_folder i f t at distinct tree below =
      let low = gathers.shallow i f at in
      let levels : suc (64 - length f.path) ≡ 65 - length f.path = omega (arith, low) in
      subst (λ n. Shows have said n f.path (row_of t names.meta)) levels (record {
        view = tree_rows names f.children.entries;
        tree = tree;
        meta = plain;
        each = λ x. ap found_said (found_child names x f.children.entries distinct) ∙ (found_is i f at x (child_in f.children.entries x) refl ∙ gathers.each i f x at);
        files = λ r h.
            let l = listed_file names f.children.entries distinct r h in
            let k = gathers.inside i f r.name l.0 at l.1 in
            subst (λ d. IsThere have d kinds.File) (sym l.2) (there l.0 k.0 k.1);
        dirs = λ d h.
            let l = listed_dir names f.children.entries distinct d h in
            let b = gathers.below i f d.name l.0 at l.1 in
            let s = below l.0 b.1.0 b.1.1 b.0 in
            let fewer : 65 - length b.1.0.path ≡ 64 - length f.path = omega (arith, low, ap length b.1.2) in
            shows_named have said (64 - length f.path) (d.name ∷ f.path) (row_of (names.tree l.0) names.meta) d l.2 l.3
            (subst (λ p. Shows have said (64 - length f.path) p (row_of (names.tree l.0) names.meta)) b.1.2 (subst (λ n. Shows have said n b.1.0.path (row_of (names.tree l.0) names.meta)) fewer s));
      })
