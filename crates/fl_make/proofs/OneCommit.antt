-- Two commits that are built of the same rows, ref, subject and time have the same digest.
use Rattle.std.proofs.Common.{◌≡◌, ◌≤◌, ◌+◌, inl, inr, ℕ, zero, suc, List, [], ◌∷◌, length, true, false, leb, Some, refl, sym, ◌∙◌, ap, subst, arith}
use Rattle.std.specs.Prelude.{Result, Ok, Err}
use Rattle.std.proofs.lemmas.Bool.{false≢true}
use Rattle.std.proofs.lemmas.Bool.Decides.{nat_tests}
use Rattle.fp_base.specs.declared.object.ObjKind.TheVariants as kinds
use Rattle.fp_host.specs.Paths.{Elements}
use Rattle.fp_name.specs.Refs.{Ref}
use Rattle.ost_model.specs.Fields.{DirRow, TreeView}
use Rattle.ost_model.specs.Readers.{commit_of, tree_of, meta_of}
use Rattle.ost_model.specs.Objects.{Have}
use Rattle.ost_model.specs.Order.{In, tree_at, root_row, tree_place, meta_place, commit_place, dir_places, order}
use Rattle.ost_model.specs.Look.{directory, look, next, at_root, entry_in, Reached}
use Rattle.ost_model.proofs.Good.{good_tree}
use Rattle.ost_model.proofs.Looked.{reached_at, tree_reached}
use Rattle.ost_model.proofs.Places.{faultless}
use Rattle.ost_commit.specs.declared.row.TreeRow.{TreeRow}
use Rattle.ost_commit.specs.declared.built.Built.{Built}
use Rattle.ost_commit.specs.Built.{BuiltCommit}
use Rattle.ost_commit.specs.Commits.{commit_of_tree}
use Rattle.ost_commit.specs.Objects.{have_of}
use Rattle.ost_commit.specs.Shows.{found_said, plain_meta}
use Rattle.ost_description.specs.declared.description.Description.{Description}
use Rattle.ost_description.specs.Descriptions.{described}
use Rattle.fl_make.specs.Laws.{RowsHaveOneCommit, DescriptionsHaveOneCommit}
use Rattle.fl_make.proofs.Digests.{SaidBy, said_by, one_commit_digest, one_tree_digest, one_meta_digest, breaks_none}
use Rattle.fl_make.proofs.Dirtrees.{good_names, one_dirtree}

-- ---- one commit

-- a directory of a commit: what its dirtree says, and its dirmeta, and it is not too deep
record IsOpen (have : Have) (path : Elements) (e : DirRow) : Type 0 where
  view : TreeView
  is : tree_at have e.tree ≡ Some view
  tree : SaidBy tree_of e.tree view
  meta : SaidBy meta_of e.meta plain_meta
  low : leb 65 (length path) ≡ false

meta_in : (have : Have) (fuel depth : ℕ) (e : DirRow) → In (dir_places have fuel depth e) (meta_place depth e)
meta_in have zero depth e = inr (inl refl)
meta_in have (suc fuel) depth e = inr (inl refl)

meta_reached : (have : Have) (commit : List ℕ) (e : DirRow) (r : Reached have commit e) → In (order have commit) (meta_place r.depth e)
meta_reached have commit e r = r.sub (meta_place r.depth e) (meta_in have r.fuel r.depth e)

module _ {rows : List TreeRow} {r : Ref} {subject : List ℕ} {timestamp : ℕ} {built : Built} (b : BuiltCommit rows r subject timestamp built) where
  opened : (path : Elements) (e : DirRow) → look (have_of built.objects) built.commit path ≡ directory e → IsOpen (have_of built.objects) path e
  opened path e found =
      let have = have_of built.objects in
      let at = reached_at have built.commit b.whole path e found in
      let tree_good = faultless have 0 (order have built.commit) b.whole (tree_place at.0.depth e) (tree_reached at.0) in
      let meta_good = faultless have 0 (order have built.commit) b.whole (meta_place at.0.depth e) (meta_reached have built.commit e at.0) in
      let v = good_tree e.tree (have e.tree kinds.DirTree) tree_good.1 in
      record {
        view = v.0;
        is = v.1;
        tree = said_by tree_of kinds.DirTree e.tree (have e.tree kinds.DirTree) v.0 tree_good.1 v.1;
        meta = said_by meta_of kinds.DirMeta e.meta (have e.meta kinds.DirMeta) plain_meta meta_good.1 (b.directories path e found);
        low = subst (λ n. leb 65 n ≡ false) at.1 tree_good.0;
      }

  -- what is found under a name in it
  inside : (x : List ℕ) (path : Elements) (e : DirRow) → look (have_of built.objects) built.commit path ≡ directory e → (v : TreeView) → tree_at (have_of built.objects) e.tree ≡ Some v
      → look (have_of built.objects) built.commit (x ∷ path) ≡ entry_in x (Some v)
  inside x path e found v is = ap (next (have_of built.objects) x) found ∙ ap (entry_in x) is

  commit_said : SaidBy commit_of built.commit (commit_of_tree r subject timestamp b.root b.meta)
  commit_said =
      let have = have_of built.objects in
      let good = faultless have 0 (order have built.commit) b.whole (commit_place built.commit) (inl refl) in
      said_by commit_of kinds.Commit built.commit (have built.commit kinds.Commit) (commit_of_tree r subject timestamp b.root b.meta) good.1 b.commit

  root_found : look (have_of built.objects) built.commit [] ≡ directory (root_row (commit_of_tree r subject timestamp b.root b.meta))
  root_found = ap at_root b.commit

-- ---- two commits

not_below : (n : ℕ) → 65 ≤ n → leb 65 n ≡ true
not_below n h = grind (arith, nat_tests)

module _ {rows : List TreeRow} {r : Ref} {subject : List ℕ} {timestamp : ℕ} {one two : Built} (a : BuiltCommit rows r subject timestamp one) (b : BuiltCommit rows r subject timestamp two) where
  -- at one path: no directory is deeper than 64 levels
  same_directory : (levels : ℕ) (path : Elements) (d e : DirRow) → 65 ≤ levels + length path
      → look (have_of one.objects) one.commit path ≡ directory d → look (have_of two.objects) two.commit path ≡ directory e → (d.tree ≡ e.tree) × (d.meta ≡ e.meta)
  same_directory zero path d e deep found_a found_b =
      let high : 65 ≤ length path = omega (arith, deep) in
      absurd (false≢true (sym (opened a path d found_a).low ∙ not_below (length path) high))
  same_directory (suc levels) path d e deep found_a found_b =
      let v = opened a path d found_a in
      let w = opened b path e found_b in
      let in_a = λ (x : List ℕ). inside a x path d found_a v.view v.is in
      let in_b = λ (x : List ℕ). inside b x path e found_b w.view w.is in
      let said = λ (x : List ℕ). ap found_said (sym (in_a x)) ∙ a.paths (x ∷ path) ∙ sym (b.paths (x ∷ path)) ∙ ap found_said (in_b x) in
      let next_deep : 65 ≤ levels + suc (length path) = omega (arith, deep) in
      let same : v.view ≡ w.view = one_dirtree v.view w.view (good_names v.view (breaks_none v.view d.tree v.tree)) (good_names w.view (breaks_none w.view e.tree w.tree)) said
      (λ x f g is_f is_g. same_directory levels (x ∷ path) f g next_deep (in_a x ∙ is_f) (in_b x ∙ is_g)) in (
        one_tree_digest w.view d.tree e.tree (subst (SaidBy tree_of d.tree) same v.tree) w.tree,
        one_meta_digest plain_meta refl d.meta e.meta v.meta w.meta,
      )

  pub one_commit : one.commit ≡ two.commit
  one_commit =
      let said = commit_of_tree r subject timestamp in
      let top : 65 ≤ 65 + 0 = omega arith in
      let root = same_directory 65 [] (root_row (said a.root a.meta)) (root_row (said b.root b.meta)) top (root_found a) (root_found b) in
      let same : said a.root a.meta ≡ said b.root b.meta = ap (λ x. said x a.meta) root.0 ∙ ap (said b.root) root.1 in
      one_commit_digest (said b.root b.meta) one.commit two.commit (subst (SaidBy commit_of one.commit) same (commit_said a)) (commit_said b)

pub rows_have_one_commit : RowsHaveOneCommit
rows_have_one_commit rows r subject timestamp one two a b = one_commit a b

-- what was read is one
read_is_one : {A B : Type 0} (read : Result A B) (x y : A) → read ≡ Ok x → read ≡ Ok y → x ≡ y
read_is_one (Ok z) x y is_x is_y = let first : z ≡ x = cc is_x in let second : z ≡ y = cc is_y in sym first ∙ second
read_is_one (Err e) x y is_x is_y = absurd (cc is_x)

pub descriptions_have_one_commit : DescriptionsHaveOneCommit
descriptions_have_one_commit bytes r one two a b =
    let same : a.description ≡ b.description = read_is_one (described bytes) a.description b.description a.reads b.reads in
    one_commit (subst (λ (d : Description). BuiltCommit d.rows r d.subject d.timestamp one) same a.commit) b.commit
