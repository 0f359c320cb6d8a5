-- What makes a built commit.
use Rattle.std.proofs.Common.{◌≡◌, ◌≤◌, ℕ, List, [], Some, None, length, sym, ap, ◌∙◌, subst, arith}
use Rattle.std.specs.Prelude.{Ok}
use Rattle.std.specs.List.{AllByRecursion}
use Rattle.fp_name.specs.Refs.{Ref}
use Rattle.fp_base.specs.declared.object.ObjKind.TheVariants as kinds
use Rattle.fp_base.proofs.Lists.{all_to}
use Rattle.ost_model.specs.declared.object.Object.{Object}
use Rattle.ost_model.specs.Contents.{meta_digest}
use Rattle.ost_model.specs.Readers.{commit_of, meta_of, commit_read, meta_read, if_read}
use Rattle.ost_model.specs.Order.{commit_at, read_as, order, below_commit, dir_places, root_row}
use Rattle.ost_model.specs.Look.{look}
use Rattle.ost_commit.specs.declared.row.TreeRow.{TreeRow}
use Rattle.ost_commit.specs.declared.built.Built.{Built}
use Rattle.ost_commit.specs.declared.built.BuiltObject.{BuiltObject}
use Rattle.ost_commit.specs.declared.tree.Folder.{Folder}
use Rattle.ost_commit.specs.declared.directories.Dirtrees.{Dirtrees}
use Rattle.ost_commit.specs.Digests.{AreDigests}
use Rattle.ost_commit.specs.Folders.{Gathers}
use Rattle.ost_commit.specs.Tables.{AreUsable, AreContents, AreObjectsOf}
use Rattle.ost_commit.specs.Trees.{row_of, Supports, HasTrees, IsRootWritten}
use Rattle.ost_commit.specs.Rows.{says}
use Rattle.ost_commit.specs.Objects.{have_of, IsNamed, AreApart, Holds}
use Rattle.gv_value.specs.Tree.{Tree, no_trees}
use Rattle.ost_model.specs.Types.{dictionary_shape, related_shape}
use Rattle.ost_object.specs.Views.{tree_at, commit_view}
use Rattle.ost_commit.specs.Commits.{bound_to, commit_of_tree}
use Rattle.ost_commit.specs.Shows.{plain_meta, Shows, IsTree, AreGood}
use Rattle.ost_commit.specs.Built.{BuiltCommit}
use Rattle.ost_commit.proofs.Keys.{AreDistinct}
use Rattle.ost_commit.proofs.Reading.{commit_good, dirmeta_good, named_if_good, none_related}
use Rattle.ost_commit.proofs.Holding.{holds_rows, there_rows}
use Rattle.ost_commit.proofs.Having.{IsGood, all_good, all, file_have, tree_have, meta_have, commit_have, are_apart, are_good}
use Rattle.ost_commit.proofs.Showing.{seen, plain_below, whole}

pub built_commit : (rows : List TreeRow) (r : Ref) (subject : List ℕ) (timestamp : ℕ) (built : Built) (root meta : List ℕ) → IsTree (says rows)
    → commit_at (have_of built.objects) built.commit ≡ Some (commit_of_tree r subject timestamp root meta)
    → Shows (have_of built.objects) (says rows) 65 [] (root_row (commit_of_tree r subject timestamp root meta))
    → AreGood (have_of built.objects) → length (order (have_of built.objects) built.commit) ≤ 200000
    → AllByRecursion (Holds (have_of built.objects)) rows → AllByRecursion IsNamed built.objects → AreApart built.objects
    → BuiltCommit rows r subject timestamp built
built_commit rows r subject timestamp built root meta tree commit shows good few holds named apart =
    let have = have_of built.objects in
    let c = commit_of_tree r subject timestamp root meta in
    record {
      root = root;
      meta = meta;
      commit = commit;
      paths = λ path. (seen have (says rows) built.commit c tree commit shows path).is;
      directories = λ path e found. plain_below have (says rows) path (look have built.commit path) e (seen have (says rows) built.commit c tree commit shows path) found;
      contents = holds;
      whole = whole have (says rows) good built.commit c commit shows few;
      named = named;
      apart = apart;
    }

built_is : (b : Built) (c : List ℕ) (os : List BuiltObject) → b.commit ≡ c → b.objects ≡ os → b ≡ record { commit = c; objects = os }
built_is b c os e f = ap (λ x. record { commit = x; objects = b.objects }) e ∙ ap (λ y. record { commit = c; objects = y }) f

-- all parts of a commit, put together
pub assembled : (rows : List TreeRow) (r : Ref) (subject : List ℕ) (timestamp : ℕ) (folders : List Folder) (digests : List (List ℕ)) (contents : List (List ℕ × Object)) (meta commit : List ℕ) (made : Dirtrees) (built : Built)
    → Gathers rows (says rows) folders → AreDigests rows digests → AreContents rows contents → AreDistinct contents → AreDistinct made.trees.entries → AreUsable kinds.DirTree made.trees.entries
    → IsRootWritten rows (says rows) digests (meta_digest meta) made → meta_read meta ≡ Ok plain_meta → commit_read commit ≡ Ok (commit_of_tree r subject timestamp made.root (meta_digest meta))
    → AreObjectsOf contents made.trees.entries meta commit built.objects → built.commit ≡ meta_digest commit → BuiltCommit rows r subject timestamp built
assembled rows r subject timestamp folders digests contents meta commit made built gathers are held files dirs usable root plain reads objects_are commit_is =
    let os = all contents made.trees.entries meta commit in
    let have = have_of os in
    let c = commit_of_tree r subject timestamp made.root (meta_digest meta) in
    let good = are_good contents made.trees.entries meta commit files dirs held.usable usable (dirmeta_good meta plain) (commit_good commit c reads) in
    let holds = holds_rows have contents (file_have contents made.trees.entries meta commit) rows held.there in
    let trees : HasTrees made.trees.entries have = record { each = tree_have contents made.trees.entries meta commit } in
    let support : Supports rows digests (meta_digest meta) have = record {
      there = there_rows have rows digests holds are;
      plain = ap (read_as meta_of) (meta_have contents made.trees.entries meta commit) ∙ ap if_read plain;
    } in
    let at : commit_at have (meta_digest commit) ≡ Some c = ap (read_as commit_of) (commit_have contents made.trees.entries meta commit) ∙ ap if_read reads in
    let below = ap (λ v. length (below_commit have v)) at in
    let many = subst (λ t. length (dir_places have 65 0 (row_of t (meta_digest meta))) ≤ root.done.places) root.root (root.written.few have trees 65 0) in
    let few : length (order have (meta_digest commit)) ≤ 200000 = omega (arith, below, many, root.written.small) in
    let same = built_is built (meta_digest commit) os commit_is objects_are in
    subst (BuiltCommit rows r subject timestamp) (sym same)
    (built_commit rows r subject timestamp (record { commit = meta_digest commit; objects = os }) made.root (meta_digest meta) gathers.tree at
    (subst (λ t. Shows have (says rows) 65 [] (row_of t (meta_digest meta))) root.root (root.written.shows have trees support))
    (all_good os good) few holds (all_to IsGood IsNamed (λ o h. named_if_good o.digest o.kind o.object h) os good) (are_apart contents made.trees.entries meta commit files dirs))

-- what a commit says, by what its fields say
pub commit_said : (metadata related subject body : List ℕ) (r : Ref) (s : List ℕ) (timestamp : ℕ) (tree meta : List ℕ) → tree_at dictionary_shape metadata ≡ bound_to r → related ≡ [] → subject ≡ s → body ≡ []
    → commit_view (record { metadata = metadata; parent = None; related = related; subject = subject; body = body; timestamp = timestamp; tree = tree; meta = meta }) ≡ commit_of_tree r s timestamp tree meta
commit_said metadata related subject body r s timestamp tree meta m e t b =
    let rel : tree_at related_shape related ≡ Tree.array no_trees = ap (tree_at related_shape) e ∙ none_related in
    cc (m, rel, t, b)
