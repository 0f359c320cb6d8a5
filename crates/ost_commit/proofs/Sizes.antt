-- Objects that no bytes are.
use Rattle.std.proofs.Common.{◌≡◌, ◌≢◌, ◌≤◌, ◌+◌, ℕ, zero, suc, List, [], ◌∷◌, ◌++◌, length, Bool, true, false, Some, refl, sym, ap, subst, ◌∙◌, arith}
use Rattle.std.specs.Prelude.{◌&&◌, Ok}
use Rattle.std.specs.List.{list_all}
use Rattle.std.proofs.lemmas.Bool.{false≢true, and_parts}
use Rattle.std.proofs.lemmas.List.Folds.{list_all-append}
use Rattle.std.specs.List.Sorted.{IsStrictlySortedBy}
use Rattle.std.specs.Map.{keys_of}
use Rattle.std.specs.Ordering.{nat_cmp}
use Rattle.std.specs.Cmp.Lexicographic.{slice_cmp}
use Rattle.fp_host.specs.Paths.{Elements}
use Rattle.fp_name.specs.Hex.{is_digest}
use Rattle.fp_name.specs.Refs.{Ref}
use Rattle.fp_base.specs.declared.rule.Rule.TheVariants as rules
use Rattle.ost_model.specs.Types.{dictionary_shape}
use Rattle.ost_model.specs.Fields.{FileRow, DirRow}
use Rattle.ost_model.specs.Readers.{meta_read, tree_read}
use Rattle.ost_object.specs.declared.error.ObjectError.TheVariants as errors
use Rattle.ost_object.proofs.Lengths.{unbroken}
use Rattle.ost_object.proofs.OneTree.{long_digest}
use Rattle.ost_object.proofs.OneCommit.{no_metadata}
use Rattle.ost_commit.specs.declared.limits.TheConstants.{MOST_NAMES}
use Rattle.ost_commit.specs.declared.row.TreeRow.{TreeRow}
use Rattle.ost_commit.specs.declared.tree.Child.{Child}
use Rattle.ost_commit.specs.declared.tree.Child.TheVariants as child
use Rattle.ost_commit.specs.declared.tree.Folder.{Folder}
use Rattle.ost_commit.specs.Rows.{Said, no_entry}
use Rattle.ost_commit.specs.Refusals.{is_content}
use Rattle.ost_commit.specs.Folders.{At, child_in, child_said, Gathers, names_in, AreFew}
use Rattle.ost_commit.specs.Entries.{Names, tree_rows}
use Rattle.ost_commit.specs.Commits.{bound_to, commit_of_tree}
use Rattle.ost_commit.specs.Shows.{plain_meta}
use Rattle.ost_commit.specs.Sizes.{has_digest, has_digests, IsUnwritten, IsLargeDirectory, IsLargeCommit}
use Rattle.ost_commit.specs.Writing.{HasNoBytes}
use Rattle.ost_commit.proofs.Keys.{here}

and_true : (a b : Bool) → a ≡ true → b ≡ true → (a && b) ≡ true
and_true true b x y = y
and_true false b x y = absurd (false≢true x)

-- the dirmeta of each directory has bytes
abbrev pub plain_bytes : List ℕ
plain_bytes = 0 ∷ 0 ∷ 0 ∷ 0 ∷ 0 ∷ 0 ∷ 0 ∷ 0 ∷ 0 ∷ 0 ∷ 65 ∷ 237 ∷ []

pub plain_reads : meta_read plain_bytes ≡ Ok plain_meta
plain_reads = refl

-- where its binding has no bytes, the commit has none
pub large_binding : (r : Ref) (subject : List ℕ) (timestamp : ℕ) (tree meta : List ℕ) → is_digest tree ≡ true → is_digest meta ≡ true → HasNoBytes dictionary_shape (bound_to r) → IsLargeCommit r subject timestamp
large_binding r subject timestamp tree meta good_tree good_meta none =
    let y = commit_of_tree r subject timestamp tree meta in
    record {
      tree = tree;
      meta = meta;
      tree_digest = good_tree;
      meta_digest = good_meta;
      none = (no_metadata y (errors.Malformed rules.Value) (unbroken y refl (long_digest tree good_tree) (long_digest meta good_meta)) (refl, none)).1;
    }

-- digests after one more
pub named_files : (fs gs : List FileRow) (ds es : List DirRow) (x : FileRow) → gs ≡ fs ++ x ∷ [] → es ≡ ds → is_digest x.digest ≡ true → (list_all has_digest fs && list_all has_digests ds) ≡ true → (list_all has_digest gs && list_all has_digests es) ≡ true
named_files fs gs ds es x is same good all =
    let parts = and_parts (list_all has_digest fs) (list_all has_digests ds) all in
    and_true (list_all has_digest gs) (list_all has_digests es)
    (ap (list_all has_digest) is ∙ (list_all-append has_digest fs (x ∷ []) ∙ and_true (list_all has_digest fs) (is_digest x.digest && true) parts.0 (ap (λ b. b && true) good)))
    (ap (list_all has_digests) same ∙ parts.1)

pub named_dirs : (fs gs : List FileRow) (ds es : List DirRow) (x : DirRow) → gs ≡ fs → es ≡ ds ++ x ∷ [] → is_digest x.tree ≡ true → is_digest x.meta ≡ true → (list_all has_digest fs && list_all has_digests ds) ≡ true → (list_all has_digest gs && list_all has_digests es) ≡ true
named_dirs fs gs ds es x same is good_tree good_meta all =
    let parts = and_parts (list_all has_digest fs) (list_all has_digests ds) all in
    and_true (list_all has_digest gs) (list_all has_digests es)
    (ap (list_all has_digest) same ∙ parts.0)
    (ap (list_all has_digests) is ∙ (list_all-append has_digests ds (x ∷ []) ∙ and_true (list_all has_digests ds) (has_digests x && true) parts.1 (ap (λ b. b && true) (and_true (is_digest x.tree) (is_digest x.meta) good_tree good_meta))))

names_at : (folders : List Folder) (n : ℕ) (f : Folder) → At folders n f → length f.children.entries ≤ names_in folders
names_at [] n f at = absurd at
names_at (g ∷ folders) zero f at = let same = ap (λ (h : Folder). length h.children.entries) at in omega (arith, same)
names_at (g ∷ folders) (suc n) f at = let more = names_at folders n f at in omega (arith, more)

-- a directory of the rows
pub large_directory : (rows : List TreeRow) (said : Elements → Said) (folders : List Folder) (n : ℕ) (f : Folder) (names : Names) → Gathers rows said folders → AreFew folders → At folders n f
    → IsStrictlySortedBy (slice_cmp nat_cmp) (keys_of f.children.entries) → IsUnwritten (tree_rows names f.children.entries) → IsLargeDirectory rows said
large_directory rows said folders n f names gathers few at ordered none = record {
  path = f.path;
  directory = gathers.path n f at;
  entries = f.children.entries;
  each = λ x. gathers.each n f x at;
  inside = λ x k is. (gathers.inside n f x k at is).1;
  named = λ x c is. gathers.named n f x c at is;
  ordered = ordered;
  few = let many = names_at folders n f at in let most = few.names in omega (arith, many, most);
  names = names;
  none = none;
}

-- a directory with nothing in it
empty_reads : tree_read (0 ∷ []) ≡ Ok (record { files = []; dirs = [] })
empty_reads = refl

pub large_has_a_name : (rows : List TreeRow) (said : Elements → Said) (d : IsLargeDirectory rows said) → ((x : List ℕ) → said (x ∷ d.path) ≡ no_entry) → ⊥
large_has_a_name rows said d none = go d.entries refl
  where
    by_child : (x : List ℕ) (c : Child) → child_in d.entries x ≡ Some c → child_said rows (Some c) ≡ no_entry → ⊥
    by_child x (child.Content k) is nothing = false≢true (sym (ap is_content nothing) ∙ d.inside x k is)
    by_child x (child.Folder j) is nothing = absurd (cc nothing)

    go : (es : List (List ℕ × Child)) → d.entries ≡ es → ⊥
    go [] is = d.none.none (0 ∷ []) (empty_reads ∙ ap (λ (l : List (List ℕ × Child)). Ok (tree_rows d.names l)) (sym is))
    go (e ∷ es) is =
        let at = ap (λ (l : List (List ℕ × Child)). child_in l e.0) is ∙ here e.0 e.1 es in
        by_child e.0 e.1 at (sym (ap (child_said rows) at) ∙ (d.each e.0 ∙ none e.0))
