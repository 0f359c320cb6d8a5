-- Rows that are taken, one after another.
use Rattle.std.proofs.Common.{◌≡◌, ◌≢◌, inl, inr, ◌<◌, ◌≤◌, ◌+◌, ℕ, zero, suc, List, [], ◌∷◌, ◌++◌, append-nil, length, Bool, true, false, not, Option, Some, None, refl, sym, ◌∙◌, ap, subst, arith}
use Rattle.std.specs.Prelude.{if◌then◌else◌, slice_set, is_some}
use Rattle.std.specs.List.{AllByRecursion}
use Rattle.std.proofs.lemmas.Bool.{false≢true}
use Rattle.std.proofs.lemmas.List.{length-set}
use Rattle.fp_base.proofs.Booleans.{and_first}
use Rattle.fp_base.proofs.Options.{none_some, none_if_not_some}
use Rattle.fp_host.specs.Paths.{Elements, is_element}
use Rattle.ost_commit.specs.declared.row.TreeRow.{TreeRow}
use Rattle.ost_commit.specs.declared.tree.Child.{Child}
use Rattle.ost_commit.specs.declared.tree.Child.TheVariants as child
use Rattle.ost_commit.specs.declared.tree.Folder.{Folder}
use Rattle.ost_commit.specs.declared.tree.Tree.{Tree}
use Rattle.ost_commit.specs.Rows.{Said, no_entry, a_directory, content, row_path, put_by, says}
use Rattle.ost_commit.specs.Refusals.{is_good_row, is_nothing, is_content, new_names, is_taken, refused_remainder}
use Rattle.ost_commit.specs.Folders.{At, child_in, folder_place, child_said, put_at, with_entry, with_row, Gathers, HasNew, new_at, new_root_at, Entered, Enters, TakesFolder, TakesContent}
use Rattle.ost_commit.proofs.Places.{at_within, more_right}
use Rattle.ost_commit.proofs.Counting.{counts_same, counts_name, counts_folder}
use Rattle.ost_commit.proofs.Saying.{says_push}
use Rattle.ost_commit.proofs.Gathering.{IsTail, gathers_more}
use Rattle.ost_commit.proofs.Entering.{gathers_same, dir_again}

-- ---- a directory that is entered

module _ (rows : List TreeRow) (said : Elements → Said) (old : Tree) (g : Gathers rows said old.folders.items) (i : ℕ) (f : Folder) (at : At old.folders.items i f) (x : List ℕ) where
  pub entered_old : (j : ℕ) → child_in f.children.entries x ≡ Some (child.Folder j) → Entered rows said (x ∷ f.path) old old j
  entered_old j is =
      let there : said (x ∷ f.path) ≡ a_directory = sym (g.each i f x at) ∙ ap (child_said rows) is in
      record {
        clear = ap is_content there;
        gathers = gathers_same rows said (with_entry said (x ∷ f.path) a_directory) old.folders.items (λ q. dir_again said (x ∷ f.path) q there) g;
        at = let b = g.below i f x j at is in record { folder = b.1.0; at = b.1.1; is = b.1.2 };
        names = let none : new_at said (x ∷ f.path) ≡ 0 = ap (λ s. if is_nothing s then 1 else 0) there in omega (arith, none);
        counts = counts_same old;
      }

  pub entered_content : (k : ℕ) → child_in f.children.entries x ≡ Some (child.Content k) → is_content (said (x ∷ f.path)) ≡ true
  entered_content k is = ap is_content (sym (g.each i f x at) ∙ ap (child_said rows) is) ∙ (g.inside i f x k at is).1

  -- what stands there is a directory of before, or none
  pub entered_known : (c : Child) → child_in f.children.entries x ≡ Some c → Enters rows said (x ∷ f.path) old old (folder_place c)
  entered_known (child.Content k) is = entered_content k is
  entered_known (child.Folder j) is = entered_old j is

  said_none : child_in f.children.entries x ≡ None → said (x ∷ f.path) ≡ no_entry
  said_none is = sym (g.each i f x at) ∙ ap (child_said rows) is

  pub entered_new : (f' h : Folder) (new : Tree) → child_in f.children.entries x ≡ None → is_element x ≡ true → length (x ∷ f.path) ≤ 64 → HasNew f f' x (child.Folder (length old.folders.items))
      → h.path ≡ x ∷ f.path → h.children.entries ≡ [] → new.folders.items ≡ slice_set old.folders.items i f' ++ h ∷ [] → new.names ≡ old.names + 1
      → Entered rows said (x ∷ f.path) old new (length old.folders.items)
  entered_new f' h new none element low has path empty folders names = record {
    clear = ap is_content (said_none none);
    gathers = subst (Gathers rows (with_entry said (x ∷ f.path) a_directory)) (sym folders)
        (gathers_more rows said old.folders.items g i f at x element (said_none none) f' (child.Folder (length old.folders.items)) has (h ∷ []) tail (inl low) (λ k e. absurd (cc e)));
    at = record { folder = h; at = subst (λ l. At l (length old.folders.items) h) (sym folders) (more_right (slice_set old.folders.items i f') (h ∷ []) (length old.folders.items) 0 h (omega (arith, length-set old.folders.items i f')) refl); is = path };
    names = let one : new_at said (x ∷ f.path) ≡ 1 = ap (λ s. if is_nothing s then 1 else 0) (said_none none) in omega (arith, names, one);
    counts = counts_folder old new i f f' at has.few names h empty folders;
  }
    where
      new_one : (k : ℕ) (n : Folder) → At (h ∷ []) k n → (k ≡ 0) × (n.path ≡ x ∷ f.path) × ((y : List ℕ) → child_in n.children.entries y ≡ None) × (child_said rows (Some (child.Folder (length old.folders.items))) ≡ a_directory)
      new_one zero n e = (refl, ap (λ (m : Folder). m.path) (sym e) ∙ path, (λ y. ap (λ (m : Folder). child_in m.children.entries y) (sym e) ∙ ap (λ es. child_in es y) empty), refl)
      new_one (suc k) n e = absurd e

      tail : IsTail old.folders.items (x ∷ f.path) a_directory (child.Folder (length old.folders.items)) (h ∷ [])
      tail = record { new = new_one; named = λ m e. (sym (number e), (h, refl, path)) }
        where
          number : {a b : ℕ} → child.Folder a ≡ child.Folder b → a ≡ b
          number e = cc

  -- ---- a file or link that is taken

  pub content_put : (r : TreeRow) (k : ℕ) (f' : Folder) (new : List Folder) → child_in f.children.entries x ≡ None → is_element x ≡ true → HasNew f f' x (child.Content k)
      → k < length rows → put_at rows k ≡ put_by r → is_content (put_by r) ≡ true → new ≡ slice_set old.folders.items i f' → Gathers rows (with_entry said (x ∷ f.path) (put_by r)) new
  content_put r k f' new none element has within puts is folders =
      subst (Gathers rows (with_entry said (x ∷ f.path) (put_by r))) (sym folders)
      (subst (λ v. Gathers rows (with_entry said (x ∷ f.path) v) (slice_set old.folders.items i f')) puts
      (subst (Gathers rows (with_entry said (x ∷ f.path) (put_at rows k))) (append-nil (slice_set old.folders.items i f'))
      (gathers_more rows said old.folders.items g i f at x element (said_none none) f' (child.Content k) has [] (record { new = λ n h a. absurd a; named = λ m e. absurd (cc e) }) (inr refl) inside)))
    where
      inside : (m : ℕ) → child.Content k ≡ child.Content m → (m < length rows) × (is_content (put_at rows m) ≡ true)
      inside m e = let same : k ≡ m = cc in subst (λ n. (n < length rows) × (is_content (put_at rows n) ≡ true)) same (within, ap is_content puts ∙ is)

-- ---- all rows

pub next_row : (before rest : List TreeRow) (r : TreeRow) (names names' : ℕ) (all : Option ℕ) → is_taken (says before) names r ≡ true → names' ≡ names + new_names (says before) (row_path r)
    → refused_remainder before names (r ∷ rest) ≡ all → refused_remainder (before ++ r ∷ []) names' rest ≡ all
next_row before rest r names names' all taken many e =
    ap (λ k. refused_remainder (before ++ r ∷ []) k rest) many
    ∙ (sym (ap (λ b. if b then refused_remainder (before ++ r ∷ []) (names + new_names (says before) (row_path r)) rest else Some (length before + 1)) taken) ∙ e)

pub refused_row : (before rest : List TreeRow) (r : TreeRow) (names : ℕ) (all : Option ℕ) → is_taken (says before) names r ≡ false → refused_remainder before names (r ∷ rest) ≡ all → all ≡ Some (length before + 1)
refused_row before rest r names all not_taken e =
    sym e ∙ ap (λ b. if b then refused_remainder (before ++ r ∷ []) (names + new_names (says before) (row_path r)) rest else Some (length before + 1)) not_taken

pub next_gathers : (rows before : List TreeRow) (r : TreeRow) (folders : List Folder) → Gathers rows (with_row (says before) r) folders → Gathers rows (says (before ++ r ∷ [])) folders
next_gathers rows before r folders g = gathers_same rows (with_row (says before) r) (says (before ++ r ∷ [])) folders (λ q. sym (says_push before r q)) g

-- each row is good by itself where none is refused
pub good_rows : (before : List TreeRow) (names : ℕ) (rs : List TreeRow) → refused_remainder before names rs ≡ None → AllByRecursion (λ r. is_good_row r ≡ true) rs
good_rows before names [] e = tt
good_rows before names (r ∷ rs) e = go (is_taken (says before) names r) refl (refused_remainder (before ++ r ∷ []) (names + new_names (says before) (row_path r)) rs) e
    (good_rows (before ++ r ∷ []) (names + new_names (says before) (row_path r)) rs)
  where
    go : (b : Bool) → is_taken (says before) names r ≡ b → (rest : Option ℕ) → (if b then rest else Some (length before + 1)) ≡ None
        → (rest ≡ None → AllByRecursion (λ s. is_good_row s ≡ true) rs) → AllByRecursion (λ s. is_good_row s ≡ true) (r ∷ rs)
    go true t rest h more = (and_first (is_good_row r) _ t, more h)
    go false t rest h more = absurd (cc h)

-- no rows

pub gathers_nothing : (rows : List TreeRow) (f : Folder) (folders : List Folder) → folders ≡ f ∷ [] → f.path ≡ [] → f.children.entries ≡ [] → Gathers rows (says []) folders
gathers_nothing rows f folders is path empty = subst (Gathers rows (says [])) (sym is) (record {
  tree = record { root = refl; closed = λ x up n. refl };
  root = (f, refl, path);
  path = λ i g a. ap (says []) (path_of i g a);
  shallow = λ i g a. subst (λ q. length q ≤ 64) (sym (path_of i g a)) (let low : 0 ≤ 64 = omega arith in low);
  each = λ i g x a. ap (child_said rows) (none_in i g x a);
  below = λ i g x j a h. absurd (none_some (sym (none_in i g x a) ∙ h));
  apart = λ i j g h a b e. (only i g a).0 ∙ sym (only j h b).0;
  inside = λ i g x k a h. absurd (none_some (sym (none_in i g x a) ∙ h));
  named = λ i g x c a h. absurd (none_some (sym (none_in i g x a) ∙ h));
})
  where
    only : (i : ℕ) (g : Folder) → At (f ∷ []) i g → (i ≡ 0) × (f ≡ g)
    only zero g a = (refl, a)
    only (suc i) g a = absurd a

    path_of : (i : ℕ) (g : Folder) → At (f ∷ []) i g → g.path ≡ []
    path_of i g a = sym (ap (λ (h : Folder). h.path) (only i g a).1) ∙ path

    none_in : (i : ℕ) (g : Folder) (x : List ℕ) → At (f ∷ []) i g → child_in g.children.entries x ≡ None
    none_in i g x a = sym (ap (λ (h : Folder). child_in h.children.entries x) (only i g a).1) ∙ ap (λ es. child_in es x) empty

-- ---- what was taken

put_at_is : (rows : List TreeRow) (k : ℕ) (r : TreeRow) → At rows k r → put_at rows k ≡ put_by r
put_at_is [] k r a = absurd a
put_at_is (s ∷ rows) zero r a = ap put_by a
put_at_is (s ∷ rows) (suc k) r a = put_at_is rows k r a

content_more : (s : Said) → is_content s ≡ true → is_nothing s ≡ false
content_more no_entry h = absurd (false≢true h)
content_more a_directory h = refl
content_more (content d) h = refl

module _ (rows : List TreeRow) (said : Elements → Said) (old : Tree) (g : Gathers rows said old.folders.items) (i : ℕ) (f : Folder) (at : At old.folders.items i f) (x : List ℕ) where
  not_nothing : is_some (child_in f.children.entries x) ≡ true → is_nothing (said (x ∷ f.path)) ≡ false
  not_nothing some = go (child_in f.children.entries x) refl some
    where
      go : (o : Option Child) → child_in f.children.entries x ≡ o → is_some o ≡ true → is_nothing (said (x ∷ f.path)) ≡ false
      go None is h = absurd (false≢true h)
      go (Some (child.Content k)) is h = content_more (said (x ∷ f.path)) (entered_content rows said old g i f at x k is)
      go (Some (child.Folder j)) is h = ap is_nothing (sym (g.each i f x at) ∙ ap (child_said rows) is)

  pub again_taken : (v : Said) → is_some (child_in f.children.entries x) ≡ true → TakesContent rows said (x ∷ f.path) v old old false
  again_taken v some = record {
    is = sym (not_nothing some);
    gathers = λ e. absurd (false≢true e);
    names = λ e. absurd (false≢true e);
    counts = λ e. absurd (false≢true e);
  }

  pub first_taken : (r : TreeRow) (k : ℕ) (f' : Folder) (new : Tree) → is_some (child_in f.children.entries x) ≡ false → is_element x ≡ true → HasNew f f' x (child.Content k)
      → At rows k r → is_content (put_by r) ≡ true → new.folders.items ≡ slice_set old.folders.items i f' → new.names ≡ old.names + 1 → TakesContent rows said (x ∷ f.path) (put_by r) old new true
  first_taken r k f' new none element has at_row is folders names = record {
    is = sym (ap is_nothing (said_none rows said old g i f at x (none_if_not_some (child_in f.children.entries x) none)));
    gathers = λ e. content_put rows said old g i f at x r k f' new.folders.items (none_if_not_some (child_in f.children.entries x) none) element has (at_within rows k r at_row) (put_at_is rows k r at_row) is folders;
    names = λ e. names;
    counts = λ e. counts_name old new i f f' at has.few names folders;
  }

pub took_folder : (rows : List TreeRow) (said : Elements → Said) (path : Elements) (old new : Tree) (found : Option ℕ) (b : Bool) → b ≡ is_some found → Enters rows said path old new found → path ≢ []
    → TakesFolder rows said path old new b
took_folder rows said path old new None b is e inner = record {
  is = is ∙ sym (ap not e);
  gathers = λ t. absurd (false≢true (sym is ∙ t));
  names = λ t. absurd (false≢true (sym is ∙ t));
  counts = λ t. absurd (false≢true (sym is ∙ t));
}
took_folder rows said path old new (Some j) b is e inner = record {
  is = is ∙ sym (ap not e.clear);
  gathers = λ t. e.gathers;
  names = λ t. e.names ∙ ap (λ n. old.names + n) (root_at path inner);
  counts = λ t. e.counts;
}
  where
    root_at : (p : Elements) → p ≢ [] → new_at said p ≡ new_root_at said p
    root_at [] n = absurd (n refl)
    root_at (y ∷ up) n = refl
