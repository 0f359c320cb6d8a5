-- Directories that are written, from the deepest to the root.
use Rattle.std.proofs.Common.{◌≡◌, ◌⊎◌, inl, inr, ◌<◌, ◌≤◌, ◌+◌, ℕ, zero, suc, List, [], ◌∷◌, ◌++◌, append_assoc, length, get_or, Some, refl, sym, ◌∙◌, ap, subst, arith, length-append}
use Rattle.std.specs.Prelude.{◌≢◌, slice_set}
use Rattle.std.specs.List.{AllByRecursion}
use Rattle.fp_host.specs.Paths.{Elements}
use Rattle.ost_model.specs.declared.object.Object.{Object}
use Rattle.ost_model.specs.declared.object.Object.TheVariants as objects
use Rattle.ost_model.specs.Fields.{DirRow, FileRow}
use Rattle.ost_model.specs.Readers.{tree_of}
use Rattle.ost_model.specs.Objects.{Have}
use Rattle.ost_model.specs.Order.{each_in, inside, dir_places, file_places, read_as, tree_at}
use Rattle.ost_commit.specs.declared.row.TreeRow.{TreeRow}
use Rattle.ost_commit.specs.declared.tree.Child.{Child}
use Rattle.ost_commit.specs.declared.tree.Child.TheVariants as child
use Rattle.ost_commit.specs.declared.tree.Folder.{Folder}
use Rattle.ost_commit.specs.declared.directories.Done.{Done}
use Rattle.ost_commit.specs.declared.directories.Dirtrees.{Dirtrees}
use Rattle.ost_commit.specs.Rows.{Said}
use Rattle.ost_commit.specs.Digests.{AreDigests}
use Rattle.ost_commit.specs.Folders.{At, child_in, Gathers}
use Rattle.ost_commit.specs.Entries.{Names, with_file, with_dir, file_rows, dir_rows, tree_rows}
use Rattle.ost_commit.specs.Tables.{object_in}
use Rattle.ost_commit.specs.Trees.{done_at, names_of, child_places, places_in, IsAmong, AreAmong, AddsTree, row_of, HasTrees, IsWritten, IsRootWritten}
use Rattle.ost_commit.proofs.Places.{at_within, at_one, more_left, more_right}
use Rattle.ost_commit.proofs.Gathering.{num_cases}
use Rattle.ost_commit.proofs.Keys.{AreDistinct, at_keys}
use Rattle.ost_commit.proofs.Having.{digest_at, digests_many}
use Rattle.ost_commit.proofs.Building.{shows_folder}

-- ---- entries, one after another

one_file : (names : Names) (x : List ℕ) (c : Child) (fs : List FileRow) → with_file names x c [] ++ fs ≡ with_file names x c fs
one_file names x (child.Content k) fs = refl
one_file names x (child.Folder j) fs = refl

one_dir : (names : Names) (x : List ℕ) (c : Child) (ds : List DirRow) → with_dir names x c [] ++ ds ≡ with_dir names x c ds
one_dir names x (child.Content k) ds = refl
one_dir names x (child.Folder j) ds = refl

pub next_files : (names : Names) (x : List ℕ) (c : Child) (es rest : List (List ℕ × Child)) (old new all : List FileRow) → es ≡ (x, c) ∷ rest → new ≡ old ++ with_file names x c [] → old ++ file_rows names es ≡ all → new ++ file_rows names rest ≡ all
next_files names x c es rest old new all is added before =
    ap (λ l. l ++ file_rows names rest) added ∙ (append_assoc old (with_file names x c []) (file_rows names rest)
    ∙ (ap (λ l. old ++ l) (one_file names x c (file_rows names rest) ∙ sym (ap (file_rows names) is)) ∙ before))

pub next_dirs : (names : Names) (x : List ℕ) (c : Child) (es rest : List (List ℕ × Child)) (old new all : List DirRow) → es ≡ (x, c) ∷ rest → new ≡ old ++ with_dir names x c [] → old ++ dir_rows names es ≡ all → new ++ dir_rows names rest ≡ all
next_dirs names x c es rest old new all is added before =
    ap (λ l. l ++ dir_rows names rest) added ∙ (append_assoc old (with_dir names x c []) (dir_rows names rest)
    ∙ (ap (λ l. old ++ l) (one_dir names x c (dir_rows names rest) ∙ sym (ap (dir_rows names) is)) ∙ before))

-- ---- how many objects there are

same_row : (have : Have) (levels depth : ℕ) (e : DirRow) → dir_places have levels depth e ≡ dir_places have levels depth (row_of e.tree e.meta)
same_row have zero depth e = refl
same_row have (suc levels) depth e = refl

abbrev FewBelow : Have → List ℕ → List Done → Child → Type 0
FewBelow have meta ds (child.Content k) = Unit {0}
FewBelow have meta ds (child.Folder j) = (levels depth : ℕ) → length (dir_places have levels depth (row_of (done_at ds j).tree meta)) ≤ (done_at ds j).places

few_inside : (have : Have) (contents : List (List ℕ)) (meta : List ℕ) (ds : List Done) (levels depth : ℕ) (es : List (List ℕ × Child)) → AllByRecursion (λ e. FewBelow have meta ds e.1) es
    → length (file_places depth (file_rows (names_of contents meta ds) es)) + length (each_in (dir_places have levels (suc depth)) (dir_rows (names_of contents meta ds) es)) ≤ places_in ds es
few_inside have contents meta ds levels depth [] all = omega arith
few_inside have contents meta ds levels depth (e ∷ es) all = go e.0 e.1 all.0 (few_inside have contents meta ds levels depth es all.1)
  where
    go : (x : List ℕ) (c : Child) → FewBelow have meta ds c
        → length (file_places depth (file_rows (names_of contents meta ds) es)) + length (each_in (dir_places have levels (suc depth)) (dir_rows (names_of contents meta ds) es)) ≤ places_in ds es
        → length (file_places depth (with_file (names_of contents meta ds) x c (file_rows (names_of contents meta ds) es)))
        + length (each_in (dir_places have levels (suc depth)) (with_dir (names_of contents meta ds) x c (dir_rows (names_of contents meta ds) es))) ≤ child_places ds c + places_in ds es
    go x (child.Content k) few h = omega (arith, h)
    go x (child.Folder j) few h =
        let e : DirRow = record { name = x; tree = (done_at ds j).tree; meta = meta } in
        let one = few levels (suc depth) in
        let same = ap length (same_row have levels (suc depth) e) in
        let both = length-append (dir_places have levels (suc depth) e) (each_in (dir_places have levels (suc depth)) (dir_rows (names_of contents meta ds) es)) in
        omega (arith, h, one, same, both)

few_places : (have : Have) (contents : List (List ℕ)) (meta : List ℕ) (ds : List Done) (t : List ℕ) (es : List (List ℕ × Child)) (n : ℕ) → tree_at have t ≡ Some (tree_rows (names_of contents meta ds) es) → n ≡ 2 + places_in ds es
    → AllByRecursion (λ e. FewBelow have meta ds e.1) es → (levels depth : ℕ) → length (dir_places have levels depth (row_of t meta)) ≤ n
few_places have contents meta ds t es n reads many all zero depth = omega (arith, many)
few_places have contents meta ds t es n reads many all (suc levels) depth =
    let names = names_of contents meta ds in
    let same = ap (λ v. length (inside (dir_places have levels (suc depth)) depth v)) reads in
    let both = length-append (file_places depth (file_rows names es)) (each_in (dir_places have levels (suc depth)) (dir_rows names es)) in
    let few = few_inside have contents meta ds levels depth es all in
    omega (arith, same, both, few, many)

-- ---- the directories of a tree

-- a directory that was written stays so where dirtrees come
pub stays_written : (rows : List TreeRow) (said : Elements → Said) (contents : List (List ℕ)) (meta : List ℕ) (old new : List (List ℕ × Object)) (path : Elements) (done : Done)
    → ((q : List ℕ) (o : Object) → object_in old q ≡ Some o → object_in new q ≡ Some o) → IsWritten rows said contents meta old path done → IsWritten rows said contents meta new path done
stays_written rows said contents meta old new path done kept w = record {
  shows = λ have has support. w.shows have (record { each = λ d o h. has.each d o (kept d o h) }) support;
  few = λ have has. w.few have (record { each = λ d o h. has.each d o (kept d o h) });
  small = w.small;
}

module _ (rows : List TreeRow) (said : Elements → Said) (folders : List Folder) (gathers : Gathers rows said folders) (contents : List (List ℕ)) (digests : AreDigests rows contents) where
  -- each child of a directory is a row, or a directory that comes later
  among : (i : ℕ) (f : Folder) → At folders i f → (n : ℕ) → length folders ≤ n → (x : List ℕ) (c : Child) → child_in f.children.entries x ≡ Some c → IsAmong (length contents) n c
  among i f at n long x (child.Content k) is = let k_in = (gathers.inside i f x k at is).0 in omega (arith, k_in, digests_many rows contents digests)
  among i f at n long x (child.Folder j) is = let b = gathers.below i f x j at is in let within = at_within folders j b.1.0 b.1.1 in omega (arith, within, long)

  pub are_among : (i : ℕ) (f : Folder) → At folders i f → AreDistinct f.children.entries → (n : ℕ) → length folders ≤ n → AreAmong (length contents) n f.children.entries
  are_among i f at distinct n long = go f.children.entries (at_keys (λ e. IsAmong (length contents) n e.1) f.children.entries distinct (among i f at n long))
    where
      go : (es : List (List ℕ × Child)) → AllByRecursion (λ e. IsAmong (length contents) n e.1) es → AreAmong (length contents) n es
      go [] all = tt
      go (e ∷ es) all = (all.0, go es all.1)

  module _ (meta : List ℕ) (old new : List (List ℕ × Object)) (ds : List Done) (n : ℕ) (f : Folder) (at : At folders n f) (distinct : AreDistinct f.children.entries) (done : Done)
      (adds : AddsTree contents meta ds f.children.entries old new done) (before : (i : ℕ) (g : Folder) → At folders i g → n < i → IsWritten rows said contents meta old g.path (done_at ds i)) where
    kept_trees : (have : Have) → HasTrees new have → HasTrees old have
    kept_trees have has = record { each = λ d o h. has.each d o (adds.puts.kept d o h) }

    reads : (have : Have) → HasTrees new have → tree_at have done.tree ≡ Some (tree_rows (names_of contents meta ds) f.children.entries)
    reads have has = ap (read_as tree_of) (has.each done.tree (objects.Meta adds.bytes) adds.puts.there) ∙ adds.reads

    below : (have : Have) → HasTrees new have → (x : List ℕ) (c : Child) → child_in f.children.entries x ≡ Some c → FewBelow have meta ds c
    below have has x (child.Content k) is = tt
    below have has x (child.Folder j) is = let b = gathers.below n f x j at is in (before j b.1.0 b.1.1 b.0).few have (kept_trees have has)

    -- the next directory
    pub now_written : IsWritten rows said contents meta new f.path done
    now_written = record {
      shows = λ have has support. shows_folder rows said folders gathers have (names_of contents meta ds) (digest_at rows contents digests) support.there support.plain n f done.tree at distinct (reads have has)
          (λ j g a low. (before j g a low).shows have (kept_trees have has) support);
      few = λ have has. few_places have contents meta ds done.tree f.children.entries done.places (reads have has) adds.places (at_keys (λ e. FewBelow have meta ds e.1) f.children.entries distinct (below have has));
      small = adds.few;
    }

-- ---- one directory after another, the last first

pub set_here : (ds : List Done) (n : ℕ) (d : Done) → n < length ds → done_at (slice_set ds n d) n ≡ d
set_here [] n d low = absurd (omega (arith, low))
set_here (x ∷ ds) zero d low = refl
set_here (x ∷ ds) (suc n) d low = set_here ds n d (omega (arith, low))

pub set_other : (ds : List Done) (n : ℕ) (d : Done) (i : ℕ) → i ≢ n → done_at (slice_set ds n d) i ≡ done_at ds i
set_other [] n d i apart = refl
set_other (x ∷ ds) zero d zero apart = absurd (apart refl)
set_other (x ∷ ds) zero d (suc i) apart = refl
set_other (x ∷ ds) (suc n) d zero apart = refl
set_other (x ∷ ds) (suc n) d (suc i) apart = set_other ds n d i (λ e. apart (ap suc e))

abbrev pub AllWritten : List Folder → List (List ℕ) → List ℕ → List (List ℕ × Object) → List Done → ℕ → Type 0
AllWritten folders contents meta trees ds n = (rows : List TreeRow) (said : Elements → Said) → Gathers rows said folders → AreDigests rows contents
    → (i : ℕ) (f : Folder) → At folders i f → n ≤ i → IsWritten rows said contents meta trees f.path (done_at ds i)

module _ (folders : List Folder) (before after : List Folder) (f : Folder) (popped : before ≡ after ++ f ∷ []) (left : (i : ℕ) (g : Folder) → At before i g → At folders i g) where
  pub left_next : (i : ℕ) (g : Folder) → At after i g → At folders i g
  left_next i g a = left i g (subst (λ l. At l i g) (sym popped) (more_left after (f ∷ []) i g a))

  pub last_at : At folders (length after) f
  last_at = left (length after) f (subst (λ l. At l (length after) f) (sym popped) (more_right after (f ∷ []) (length after) 0 f (omega arith) refl))

  pub written_next : (contents : List (List ℕ)) (meta : List ℕ) (old new : List (List ℕ × Object)) (ds : List Done) (done : Done) → length ds ≡ length folders → AreDistinct f.children.entries
      → AddsTree contents meta ds f.children.entries old new done → AllWritten folders contents meta old ds (length before) → AllWritten folders contents meta new (slice_set ds (length after) done) (length after)
  written_next contents meta old new ds done long distinct adds all rows said gathers digests i g a low = go (num_cases i (length after))
    where
      shorter : length before ≡ suc (length after)
      shorter = ap length popped ∙ (let both = length-append after (f ∷ []) in omega (arith, both))

      go : (i ≡ length after) ⊎ (i ≢ length after) → IsWritten rows said contents meta new g.path (done_at (slice_set ds (length after) done) i)
      go (inl e) =
          let same : f ≡ g = at_one folders (length after) f g last_at (subst (λ n. At folders n g) e a) in
          let within = at_within folders (length after) f last_at in
          let set : done_at (slice_set ds (length after) done) i ≡ done = ap (done_at (slice_set ds (length after) done)) e ∙ set_here ds (length after) done (omega (arith, within, long)) in
          subst (λ d. IsWritten rows said contents meta new g.path d) (sym set) (subst (λ (h : Folder). IsWritten rows said contents meta new h.path done) same
          (now_written rows said folders gathers contents digests meta old new ds (length after) f last_at distinct done adds
          (λ j h b above. all rows said gathers digests j h b (omega (arith, shorter, above)))))
      go (inr n) =
          subst (λ d. IsWritten rows said contents meta new g.path d) (sym (set_other ds (length after) done i n))
          (stays_written rows said contents meta old new g.path (done_at ds i) adds.puts.kept (all rows said gathers digests i g a (apart_up n)))
        where
          apart_up : i ≢ length after → length before ≤ i
          apart_up n = omega (arith, shorter, low, n)

any_done : (ds : List Done) (d : Done) → 0 < length ds → d ≡ get_or ds 0 d → d.tree ≡ (done_at ds 0).tree
any_done [] d low is = absurd (omega (arith, low))
any_done (x ∷ ds) d low is = ap (λ (e : Done). e.tree) is

-- where all are written, the root is
pub root_written : (rows : List TreeRow) (said : Elements → Said) (folders : List Folder) (contents : List (List ℕ)) (meta : List ℕ) (made : Dirtrees) (ds : List Done) → Gathers rows said folders → AreDigests rows contents
    → AllWritten folders contents meta made.trees.entries ds 0 → length ds ≡ length folders → (d : Done) → d ≡ get_or ds 0 d → made.root ≡ d.tree → IsRootWritten rows said contents meta made
root_written rows said folders contents meta made ds gathers digests all long d read is = let root = gathers.root in record {
  done = done_at ds 0;
  root = sym (is ∙ any_done ds d (omega (arith, long, at_within folders 0 root.0 root.1)) read);
  written = subst (λ p. IsWritten rows said contents meta made.trees.entries p (done_at ds 0)) root.2 (all rows said gathers digests 0 root.0 root.1 (omega arith));
}
