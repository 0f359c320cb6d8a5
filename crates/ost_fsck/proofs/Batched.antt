-- Paths that are read one after another, and then judged by the digests of their items.
use Rattle.std.proofs.Common.{◌≡◌, ◌<◌, ◌≤◌, ◌+◌, ◌-◌, ℕ, suc, zero, List, [], ◌∷◌, ◌++◌, take, drop, get_or, length, cond, Bool, true, false, Option, Some, None, refl, sym, ◌∙◌, ap, subst, arith, append_assoc, append-nil}
use Rattle.std.specs.Prelude.{slice_get, slice_range, option_map, count_by}
use Rattle.std.specs.List.{AllZip}
use Rattle.std.specs.Int.{from_bool}
use Rattle.std.proofs.lemmas.List.{drop_more, length-drop, length-take-le}
use Rattle.std.proofs.lemmas.List.Folds.{drop_split}
use Rattle.std.proofs.lemmas.List.Sums.{sum_by-append}
use Rattle.std.proofs.lemmas.Option.{slice_get-map}
use Rattle.std.proofs.Math.Seq.{take-suc, take-length}
use Rattle.fp_host.specs.Paths.{Elements}
use Rattle.fp_host.specs.View.{View}
use Rattle.fp_host.specs.Outcome.{shows}
use Rattle.fp_base.specs.declared.object.ObjKind.{ObjKind}
use Rattle.ost_model.specs.Objects.{object_path}
use Rattle.ost_store.specs.Names.{IsNamed, with_found}
use Rattle.par_digest.specs.Digests.{item_digest, item_digests}
use Rattle.par_digest.specs.declared.item.Item.{Item}
use Rattle.ost_fsck.specs.declared.report.Finding.{Finding}
use Rattle.ost_fsck.specs.declared.row.Row.{Row}
use Rattle.ost_fsck.specs.declared.row.Row.TheVariants as rows
use Rattle.ost_fsck.specs.Judging.{is_named, bad_unless, Looks}
use Rattle.ost_fsck.specs.Batches.{is_same, seen_by, finding_list, findings_by, objects_by, Grows, IsItemAt, IsRow, IsRowAt, AreRows, ChecksMore}
use Rattle.ost_fsck.proofs.Reporting.{SoFar, more_seen}

-- ---- a row

last_there : {A : Type 0} (xs : List A) (x : A) → slice_get (xs ++ x ∷ []) (length xs) ≡ Some x
last_there [] x = refl
last_there (y ∷ ys) x = last_there ys x

still_there : {A : Type 0} (xs ys : List A) (i : ℕ) (x : A) → slice_get xs i ≡ Some x → slice_get (xs ++ ys) i ≡ Some x
still_there [] ys i x is = absurd (cc is)
still_there (y ∷ xs) ys zero x is = is
still_there (y ∷ xs) ys (suc i) x is = still_there xs ys i x is

-- the item of an object is asked for
pub asked : (root path : Elements) (d : List ℕ) (kind : ObjKind) (v : View) (before after : List Item) (item : Item) (row : Row) → path ≡ object_path root d kind → IsItemAt kind path v (Some item)
    → row ≡ rows.Question d kind (length before) → after ≡ before ++ item ∷ [] → IsRowAt root d kind v after row
asked root path d kind v before after item row here is_item is pushed = subst (IsRowAt root d kind v after) (sym is) (
  refl,
  refl,
  record {
    item = item;
    there = subst (λ (l : List Item). slice_get l (length before) ≡ Some item) (sym pushed) (last_there before item);
    decides = ap (λ (p : Elements). is_named d kind (shows v p)) (sym here) ∙ is_item.decides d;
  },
)

pub grown : (before after : List Item) (item : Item) → after ≡ before ++ item ∷ [] → Grows before after
grown before after item is = record { more = item ∷ []; same = is }

pub as_before : (items : List Item) → Grows items items
as_before items = record { more = []; same = sym (append-nil items) }

-- what was read at an object's name was read at its path
pub named_row : (root path : Elements) (o : List ℕ × ObjKind) (v : View) (items : List Item) (row : Row) → IsNamed root path (Some o) → IsRowAt root o.0 o.1 v items row → IsRow root path v items row
named_row root path o v items (rows.Answer seen) named at = record {
  object = Some o;
  name = named;
  is = at.is;
  found = at.found ∙ ap (λ (p : Elements). bad_unless (is_named o.0 o.1 (shows v p)) o.0 o.1) (sym named.1);
}
named_row root path o v items (rows.Question d kind number) named at =
    let asks = at.2 in
    subst (λ (x : List ℕ × ObjKind). IsRow root path v items (rows.Question x.0 x.1 number)) (λ i. (sym at.0 i, sym at.1 i)) (
      named,
      record {
        item = asks.item;
        there = asks.there;
        decides = ap (λ (p : Elements). is_named o.0 o.1 (shows v p)) named.1 ∙ asks.decides;
      },
    )

-- more items change nothing
row_after : (root path : Elements) (v : View) (items more : List Item) (row : Row) → IsRow root path v items row → IsRow root path v (items ++ more) row
row_after root path v items more (rows.Answer seen) is = is
row_after root path v items more (rows.Question d kind number) is = (is.0, record { item = is.1.item; there = still_there items more number is.1.item is.1.there; decides = is.1.decides })

-- ---- rows

rows_after : (root : Elements) (paths : List Elements) (v : View) (items more : List Item) (read : List Row) → AreRows root paths v items read → AreRows root paths v (items ++ more) read
rows_after root [] v items more [] is = tt
rows_after root [] v items more (r ∷ rs) is = absurd is
rows_after root (p ∷ ps) v items more [] is = absurd is
rows_after root (p ∷ ps) v items more (r ∷ rs) is = (row_after root p v items more r is.0, rows_after root ps v items more rs is.1)

one_row_more : (root : Elements) (paths : List Elements) (v : View) (items : List Item) (read : List Row) (path : Elements) (row : Row) → AreRows root paths v items read → IsRow root path v items row → AreRows root (paths ++ path ∷ []) v items (read ++ row ∷ [])
one_row_more root [] v items [] path row is last = (last, tt)
one_row_more root [] v items (r ∷ rs) path row is last = absurd is
one_row_more root (p ∷ ps) v items [] path row is last = absurd is
one_row_more root (p ∷ ps) v items (r ∷ rs) path row is last = (is.0, one_row_more root ps v items rs path row is.1 last)

pub more_rows : (root : Elements) (paths : List Elements) (i : ℕ) (path : Elements) (v : View) (items items' : List Item) (read read' : List Row) (row : Row) → i < length paths → path ≡ get_or paths i path → AreRows root (take i paths) v items read
    → Grows items items' → IsRow root path v items' row → read' ≡ read ++ row ∷ [] → AreRows root (take (i + 1) paths) v items' read'
more_rows root paths i path v items items' read read' row low is so_far grows last pushed =
    let more : i + 1 ≡ suc i = omega arith in
    let taken : take (i + 1) paths ≡ take i paths ++ path ∷ [] = ap (λ (k : ℕ). take k paths) more ∙ take-suc paths i path low ∙ ap (λ (x : Elements). take i paths ++ x ∷ []) (sym is) in
    let before : AreRows root (take i paths) v items' read = subst (λ (l : List Item). AreRows root (take i paths) v l read) (sym grows.same) (rows_after root (take i paths) v items grows.more read so_far) in
    subst (AreRows root (take (i + 1) paths) v items') (sym pushed) (subst (λ (l : List Elements). AreRows root l v items' (read ++ row ∷ [])) (sym taken) (one_row_more root (take i paths) v items' read path row before last))

pub all_rows : (root : Elements) (paths : List Elements) (i : ℕ) (v : View) (items : List Item) (read : List Row) → length paths ≡ i → AreRows root (take i paths) v items read → AreRows root paths v items read
all_rows root paths i v items read is so_far = subst (λ (l : List Elements). AreRows root l v items read) (ap (λ (k : ℕ). take k paths) (sym is) ∙ take-length paths) so_far

-- ---- the judgement

module _ (root : Elements) (v : View) (digests : List (List ℕ)) where
  -- what was seen at a path by these digests
  abbrev IsSeen : Elements → Row → Type 0
  IsSeen path row = Looks root path v (seen_by digests row).is_object (seen_by digests row).finding

  judged : (items : List Item) (path : Elements) (row : Row) → digests ≡ item_digests items → IsRow root path v items row → IsSeen path row
  judged items path (rows.Answer seen) of is = is
  judged items path (rows.Question d kind number) of is = record {
    object = Some (d, kind);
    name = is.0;
    is = refl;
    found =
        let at : slice_get digests number ≡ Some (item_digest is.1.item) = ap (λ (l : List (List ℕ)). slice_get l number) of ∙ slice_get-map item_digest items number ∙ ap (option_map item_digest) is.1.there in
        ap (λ (o : Option (List ℕ)). bad_unless (is_same o d) d kind) at ∙ ap (λ b. bad_unless b d kind) (sym is.1.decides);
  }

  all_judged : (items : List Item) (paths : List Elements) (read : List Row) → digests ≡ item_digests items → AreRows root paths v items read → AllZip IsSeen paths read
  all_judged items [] [] of is = tt
  all_judged items [] (r ∷ rs) of is = absurd is
  all_judged items (p ∷ ps) [] of is = absurd is
  all_judged items (p ∷ ps) (r ∷ rs) of is = (judged items p r of is.0, all_judged items ps rs of is.1)

pub checked : (root : Elements) (paths : List Elements) (v : View) (items : List Item) (read : List Row) (digests : List (List ℕ)) (found found' : List Finding) (objects : ℕ) → digests ≡ item_digests items → AreRows root paths v items read
    → found' ≡ found ++ findings_by digests read → objects ≡ objects_by digests read → ChecksMore root paths v found found' objects
checked root paths v items read digests found found' objects of is added counted = record {
  digests = digests;
  read = read;
  looks = all_judged root v digests items paths read of is;
  findings = added;
  count = counted;
}

-- ---- batch after batch

pub pushed_as : (found : List Finding) (finding : Option Finding) → with_found found finding ≡ found ++ finding_list finding
pushed_as found None = sym (append-nil found)
pushed_as found (Some finding) = refl

as_count : (b : Bool) → cond b 1 0 ≡ from_bool b
as_count true = refl
as_count false = refl

count_first : (p : Row → Bool) (row : Row) (more : List Row) → count_by p (row ∷ more) ≡ from_bool (p row) + count_by p more
count_first p row more =
    let apart : count_by p (row ∷ more) ≡ (0 + cond (p row) 1 0) + count_by p more = sum_by-append (λ x. cond (p x) 1 0) (row ∷ []) more in
    let one : cond (p row) 1 0 ≡ from_bool (p row) = as_count (p row) in
    omega (arith, apart, one)

module _ (root : Elements) (all : List Elements) (v : View) (digests : List (List ℕ)) where
  steps : (i : ℕ) (batch rest : List Elements) (read : List Row) (found : List Finding) (objects : ℕ) → drop i all ≡ batch ++ rest → AllZip (IsSeen root v digests) batch read → SoFar root all i v found objects
      → SoFar root all (i + length batch) v (found ++ findings_by digests read) (objects + objects_by digests read)
  steps i [] rest [] found objects cut looks so_far =
      let no_more : i ≡ i + 0 = omega arith in
      let no_objects : objects ≡ objects + 0 = omega arith in
      subst (λ (k : ℕ). SoFar root all k v (found ++ []) (objects + 0)) no_more (subst (λ (l : List Finding). SoFar root all i v l (objects + 0)) (sym (append-nil found)) (subst (SoFar root all i v found) no_objects so_far))
  steps i [] rest (r ∷ rs) found objects cut looks so_far = absurd looks
  steps i (p ∷ ps) rest [] found objects cut looks so_far = absurd looks
  steps i (p ∷ ps) rest (r ∷ rs) found objects cut looks so_far =
      let seen = seen_by digests r in
      let low : i < length all = omega (arith, length-drop i all, ap length cut) in
      let head : p ∷ (ps ++ rest) ≡ get_or all i p ∷ drop (i + 1) all = sym cut ∙ drop_more all i p low in
      let is : p ≡ get_or all i p = cc head in
      let tail : drop (i + 1) all ≡ ps ++ rest = cc head in
      let one = more_seen root all i p v found objects low is so_far seen.is_object seen.finding (found ++ finding_list seen.finding) (objects + from_bool seen.is_object) looks.0 (sym (pushed_as found seen.finding)) refl in
      let more = steps (i + 1) ps rest rs (found ++ finding_list seen.finding) (objects + from_bool seen.is_object) tail looks.1 one in
      let long : (i + 1) + length ps ≡ i + length (p ∷ ps) = omega arith in
      let counted : (objects + from_bool seen.is_object) + objects_by digests rs ≡ objects + objects_by digests (r ∷ rs) = omega (arith, count_first (λ row. (seen_by digests row).is_object) r rs) in
      subst (λ (k : ℕ). SoFar root all k v (found ++ findings_by digests (r ∷ rs)) (objects + objects_by digests (r ∷ rs))) long
      (subst (λ (n : ℕ). SoFar root all ((i + 1) + length ps) v (found ++ findings_by digests (r ∷ rs)) n) counted
      (subst (λ (l : List Finding). SoFar root all ((i + 1) + length ps) v l ((objects + from_bool seen.is_object) + objects_by digests rs)) (append_assoc found (finding_list seen.finding) (findings_by digests rs)) more))

-- a batch was checked after the first i paths
pub more_checked : (root : Elements) (all : List Elements) (i end : ℕ) (batch : List Elements) (v : View) (found found' : List Finding) (objects more : ℕ) → i ≤ end → end ≤ length all → batch ≡ slice_range all i end → ChecksMore root batch v found found' more
    → SoFar root all i v found objects → SoFar root all end v found' (objects + more)
more_checked root all i end batch v found found' objects more ordered low is checks so_far =
    let within : end - i ≤ length (drop i all) = omega (arith, length-drop i all, ordered, low) in
    let size : length batch ≡ end - i = ap length is ∙ length-take-le (end - i) (drop i all) within in
    let long : i + length batch ≡ end = omega (arith, size, ordered) in
    let cut : drop i all ≡ batch ++ drop end all = drop_split all i end ordered ∙ ap (λ (l : List Elements). l ++ drop end all) (sym is) in
    let done = steps root all v checks.digests i batch (drop end all) checks.read found objects cut checks.looks so_far in
    subst (λ (n : ℕ). SoFar root all n v found' (objects + more)) long
    (subst (λ (n : ℕ). SoFar root all (i + length batch) v found' (objects + n)) (sym checks.count)
    (subst (λ (l : List Finding). SoFar root all (i + length batch) v l (objects + objects_by checks.digests checks.read)) (sym checks.findings) done))
