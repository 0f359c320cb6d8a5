-- How many rows a commit has, against the objects of its order.
use Rattle.std.proofs.Common.{◌≡◌, inl, inr, ◌<◌, ◌≤◌, ◌+◌, ◌-◌, ℕ, suc, Bool, true, false, leb, List, [], ◌∷◌, ◌++◌, map, drop, length, Option, Some, None, if◌then◌else◌, refl, sym, ◌∙◌, ap, subst, arith, append_assoc, append-nil, length-append}
use Rattle.std.proofs.Math.Seq.{drop-cons}
use Rattle.std.proofs.lemmas.Bool.{leb-false}
use Rattle.std.proofs.lemmas.List.{length-map, drop-append-le}
use Rattle.fp_host.specs.Paths.{Elements}
use Rattle.fp_base.specs.declared.object.ObjKind.TheVariants as kinds
use Rattle.ost_model.specs.Fields.{FileRow, DirRow, CommitView, TreeView}
use Rattle.ost_model.specs.Objects.{Have, Fault, too_many, too_deep, object_fault}
use Rattle.ost_model.specs.Order.{Place, In, order, commit_place, below_commit, commit_at, tree_at, file_places, first_of, first_fault, place_fault, found_at}
use Rattle.ost_model.specs.Walk.{Open, open_at, open_places, open_tree, opened, own_places, pending}
use Rattle.ost_model.proofs.Pending.{with_heads, as_read}
use Rattle.ost_model.proofs.Places.{faultless, found_none, or_none}
use Rattle.ost_model.proofs.Members.{in_append as in_either, in_left, in_right}
use Rattle.ost_checkout.specs.declared.rows.Row.{Row}
use Rattle.ost_checkout.specs.declared.rows.Entry.{Entry}
use Rattle.ost_checkout.specs.declared.rows.Entry.TheVariants as entries
use Rattle.ost_checkout.specs.Rows.{row_of_file, row_of_dir, rows_in}
use Rattle.ost_checkout.specs.Listing.{IsAt}

-- ---- the directories of rows

abbrev opens_entry : Elements → Elements → Entry → List Open → List Open
opens_entry to path (entries.Dir tree meta) more = record { tree = tree; meta = meta; depth = length path - length to } ∷ more
opens_entry to path (entries.File d) more = more

abbrev pub opens : Elements → List Row → List Open
opens to [] = []
opens to (row ∷ rows) = opens_entry to row.path row.entry (opens to rows)

entry_append : (to path : Elements) (e : Entry) (xs ys : List Open) → opens_entry to path e (xs ++ ys) ≡ opens_entry to path e xs ++ ys
entry_append to path (entries.Dir tree meta) xs ys = refl
entry_append to path (entries.File d) xs ys = refl

opens_append : (to : Elements) (xs ys : List Row) → opens to (xs ++ ys) ≡ opens to xs ++ opens to ys
opens_append to [] ys = refl
opens_append to (x ∷ xs) ys = ap (opens_entry to x.path x.entry) (opens_append to xs ys) ∙ entry_append to x.path x.entry (opens to xs) (opens to ys)

no_files : (to path : Elements) (fs : List FileRow) → opens to (map (row_of_file path) fs) ≡ []
no_files to path [] = refl
no_files to path (f ∷ fs) = no_files to path fs

all_dirs : (to path : Elements) (k : ℕ) (es : List DirRow) → suc (length path) - length to ≡ k → opens to (map (row_of_dir path) es) ≡ opened k es
all_dirs to path k [] deep = refl
all_dirs to path k (e ∷ es) deep = ap (λ (d : ℕ). open_at d e ∷ opens to (map (row_of_dir path) es)) deep ∙ ap (λ l. open_at k e ∷ l) (all_dirs to path k es deep)

opens_inner : (to path : Elements) (k : ℕ) (view : TreeView) → suc (length path) - length to ≡ k → opens to (rows_in path view) ≡ opened k view.dirs
opens_inner to path k view deep =
    opens_append to (map (row_of_file path) view.files) (map (row_of_dir path) view.dirs)
    ∙ ap (λ l. l ++ opens to (map (row_of_dir path) view.dirs)) (no_files to path view.files)
    ∙ all_dirs to path k view.dirs deep

-- ---- the places of directories

pending_append : (have : Have) (xs ys : List Open) → pending have (xs ++ ys) ≡ pending have xs ++ pending have ys
pending_append have [] ys = refl
pending_append have (o ∷ xs) ys = ap (λ l. open_places have o ++ l) (pending_append have xs ys) ∙ sym (append_assoc (open_places have o) (pending have xs) (pending have ys))

-- each has two at least
pending_most : (have : Have) (os : List Open) → length os ≤ length (pending have os)
pending_most have [] = omega arith
pending_most have (o ∷ os) =
    let s = with_heads have o in
    let whole : length (open_places have o) ≡ suc (suc (length s.0)) = ap (λ (l : List Place). length l) s.1 in
    omega (arith, pending_most have os, length-append (open_places have o) (pending have os), whole)

files_many : (depth : ℕ) (fs : List FileRow) → length (file_places depth fs) ≡ length fs
files_many depth [] = refl
files_many depth (f ∷ fs) = ap suc (files_many depth fs)

opened_many : (depth : ℕ) (es : List DirRow) → length (opened depth es) ≡ length es
opened_many depth [] = refl
opened_many depth (e ∷ es) = ap suc (opened_many depth es)

own_many : (o : Open) (view : TreeView) → length (own_places o view) ≡ suc (suc (length view.files))
own_many o view = ap (λ (k : ℕ). suc (suc k)) (files_many o.depth view.files)

head_in : (have : Have) (o : Open) (os : List Open) → In (pending have (o ∷ os)) (open_tree o)
head_in have o os =
    let s = with_heads have o in
    in_left (open_places have o) (pending have os) (open_tree o) (subst (λ (l : List Place). In l (open_tree o)) (sym s.1) (inl refl))

-- an order without a fault has at most 200,000 places
within_limit : (have : Have) (n : ℕ) (p : Place) → place_fault have n p ≡ None → n < 200000
within_limit have n p none = go (leb 200000 n) (if leb 65 p.depth then Some too_deep else object_fault p.digest p.kind (have p.digest p.kind)) refl none
  where
    go : (many : Bool) (rest : Option Fault) → leb 200000 n ≡ many → (if many then Some too_many else rest) ≡ None → n < 200000
    go true rest is e = absurd (cc e)
    go false rest is e = leb-false 200000 n is

few : (have : Have) (n : ℕ) (ps : List Place) → n ≤ 200000 → first_of (place_fault have) n ps ≡ None → n + length ps ≤ 200000
few have n [] low none = omega (arith, low)
few have n (p ∷ ps) low none =
    let both = or_none (found_at p (place_fault have n p)) (first_of (place_fault have) (suc n) ps) none in
    let here : n < 200000 = within_limit have n p (found_none p (place_fault have n p) both.0) in
    let rest : suc n + length ps ≤ 200000 = few have (suc n) ps (omega (arith, here)) both.1 in
    omega (arith, rest)

-- ---- numbers

room_left : (count all total listed files dirs inner others first rest : ℕ) → count + all + 1 ≡ total → listed ≤ count + suc others → all ≡ suc (suc files) + (first + rest) → inner ≤ first → others ≤ rest → inner ≡ dirs → 0 + total ≤ 200000
    → listed + (files + dirs) ≤ 200000
room_left count all total listed files dirs inner others first rest sum most many one two same few = omega (arith, sum, most, many, one, two, same, few)

sum_left : (count all total files first rest now : ℕ) → count + all + 1 ≡ total → all ≡ suc (suc files) + (first + rest) → now ≡ rest + first → (count + (2 + files)) + now + 1 ≡ total
sum_left count all total files first rest now sum many is = omega (arith, sum, many, is)

most_left : (count listed listed' new files dirs inner others now : ℕ) → listed ≤ count + suc others → listed' ≡ listed + new → new ≡ files + dirs → now ≡ others + inner → inner ≡ dirs → listed' ≤ (count + (2 + files)) + now
most_left count listed listed' new files dirs inner others now most is split many same = omega (arith, most, is, split, many, same)

-- ---- while the rows are listed

-- The number of places of the order that were gone through; what is left are the directories that
-- aren't expanded yet.
pub record AreCounted (have : Have) (commit : List ℕ) (to : Elements) (rows : List Row) (i : ℕ) : Type 0 where
  pub count : ℕ
  pub sum : count + length (pending have (opens to (drop i rows))) + 1 ≡ length (order have commit)
  pub most : length rows ≤ count + length (opens to (drop i rows))
  pub within : (p : Place) → In (pending have (opens to (drop i rows))) p → In (order have commit) p

pub first_counted : {have : Have} {commit : List ℕ} {to : Elements} (rows : List Row) (row : Row) (view : CommitView) → rows ≡ row ∷ [] → row.path ≡ to → commit_at have commit ≡ Some view → row.entry ≡ entries.Dir view.tree view.meta
    → AreCounted have commit to rows 0
first_counted {have = have} {commit = commit} {to = to} rows row view is at read entry = subst (λ (l : List Row). AreCounted have commit to l 0) (sym is) (record {
  count = 0;
  sum = omega (arith, ap (λ (l : List Open). length (pending have l)) alone, ap (λ (l : List Place). length l) all);
  most = omega (arith, ap (λ (l : List Open). length l) alone);
  within = λ p h. subst (λ (l : List Place). In l p) (sym all) (inr (subst (λ (l : List Open). In (pending have l) p) alone h));
})
  where
    root : Open
    root = record { tree = view.tree; meta = view.meta; depth = 0 }

    deep : length row.path - length to ≡ 0
    deep = omega (arith, ap length at)

    alone : opens to (row ∷ []) ≡ record { tree = view.tree; meta = view.meta; depth = 0 } ∷ []
    alone = ap (λ (e : Entry). opens_entry to row.path e []) entry ∙ ap (λ (k : ℕ). record { tree = view.tree; meta = view.meta; depth = k } ∷ []) deep

    all : order have commit ≡ commit_place commit ∷ pending have (record { tree = view.tree; meta = view.meta; depth = 0 } ∷ [])
    all = ap (λ c. commit_place commit ∷ below_commit have c) read ∙ ap (λ l. commit_place commit ∷ l) (sym (append-nil (open_places have (record { tree = view.tree; meta = view.meta; depth = 0 }))))

module _ {have : Have} {commit : List ℕ} {to : Elements} (rows : List Row) (i : ℕ) (row : Row) (low : i < length rows) (at : IsAt rows i row) (so_far : AreCounted have commit to rows i) where
  more : suc i ≡ i + 1
  more = omega arith

  dropped : drop i rows ≡ row ∷ drop (i + 1) rows
  dropped = drop-cons rows i row low ∙ ap (λ (x : Row). x ∷ drop (suc i) rows) at ∙ ap (λ (k : ℕ). row ∷ drop k rows) more

  pub file_counted : (d : List ℕ) → row.entry ≡ entries.File d → AreCounted have commit to rows (i + 1)
  file_counted d is = record {
    count = so_far.count;
    sum = ap (λ (l : List Open). so_far.count + length (pending have l) + 1) (sym same) ∙ so_far.sum;
    most = subst (λ (l : List Open). length rows ≤ so_far.count + length l) same so_far.most;
    within = λ p h. so_far.within p (subst (λ (l : List Open). In (pending have l) p) (sym same) h);
  }
    where
      same : opens to (drop i rows) ≡ opens to (drop (i + 1) rows)
      same = ap (opens to) dropped ∙ ap (λ (e : Entry). opens_entry to row.path e (opens to (drop (i + 1) rows))) is

  module _ (tree meta : List ℕ) (is : row.entry ≡ entries.Dir tree meta) (whole : first_fault have commit ≡ None) where
    abbrev here : Open
    here = record { tree = tree; meta = meta; depth = length row.path - length to }

    abbrev left : List Open
    left = opens to (drop (i + 1) rows)

    split : opens to (drop i rows) ≡ here ∷ left
    split = ap (opens to) dropped ∙ ap (λ (e : Entry). opens_entry to row.path e left) is

    good : (leb 65 here.depth ≡ false) × (object_fault tree kinds.DirTree (have tree kinds.DirTree) ≡ None)
    good = faultless have 0 (order have commit) whole (open_tree here) (so_far.within (open_tree here) (subst (λ (l : List Open). In (pending have l) (open_tree here)) (sym split) (head_in have here left)))

    -- its dirtree has no fault
    pub tree_good : object_fault tree kinds.DirTree (have tree kinds.DirTree) ≡ None
    tree_good = good.1

    module _ (view : TreeView) (read : tree_at have tree ≡ Some view) where
      abbrev inner : List Open
      inner = opened (suc here.depth) view.dirs

      shallow : here.depth ≤ 64
      shallow = omega (arith, leb-false 65 here.depth good.0)

      walked : pending have (opens to (drop i rows)) ≡ own_places here view ++ pending have (inner ++ left)
      walked = ap (pending have) split ∙ as_read have here view left shallow read

      many : length (pending have (opens to (drop i rows))) ≡ suc (suc (length view.files)) + (length (pending have inner) + length (pending have left))
      many =
          ap (λ (l : List Place). length l) walked ∙ length-append (own_places here view) (pending have (inner ++ left))
          ∙ ap (λ (k : ℕ). k + length (pending have (inner ++ left))) (own_many here view)
          ∙ ap (λ (l : List Place). suc (suc (length view.files)) + length l) (pending_append have inner left)
          ∙ ap (λ (k : ℕ). suc (suc (length view.files)) + k) (length-append (pending have inner) (pending have left))

      -- there is room for what is in it
      pub has_room : length rows + (length view.files + length view.dirs) ≤ 200000
      has_room = room_left so_far.count (length (pending have (opens to (drop i rows)))) (length (order have commit)) (length rows) (length view.files) (length view.dirs) (length inner) (length left)
          (length (pending have inner)) (length (pending have left)) so_far.sum (subst (λ (l : List Open). length rows ≤ so_far.count + length l) split so_far.most) many (pending_most have inner) (pending_most have left)
          (opened_many (suc here.depth) view.dirs) (few have 0 (order have commit) (omega arith) whole)

      pub dir_counted : {rows' : List Row} → length to ≤ length row.path → rows' ≡ rows ++ rows_in row.path view → AreCounted have commit to rows' (i + 1)
      dir_counted {rows' = rows'} below grown = subst (λ (l : List Row). AreCounted have commit to l (i + 1)) (sym grown) (record {
        count = so_far.count + (2 + length view.files);
        sum = sum_left so_far.count (length (pending have (opens to (drop i rows)))) (length (order have commit)) (length view.files) (length (pending have inner)) (length (pending have left))
            (length (pending have (opens to (drop (i + 1) (rows ++ rows_in row.path view))))) so_far.sum many
            (ap (λ (l : List Open). length (pending have l)) now ∙ ap (λ (l : List Place). length l) (pending_append have left inner) ∙ length-append (pending have left) (pending have inner));
        most = most_left so_far.count (length rows) (length (rows ++ rows_in row.path view)) (length (rows_in row.path view)) (length view.files) (length view.dirs) (length inner) (length left)
            (length (opens to (drop (i + 1) (rows ++ rows_in row.path view)))) (subst (λ (l : List Open). length rows ≤ so_far.count + length l) split so_far.most)
            (length-append rows (rows_in row.path view)) new_many (ap (λ (l : List Open). length l) now ∙ length-append left inner) (opened_many (suc here.depth) view.dirs);
        within = λ p h. so_far.within p (subst (λ (l : List Place). In l p) (sym walked) (in_right (own_places here view) (pending have (inner ++ left)) p (turn p (subst (λ (l : List Open). In (pending have l) p) now h))));
      })
        where
          after : drop (i + 1) (rows ++ rows_in row.path view) ≡ drop (i + 1) rows ++ rows_in row.path view
          after = drop-append-le (i + 1) rows (rows_in row.path view) (omega (arith, low))

          now : opens to (drop (i + 1) (rows ++ rows_in row.path view)) ≡ left ++ inner
          now = ap (opens to) after ∙ opens_append to (drop (i + 1) rows) (rows_in row.path view) ∙ ap (λ l. left ++ l) (opens_inner to row.path (suc here.depth) view (omega (arith, below)))

          new_many : length (rows_in row.path view) ≡ length view.files + length view.dirs
          new_many =
              length-append (map (row_of_file row.path) view.files) (map (row_of_dir row.path) view.dirs)
              ∙ ap (λ (k : ℕ). k + length (map (row_of_dir row.path) view.dirs)) (length-map view.files (row_of_file row.path))
              ∙ ap (λ (k : ℕ). length view.files + k) (length-map view.dirs (row_of_dir row.path))

          turn : (p : Place) → In (pending have (left ++ inner)) p → In (pending have (inner ++ left)) p
          turn p h = subst (λ (l : List Place). In l p) (sym (pending_append have inner left)) (elim (in_either (pending have left) (pending have inner) p (subst (λ (l : List Place). In l p) (pending_append have left inner) h)) [
            | inl one ↦ in_right (pending have inner) (pending have left) p one
            | inr one ↦ in_left (pending have inner) (pending have left) p one
          ])
