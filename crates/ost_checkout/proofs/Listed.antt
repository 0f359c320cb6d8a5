-- The paths of a commit, directory by directory.
use Rattle.std.proofs.Common.{◌≡◌, ◌⊎◌, inl, inr, ◌<◌, ◌+◌, ℕ, zero, suc, List, [], ◌∷◌, ◌++◌, map, take, length, Some, refl, sym, ◌∙◌, ap, subst, Contains, arith, append_assoc, append-nil, length-append}
use Rattle.std.proofs.Math.Seq.{take-suc, take-length}
use Rattle.std.proofs.lemmas.List.{map-append, append_cancel_right, take-append-le}
use Rattle.std.proofs.lemmas.List.Elements.{Contains-append_cases, Contains-append_left, Contains-append_right, Contains-push, Contains-push_cases, Contains-get_or}
use Rattle.fp_host.specs.Paths.{Elements}
use Rattle.fp_base.specs.declared.object.ObjKind.TheVariants as kinds
use Rattle.fp_base.proofs.Lists.{in_none, in_first, in_rest, in_map, from_map}
use Rattle.ost_model.specs.Fields.{FileRow, DirRow, TreeView}
use Rattle.ost_model.specs.Objects.{Have}
use Rattle.ost_model.specs.Order.{tree_at}
use Rattle.ost_model.specs.Look.{Found, nothing, directory, file_at, entry_in, next, look}
use Rattle.ost_model.proofs.Looked.{found_cases}
use Rattle.ost_store.proofs.Lists.{in_one}
use Rattle.ost_checkout.specs.declared.rows.Row.{Row}
use Rattle.ost_checkout.specs.declared.rows.Entry.{Entry}
use Rattle.ost_checkout.specs.declared.rows.Entry.TheVariants as entries
use Rattle.ost_checkout.specs.Rows.{row_of_file, row_of_dir, rows_in, path_of, paths_of, IsDir, IsFoundAs, IsRowOf, HasParent, AreSteps, IsLadder, AreRows}
use Rattle.ost_checkout.specs.Listing.{IsAt}
use Rattle.ost_checkout.proofs.Names.{HasNames, AreDifferent, tree_names, inner_differ, child_dir, child_file, child_path}

-- ---- rows that stand one in another

wider_parent : {xs ys : List Row} {path : Elements} → ((row : Row) → Contains xs row → Contains ys row) → HasParent xs path → HasParent ys path
wider_parent more p = record { parent = p.parent; among = more p.parent p.among; name = p.name; is = p.is; dir = p.dir }

steps_append : (before xs ys : List Row) → AreSteps before xs → AreSteps (before ++ xs) ys → AreSteps before (xs ++ ys)
steps_append before [] ys first second = subst (λ (l : List Row). AreSteps l ys) (append-nil before) second
steps_append before (x ∷ xs) ys first second = (first.0, first.1, steps_append (before ++ x ∷ []) xs ys first.2 (subst (λ (l : List Row). AreSteps l ys) (sym (append_assoc before (x ∷ []) xs)) second))

ladder_append : (to : Elements) (xs ys : List Row) → IsLadder to xs → AreSteps xs ys → IsLadder to (xs ++ ys)
ladder_append to [] ys first second = absurd first
ladder_append to (x ∷ xs) ys first second = (first.0, steps_append (x ∷ []) xs ys first.1 second)

pushed_path : (rows : List Row) (row : Row) (p : Elements) → Contains (paths_of (rows ++ row ∷ [])) p → Contains (paths_of rows) p ⊎ (row.path ≡ p)
pushed_path rows row p has = Contains-push_cases (paths_of rows) row.path p (subst (λ (l : List Elements). Contains l p) (map-append path_of rows (row ∷ [])) has)

-- different new rows, each in a directory of those before
steps_of : (before new : List Row) → ((row : Row) → Contains new row → HasParent before row.path) → ((p : Elements) → Contains (paths_of before) p → Contains (paths_of new) p → ⊥) → AreDifferent (paths_of new) → AreSteps before new
steps_of before [] parents apart differ = tt
steps_of before (row ∷ new) parents apart differ = (
  parents row (in_first row new),
  (λ has. apart row.path has (in_first row.path (paths_of new))),
  steps_of (before ++ row ∷ []) new
      (λ x has. wider_parent (λ y h. Contains-append_left before (row ∷ []) y h) (parents x (in_rest row new x has)))
      (λ p has later. elim (pushed_path before row p has) [
        | inl earlier ↦ apart p earlier (in_rest row.path (paths_of new) p later)
        | inr same ↦ differ.0 (subst (Contains (paths_of new)) (sym same) later)
      ])
      differ.1,
)

-- what the ladder says of one row
pub record IsRung (to : Elements) (before : List Row) (path : Elements) : Type 0 where
  pub once : Contains (paths_of before) path → ⊥
  pub stands : ((before ≡ []) × (path ≡ to)) ⊎ HasParent before path

step_at : (before rows : List Row) (i : ℕ) (row : Row) → i < length rows → IsAt rows i row → AreSteps before rows → HasParent (before ++ take i rows) row.path × (Contains (paths_of (before ++ take i rows)) row.path → ⊥)
step_at before [] i row low at steps = absurd (omega (arith, low))
step_at before (x ∷ rows) zero row low at steps =
    subst (λ (l : List Row). HasParent l row.path × (Contains (paths_of l) row.path → ⊥)) (sym (append-nil before))
    (subst (λ (y : Row). HasParent before y.path × (Contains (paths_of before) y.path → ⊥)) at (steps.0, steps.1))
step_at before (x ∷ rows) (suc i) row low at steps =
    subst (λ (l : List Row). HasParent l row.path × (Contains (paths_of l) row.path → ⊥)) (append_assoc before (x ∷ []) (take i rows))
    (step_at (before ++ x ∷ []) rows i row (omega (arith, low)) at steps.2)

pub rung_at : (to : Elements) (rows : List Row) (i : ℕ) (row : Row) → i < length rows → IsAt rows i row → IsLadder to rows → IsRung to (take i rows) row.path
rung_at to [] i row low at ladder = absurd ladder
rung_at to (x ∷ rows) zero row low at ladder = record { once = λ has. absurd (in_none row.path has); stands = inl (refl, ap path_of (sym at) ∙ ladder.0) }
rung_at to (x ∷ rows) (suc i) row low at ladder =
    let step = step_at (x ∷ []) rows i row (omega (arith, low)) at ladder.1 in
    record { once = step.1; stands = inr step.0 }

ladder_once : (to : Elements) (rows : List Row) (i : ℕ) (row : Row) → i < length rows → IsAt rows i row → IsLadder to rows → Contains (paths_of (take i rows)) row.path → ⊥
ladder_once to rows i row low at ladder has = (rung_at to rows i row low at ladder).once has

-- ---- what is listed

-- The rows are paths of the commit; what is in the first i of them is listed too.
pub record AreListed (have : Have) (commit : List ℕ) (to : Elements) (rows : List Row) (i : ℕ) : Type 0 where
  pub each : (row : Row) → Contains rows row → IsRowOf have commit to row
  pub ladder : IsLadder to rows
  pub parents : (row : Row) → Contains rows row → (row.path ≡ to) ⊎ HasParent (take i rows) row.path
  pub inside : (row : Row) → Contains (take i rows) row → (rest : Elements) → row.path ≡ rest ++ to → (x : List ℕ) → (look have commit (x ∷ rest) ≡ nothing → ⊥) → Contains (paths_of rows) (x ∷ row.path)

pub first_listed : {have : Have} {commit : List ℕ} {to : Elements} (rows : List Row) (row : Row) → rows ≡ row ∷ [] → row.path ≡ to → IsRowOf have commit to row → AreListed have commit to rows 0
first_listed {have = have} {commit = commit} {to = to} rows row is at of = subst (λ (l : List Row). AreListed have commit to l 0) (sym is) (record {
  each = λ x has. subst (IsRowOf have commit to) (sym (in_one row x has)) of;
  ladder = (at, tt);
  parents = λ x has. inl (ap path_of (in_one row x has) ∙ at);
  inside = λ x has. absurd (in_none x has);
})

module _ (rows : List Row) (i : ℕ) (row : Row) (low : i < length rows) (at : IsAt rows i row) where
  pub row_in : Contains rows row
  row_in = subst (Contains rows) at (Contains-get_or rows i row low)

  more : i + 1 ≡ suc i
  more = omega arith

  pub taken : take (i + 1) rows ≡ take i rows ++ row ∷ []
  taken = ap (λ (k : ℕ). take k rows) more ∙ take-suc rows i row low ∙ ap (λ (x : Row). take i rows ++ x ∷ []) at

module _ {have : Have} {commit : List ℕ} {to : Elements} (rows : List Row) (i : ℕ) (row : Row) (low : i < length rows) (at : IsAt rows i row) (so_far : AreListed have commit to rows i) where
  here_in : Contains rows row
  here_in = row_in rows i row low at

  cut_here : take (i + 1) rows ≡ take i rows ++ row ∷ []
  cut_here = taken rows i row low at

  earlier_in : (x : Row) → Contains (take i rows) x → Contains (take (i + 1) rows) x
  earlier_in x has = subst (λ (l : List Row). Contains l x) (sym cut_here) (Contains-append_left (take i rows) (row ∷ []) x has)

  this_in : Contains (take (i + 1) rows) row
  this_in = subst (λ (l : List Row). Contains l row) (sym cut_here) (Contains-push (take i rows) row)

  parents_more : (x : Row) → Contains rows x → (x.path ≡ to) ⊎ HasParent (take (i + 1) rows) x.path
  parents_more x has = elim (so_far.parents x has) [ inl same ↦ inl same | inr p ↦ inr (wider_parent earlier_in p) ]

  -- ---- a file or a link has nothing in it

  next_of_file : (x d : List ℕ) (found : Found) → found ≡ file_at d → next have x found ≡ nothing
  next_of_file x d found is = ap (next have x) is

  pub file_listed : (d : List ℕ) → row.entry ≡ entries.File d → AreListed have commit to rows (i + 1)
  file_listed d is = record {
    each = so_far.each;
    ladder = so_far.ladder;
    parents = parents_more;
    inside = λ x has. elim (Contains-push_cases (take i rows) row x (subst (λ (l : List Row). Contains l x) cut_here has)) [
      | inl earlier ↦ so_far.inside x earlier
      | inr same ↦ λ rest path y some.
          let r = so_far.each row here_in in
          let here : rest ≡ r.rest = append_cancel_right rest r.rest to (sym path ∙ ap path_of (sym same) ∙ r.at) in
          absurd (some (next_of_file y d (look have commit rest) (ap (look have commit) here ∙ subst (λ (e : Entry). IsFoundAs e (look have commit r.rest)) is r.is)))
    ];
  }

  -- ---- what is in a directory comes to the end

  module _ (tree meta : List ℕ) (view : TreeView) (is : row.entry ≡ entries.Dir tree meta) (read : tree_at have tree ≡ Some view) where
    abbrev new : List Row
    new = rows_in row.path view

    names : HasNames view
    names = tree_names (have tree kinds.DirTree) view read

    found : (rest : Elements) → row.path ≡ rest ++ to → (name : List ℕ) × (look have commit rest ≡ directory (record { name = name; tree = tree; meta = meta }))
    found rest path =
        let r = so_far.each row here_in in
        let here : r.rest ≡ rest = append_cancel_right r.rest rest to (sym r.at ∙ path) in
        let f = subst (λ (e : Entry). IsFoundAs e (look have commit r.rest)) is r.is in
        (f.0, ap (look have commit) (sym here) ∙ f.1)

    -- what has a name in the directory
    entered : (x : List ℕ) (rest : Elements) → row.path ≡ rest ++ to → look have commit (x ∷ rest) ≡ entry_in x (Some view)
    entered x rest path = let f = found rest path in ap (next have x) f.1 ∙ ap (entry_in x) read

    of_file : (f : FileRow) → Contains view.files f → IsRowOf have commit to (row_of_file row.path f)
    of_file f has =
        let r = so_far.each row here_in in
        record { rest = f.name ∷ r.rest; at = ap (λ (p : Elements). f.name ∷ p) r.at; is = entered f.name r.rest r.at ∙ child_file view f names has }

    of_dir : (e : DirRow) → Contains view.dirs e → IsRowOf have commit to (row_of_dir row.path e)
    of_dir e has =
        let r = so_far.each row here_in in
        record { rest = e.name ∷ r.rest; at = ap (λ (p : Elements). e.name ∷ p) r.at; is = (e.name, entered e.name r.rest r.at ∙ child_dir view e names has) }

    new_each : (x : Row) → Contains new x → IsRowOf have commit to x
    new_each x has = elim (Contains-append_cases (map (row_of_file row.path) view.files) (map (row_of_dir row.path) view.dirs) x has) [
      | inl one ↦ let f = from_map (row_of_file row.path) view.files x one in subst (IsRowOf have commit to) (sym f.2) (of_file f.0 f.1)
      | inr one ↦ let e = from_map (row_of_dir row.path) view.dirs x one in subst (IsRowOf have commit to) (sym e.2) (of_dir e.0 e.1)
    ]

    -- its path is in the directory's
    new_name : (x : Row) → Contains new x → (name : List ℕ) × (x.path ≡ name ∷ row.path)
    new_name x has = elim (Contains-append_cases (map (row_of_file row.path) view.files) (map (row_of_dir row.path) view.dirs) x has) [
      | inl one ↦ let f = from_map (row_of_file row.path) view.files x one in (f.0.name, ap path_of f.2)
      | inr one ↦ let e = from_map (row_of_dir row.path) view.dirs x one in (e.0.name, ap path_of e.2)
    ]

    new_parent : (rows' : List Row) → Contains rows' row → (x : Row) → Contains new x → HasParent rows' x.path
    new_parent rows' has x new_x = let n = new_name x new_x in record { parent = row; among = has; name = n.0; is = n.1; dir = subst IsDir (sym is) tt }

    -- nothing that is listed is in the directory yet
    none_yet : (p : Elements) → Contains (paths_of rows) p → Contains (paths_of new) p → ⊥
    none_yet p old has =
        let x = from_map path_of rows p old in
        let y = from_map path_of new p has in
        let n = new_name y.0 y.1 in
        let child : x.0.path ≡ n.0 ∷ row.path = sym x.2 ∙ y.2 ∙ n.1 in
        elim (so_far.parents x.0 x.1) [
          | inl root ↦
              let r = so_far.each row here_in in
              absurd (omega (arith, ap length (sym root ∙ child), ap length r.at, length-append r.rest to))
          | inr q ↦
              let same : q.parent.path ≡ row.path = tail_same q.name n.0 q.parent.path row.path (sym q.is ∙ child) in
              once (subst (λ (z : Elements). Contains (paths_of (take i rows)) z) same (in_map path_of (take i rows) q.parent q.among))
        ]
      where
        tail_same : (a b : List ℕ) (p q : Elements) → a ∷ p ≡ b ∷ q → p ≡ q
        tail_same a b p q same = cc same

        once : Contains (paths_of (take i rows)) row.path → ⊥
        once has = ladder_once to rows i row low at so_far.ladder has

    pub dir_listed : {rows' : List Row} → rows' ≡ rows ++ new → AreListed have commit to rows' (i + 1)
    dir_listed {rows' = rows'} grown = subst (λ (l : List Row). AreListed have commit to l (i + 1)) (sym grown) (record {
      each = λ x has. elim (Contains-append_cases rows new x has) [ inl old ↦ so_far.each x old | inr one ↦ new_each x one ];
      ladder = ladder_append to rows new so_far.ladder (steps_of rows new (new_parent rows here_in) none_yet (inner_differ row.path view names));
      parents = λ x has. elim (Contains-append_cases rows new x has) [
        | inl old ↦ elim (parents_more x old) [ inl same ↦ inl same | inr p ↦ inr (wider_parent (λ y h. subst (λ (l : List Row). Contains l y) (sym still_taken) h) p) ]
        | inr one ↦ inr (new_parent (take (i + 1) (rows ++ new)) (subst (λ (l : List Row). Contains l row) (sym still_taken) this_in) x one)
      ];
      inside = λ x has. elim (Contains-push_cases (take i rows) row x (subst (λ (l : List Row). Contains l x) (still_taken ∙ cut_here) has)) [
        | inl earlier ↦ λ rest path y some. listed_before y x.path (so_far.inside x earlier rest path y some)
        | inr same ↦ λ rest path y some.
            let here : row.path ≡ rest ++ to = ap path_of same ∙ path in
            let inner = child_path row.path view y (λ none. some (entered y rest here ∙ none)) in
            subst (λ (z : Row). Contains (paths_of (rows ++ new)) (y ∷ z.path)) same (subst (λ (l : List Elements). Contains l (y ∷ row.path)) (sym (map-append path_of rows new)) (Contains-append_right (paths_of rows) (paths_of new) (y ∷ row.path) inner))
      ];
    })
      where
        still_taken : take (i + 1) (rows ++ new) ≡ take (i + 1) rows
        still_taken = take-append-le (i + 1) rows new (omega (arith, low))

        listed_before : (y : List ℕ) (p : Elements) → Contains (paths_of rows) (y ∷ p) → Contains (paths_of (rows ++ new)) (y ∷ p)
        listed_before y p has = subst (λ (l : List Elements). Contains l (y ∷ p)) (sym (map-append path_of rows new)) (Contains-append_left (paths_of rows) (paths_of new) (y ∷ p) has)

-- ---- all rows

no_next : (have : Have) (x : List ℕ) (found : Found) → found ≡ nothing → next have x found ≡ nothing
no_next have x found is = ap (next have x) is

pub all_listed : {have : Have} {commit : List ℕ} {to : Elements} (rows : List Row) (i : ℕ) → length rows ≡ i → AreListed have commit to rows i → AreRows have commit to rows
all_listed {have = have} {commit = commit} {to = to} rows i is listed = record {
  each = listed.each;
  all = all;
  ladder = listed.ladder;
}
  where
    whole : take i rows ≡ rows
    whole = ap (λ (k : ℕ). take k rows) (sym is) ∙ take-length rows

    first : (l : List Row) → IsLadder to l → Contains (paths_of l) to
    first [] ladder = absurd ladder
    first (row ∷ l) ladder = subst (Contains (row.path ∷ paths_of l)) ladder.0 (in_first row.path (paths_of l))

    all : (rest : Elements) → (look have commit rest ≡ nothing → ⊥) → Contains (paths_of rows) (rest ++ to)
    all [] some = first rows listed.ladder
    all (x ∷ up) some = elim (found_cases (look have commit up)) [
      | inl none ↦ absurd (some (no_next have x (look have commit up) none))
      | inr there ↦
          let r = from_map path_of rows (up ++ to) (all up there) in
          subst (λ (p : Elements). Contains (paths_of rows) (x ∷ p)) (sym r.2) (listed.inside r.0 (subst (λ (l : List Row). Contains l r.0) (sym whole) r.1) up (sym r.2) x some)
    ]
