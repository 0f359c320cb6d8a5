-- The names in a dirtree that reads.
use Rattle.std.proofs.Common.{◌≡◌, inl, inr, ℕ, Bool, true, false, ◌&&◌, ◌||◌, List, [], ◌∷◌, ◌++◌, map, Option, Some, None, Ok, refl, sym, ◌∙◌, ap, subst, Contains}
use Rattle.std.specs.Prelude.{option_and_then, not}
use Rattle.std.specs.List.{list_all, list_any}
use Rattle.std.specs.Str.{bytes_eq}
use Rattle.std.proofs.lemmas.Bool.{and_parts, cases_Bool, both_ways, cond-true, cond-false, false_from_ne_true, not-true}
use Rattle.std.proofs.lemmas.List.{map-append}
use Rattle.std.proofs.lemmas.List.Elements.{Contains-append_cases, Contains-append_left, Contains-append_right}
use Rattle.fp_host.specs.Paths.{Elements, is_element}
use Rattle.fp_host.specs.Reads.{comes_first, is_ascending}
use Rattle.fp_small.specs.Order.{comes_before}
use Rattle.fp_small.proofs.Ordered.{before_differs, bytes_eq-differ, not_before_itself, first_below}
use Rattle.fp_base.specs.declared.rule.Rule.TheVariants as rules
use Rattle.fp_base.proofs.Lists.{in_none, in_first, in_rest, in_cases, in_map, from_map}
use Rattle.fp_base.proofs.Texts.{bytes_eq-true, bytes_eq-same}
use Rattle.ost_model.specs.declared.object.Object.{Object}
use Rattle.ost_model.specs.declared.object.Object.TheVariants as objects
use Rattle.gv_value.specs.Reading.{value_of}
use Rattle.ost_model.specs.Types.{tree_shape}
use Rattle.ost_model.specs.Fields.{FileRow, DirRow, TreeView, tree_in}
use Rattle.ost_model.specs.Readers.{file_name, dir_name, file_names, dir_names, has_long, has_both_long, name_tests, shares, tree_breaks, tree_of, tree_read, judged}
use Rattle.ost_model.specs.Order.{read_as}
use Rattle.ost_model.specs.Look.{nothing, directory, file_at, find_dir, find_file, either, entry_in}
use Rattle.ost_model.proofs.Readers.{read_some, passed, kept_ok}
use Rattle.ost_checkout.specs.Reading.{HasGoodNames}
use Rattle.ost_checkout.specs.Rows.{row_of_file, row_of_dir, rows_in, path_of, paths_of}

-- ---- which rules are kept

-- the names ascend, and no name is in both lists
pub record HasNames (view : TreeView) : Type 0 where
  pub good : HasGoodNames view
  pub files : is_ascending (file_names view) ≡ true
  pub dirs : is_ascending (dir_names view) ≡ true
  pub apart : shares (file_names view) (dir_names view) ≡ false

pub unbroken : (view : TreeView) → tree_breaks view ≡ None → HasNames view
unbroken view none =
    let digests = passed (list_all has_long view.files && list_all has_both_long view.dirs) rules.Digest (name_tests view) none in
    let names = passed (list_all is_element (file_names view) && list_all is_element (dir_names view)) rules.Name
    ((is_ascending (file_names view) && is_ascending (dir_names view), rules.Order) ∷ ((not (shares (file_names view) (dir_names view)), rules.Both) ∷ [])) digests.1 in
    let orders = passed (is_ascending (file_names view) && is_ascending (dir_names view)) rules.Order ((not (shares (file_names view) (dir_names view)), rules.Both) ∷ []) names.1 in
    let both = passed (not (shares (file_names view) (dir_names view))) rules.Both [] orders.1 in
    let good = and_parts (list_all is_element (file_names view)) (list_all is_element (dir_names view)) names.0 in
    let ascend = and_parts (is_ascending (file_names view)) (is_ascending (dir_names view)) orders.0 in
    record { good = record { files = good.0; dirs = good.1 }; files = ascend.0; dirs = ascend.1; apart = not-true (shares (file_names view) (dir_names view)) both.0 }

judged_ok : (x : Option TreeView) (view : TreeView) → judged tree_breaks x ≡ Ok view → tree_breaks view ≡ None
judged_ok None view e = absurd (cc e)
judged_ok (Some a) view e = let k = kept_ok (tree_breaks a) a view e in subst (λ (v : TreeView). tree_breaks v ≡ None) k.1 k.0

pub read_names : (bytes : List ℕ) (view : TreeView) → tree_read bytes ≡ Ok view → HasNames view
read_names bytes view is = unbroken view (judged_ok (option_and_then tree_in (value_of tree_shape bytes)) view is)

pub tree_names : (o : Option Object) (view : TreeView) → read_as tree_of o ≡ Some view → HasNames view
tree_names None view e = absurd (cc e)
tree_names (Some (objects.Meta bytes)) view e = read_names bytes view (read_some (tree_read bytes) view e)
tree_names (Some (objects.File mode bytes)) view e = absurd (cc e)
tree_names (Some (objects.Link text)) view e = absurd (cc e)

-- ---- names that ascend differ

-- no element comes again
abbrev pub AreDifferent : {A : Type 0} → List A → Type 0
AreDifferent [] = Unit {0}
AreDifferent (x ∷ xs) = (Contains xs x → ⊥) × AreDifferent xs

ascending_differ : (xs : List (List ℕ)) → is_ascending xs ≡ true → AreDifferent xs
ascending_differ [] h = tt
ascending_differ (x ∷ xs) h =
    let a = and_parts (comes_first x xs) (is_ascending xs) h in
    (λ has. both_ways (comes_before x x) (not_before_itself x) (first_below x xs x a.0 a.1 has), ascending_differ xs a.1)

different_append : {A : Type 0} (xs ys : List A) → AreDifferent xs → AreDifferent ys → ((x : A) → Contains xs x → Contains ys x → ⊥) → AreDifferent (xs ++ ys)
different_append [] ys first second apart = second
different_append (x ∷ xs) ys first second apart = (
  λ has. elim (Contains-append_cases xs ys x has) [ inl here ↦ first.0 here | inr there ↦ apart x (in_first x xs) there ],
  different_append xs ys first.1 second (λ y here there. apart y (in_rest x xs y here) there),
)

any_true : {A : Type 0} (f : A → Bool) (xs : List A) (x : A) → Contains xs x → f x ≡ true → list_any f xs ≡ true
any_true f [] x has is = absurd (in_none x has)
any_true f (y ∷ ys) x has is = elim (in_cases y ys x has) [
  | inl same ↦ ap (λ b. b || list_any f ys) (ap f (sym same) ∙ is)
  | inr later ↦ ap (λ b. f y || b) (any_true f ys x later is) ∙ or_true (f y)
]
  where
    or_true : (b : Bool) → (b || true) ≡ true
    or_true true = refl
    or_true false = refl

unshared : (xs ys : List (List ℕ)) (x : List ℕ) → shares xs ys ≡ false → Contains xs x → Contains ys x → ⊥
unshared xs ys x apart here there =
    both_ways (shares xs ys) apart (any_true (λ (y : List ℕ). list_any (bytes_eq y) ys) xs x here (any_true (bytes_eq x) ys x there (bytes_eq-same x)))

-- ---- the paths of what is in a directory

different_map : {A B : Type 0} (f : A → B) → ((x y : A) → f x ≡ f y → x ≡ y) → (xs : List A) → AreDifferent xs → AreDifferent (map f xs)
different_map f one [] all = tt
different_map f one (x ∷ xs) all = (
  λ has. let found = from_map f xs (f x) has in all.0 (subst (Contains xs) (sym (one x found.0 found.2)) found.1),
  different_map f one xs all.1,
)

abbrev pub in_folder : Elements → List ℕ → Elements
in_folder path x = x ∷ path

one_name_in : (path : Elements) (x y : List ℕ) → in_folder path x ≡ in_folder path y → x ≡ y
one_name_in path x y same = cc same

file_paths : (path : Elements) (fs : List FileRow) → paths_of (map (row_of_file path) fs) ≡ map (in_folder path) (map file_name fs)
file_paths path [] = refl
file_paths path (f ∷ fs) = ap (λ l. (f.name ∷ path) ∷ l) (file_paths path fs)

dir_paths : (path : Elements) (es : List DirRow) → paths_of (map (row_of_dir path) es) ≡ map (in_folder path) (map dir_name es)
dir_paths path [] = refl
dir_paths path (e ∷ es) = ap (λ l. (e.name ∷ path) ∷ l) (dir_paths path es)

pub inner_paths : (path : Elements) (view : TreeView) → paths_of (rows_in path view) ≡ map (in_folder path) (file_names view ++ dir_names view)
inner_paths path view =
    map-append path_of (map (row_of_file path) view.files) (map (row_of_dir path) view.dirs)
    ∙ ap (λ l. l ++ paths_of (map (row_of_dir path) view.dirs)) (file_paths path view.files)
    ∙ ap (λ l. map (in_folder path) (file_names view) ++ l) (dir_paths path view.dirs)
    ∙ sym (map-append (in_folder path) (file_names view) (dir_names view))

pub inner_differ : (path : Elements) (view : TreeView) → HasNames view → AreDifferent (paths_of (rows_in path view))
inner_differ path view names = subst (λ (l : List Elements). AreDifferent l) (sym (inner_paths path view))
    (different_map (in_folder path) (one_name_in path) (file_names view ++ dir_names view)
    (different_append (file_names view) (dir_names view) (ascending_differ (file_names view) names.files) (ascending_differ (dir_names view) names.dirs)
    (λ x here there. unshared (file_names view) (dir_names view) x names.apart here there)))

-- ---- what is found by a name

found_dir : (es : List DirRow) (e : DirRow) → is_ascending (map dir_name es) ≡ true → Contains es e → find_dir e.name es ≡ Some e
found_dir [] e h has = absurd (in_none e has)
found_dir (d ∷ es) e h has =
    let a = and_parts (comes_first d.name (map dir_name es)) (is_ascending (map dir_name es)) h in
    elim (in_cases d es e has) [
      | inl same ↦ subst (λ (x : DirRow). find_dir x.name (d ∷ es) ≡ Some x) (sym same) (cond-true (bytes_eq d.name d.name) (Some d) (find_dir d.name es) (bytes_eq-same d.name))
      | inr later ↦
          let below = first_below d.name (map dir_name es) e.name a.0 a.1 (in_map dir_name es e later) in
          cond-false (bytes_eq d.name e.name) (Some d) (find_dir e.name es) (bytes_eq-differ e.name d.name (before_differs d.name e.name below)) ∙ found_dir es e a.1 later
    ]

found_file : (fs : List FileRow) (f : FileRow) → is_ascending (map file_name fs) ≡ true → Contains fs f → find_file f.name fs ≡ Some f
found_file [] f h has = absurd (in_none f has)
found_file (g ∷ fs) f h has =
    let a = and_parts (comes_first g.name (map file_name fs)) (is_ascending (map file_name fs)) h in
    elim (in_cases g fs f has) [
      | inl same ↦ subst (λ (x : FileRow). find_file x.name (g ∷ fs) ≡ Some x) (sym same) (cond-true (bytes_eq g.name g.name) (Some g) (find_file g.name fs) (bytes_eq-same g.name))
      | inr later ↦
          let below = first_below g.name (map file_name fs) f.name a.0 a.1 (in_map file_name fs f later) in
          cond-false (bytes_eq g.name f.name) (Some g) (find_file f.name fs) (bytes_eq-differ f.name g.name (before_differs g.name f.name below)) ∙ found_file fs f a.1 later
    ]

no_dir : (es : List DirRow) (x : List ℕ) → (Contains (map dir_name es) x → ⊥) → find_dir x es ≡ None
no_dir [] x off = refl
no_dir (e ∷ es) x off =
    cond-false (bytes_eq e.name x) (Some e) (find_dir x es)
    (false_from_ne_true (bytes_eq e.name x) (λ t. off (subst (Contains (e.name ∷ map dir_name es)) (bytes_eq-true e.name x t) (in_first e.name (map dir_name es)))))
    ∙ no_dir es x (λ has. off (in_rest e.name (map dir_name es) x has))

no_file : (fs : List FileRow) (x : List ℕ) → (Contains (map file_name fs) x → ⊥) → find_file x fs ≡ None
no_file [] x off = refl
no_file (f ∷ fs) x off =
    cond-false (bytes_eq f.name x) (Some f) (find_file x fs)
    (false_from_ne_true (bytes_eq f.name x) (λ t. off (subst (Contains (f.name ∷ map file_name fs)) (bytes_eq-true f.name x t) (in_first f.name (map file_name fs)))))
    ∙ no_file fs x (λ has. off (in_rest f.name (map file_name fs) x has))

pub child_dir : (view : TreeView) (e : DirRow) → HasNames view → Contains view.dirs e → entry_in e.name (Some view) ≡ directory e
child_dir view e names has = ap (λ d. either d (find_file e.name view.files)) (found_dir view.dirs e names.dirs has)

pub child_file : (view : TreeView) (f : FileRow) → HasNames view → Contains view.files f → entry_in f.name (Some view) ≡ file_at f.digest
child_file view f names has =
    ap (λ d. either d (find_file f.name view.files)) (no_dir view.dirs f.name (λ there. unshared (file_names view) (dir_names view) f.name names.apart (in_map file_name view.files f has) there))
    ∙ ap (either None) (found_file view.files f names.files has)

-- a name at which something is found is one of those
pub child_named : (view : TreeView) (x : List ℕ) → (entry_in x (Some view) ≡ nothing → ⊥) → Contains (file_names view ++ dir_names view) x
child_named view x some = by_file (list_any (bytes_eq x) (file_names view)) refl
  where
    contained : (xs : List (List ℕ)) → list_any (bytes_eq x) xs ≡ true → Contains xs x
    contained [] is = absurd (cc is)
    contained (y ∷ ys) is = elim (cases_Bool (bytes_eq x y)) [
      | inl t ↦ subst (λ (z : List ℕ). Contains (z ∷ ys) x) (bytes_eq-true x y t) (in_first x ys)
      | inr n ↦ in_rest y ys x (contained ys (ap (λ b. b || list_any (bytes_eq x) ys) (sym n) ∙ is))
    ]

    lacking : (xs : List (List ℕ)) → list_any (bytes_eq x) xs ≡ false → Contains xs x → ⊥
    lacking xs is has = both_ways (list_any (bytes_eq x) xs) is (any_true (bytes_eq x) xs x has (bytes_eq-same x))

    by_dir : list_any (bytes_eq x) (file_names view) ≡ false → (b : Bool) → list_any (bytes_eq x) (dir_names view) ≡ b → Contains (file_names view ++ dir_names view) x
    by_dir off true is = Contains-append_right (file_names view) (dir_names view) x (contained (dir_names view) is)
    by_dir off false is = absurd (some (ap (λ d. either d (find_file x view.files)) (no_dir view.dirs x (lacking (dir_names view) is)) ∙ ap (either None) (no_file view.files x (lacking (file_names view) off))))

    by_file : (b : Bool) → list_any (bytes_eq x) (file_names view) ≡ b → Contains (file_names view ++ dir_names view) x
    by_file true is = Contains-append_left (file_names view) (dir_names view) x (contained (file_names view) is)
    by_file false is = by_dir is (list_any (bytes_eq x) (dir_names view)) refl

pub child_path : (path : Elements) (view : TreeView) (x : List ℕ) → (entry_in x (Some view) ≡ nothing → ⊥) → Contains (paths_of (rows_in path view)) (x ∷ path)
child_path path view x some = subst (λ (l : List Elements). Contains l (x ∷ path)) (sym (inner_paths path view)) (in_map (in_folder path) (file_names view ++ dir_names view) x (child_named view x some))
