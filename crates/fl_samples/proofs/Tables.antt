-- What a commit has at each path, by a table of the paths at which it has something.
use Rattle.std.proofs.Common.{◌≡◌, inl, inr, ℕ, List, [], ◌∷◌, Bool, true, false, ◌||◌, cond, Option, Some, None, refl, sym, ◌∙◌, ap}
use Rattle.std.specs.Prelude.{if◌then◌else◌}
use Rattle.std.specs.Str.{bytes_eq}
use Rattle.std.specs.List.{AllByRecursion, list_all, list_any}
use Rattle.std.proofs.lemmas.Bool.{cases_Bool, both_ways, false_from_ne_true, and_parts}
use Rattle.std.proofs.lemmas.Slice.Eq.{bytes_eq-Decides}
use Rattle.fp_host.specs.Paths.{Elements, path_eq}
use Rattle.fp_host.specs.Outcome.{Spot, Disk}
use Rattle.fp_host.proofs.Separate.{path_decides}
use Rattle.fp_small.specs.Places.{repo}
use Rattle.ost_model.specs.Fields.{DirRow, FileRow, TreeView}
use Rattle.ost_model.specs.Objects.{Have, store}
use Rattle.ost_model.specs.Order.{tree_at, first_fault}
use Rattle.ost_model.specs.Look.{Found, nothing, directory, file_at, find_dir, find_file, either, entry_in, next, look}
use Rattle.ost_model.specs.Standing.{Stands, expected, is_metadata, deploy_name, metadata_name}
use Rattle.dep_states.specs.Samples.{rows_at}
use Rattle.fl_samples.proofs.Below.{below, below_at, without, without_at}

abbrev pub Table : Type 0
Table = List (Elements × Found)

abbrev pub found_in : Table → Elements → Found
found_in [] p = nothing
found_in (t ∷ ts) p = if path_eq p t.0 then t.1 else found_in ts p

-- ---- what is directly in a folder

abbrev pub Names : Type 0
Names = List (List ℕ × Found)

abbrev pub named : Names → List ℕ → Found
named [] x = nothing
named (n ∷ ns) x = if bytes_eq n.0 x then n.1 else named ns x

-- the row's name, where it is directly in the folder
abbrev pub child : Elements → Elements → Found → Names → Names
child up [] f more = more
child up (x ∷ q) f more = if path_eq q up then (x, f) ∷ more else more

abbrev pub names_in : Elements → Table → Names
names_in up [] = []
names_in up (t ∷ ts) = child up t.0 t.1 (names_in up ts)

-- the entries of a directory's dirtree
abbrev pub dir_names : List DirRow → Names → Names
dir_names [] more = more
dir_names (e ∷ es) more = (e.name, directory e) ∷ dir_names es more

abbrev pub file_names : List FileRow → Names
file_names [] = []
file_names (f ∷ fs) = (f.name, file_at f.digest) ∷ file_names fs

abbrev pub tree_names : Option TreeView → Names
tree_names None = []
tree_names (Some v) = dir_names v.dirs (file_names v.files)

abbrev pub entries : Have → Found → Names
entries have nothing = []
entries have (file_at d) = []
entries have (directory e) = tree_names (tree_at have e.tree)

-- ---- they are what is found

either_none : (x : List ℕ) (fs : List FileRow) → either None (find_file x fs) ≡ named (file_names fs) x
either_none x [] = refl
either_none x (f ∷ fs) = elim (cases_Bool (bytes_eq f.name x)) [
  | inl t ↦ rw t refl
  | inr n ↦ rw n (either_none x fs)
]

either_named : (x : List ℕ) (es : List DirRow) (fs : List FileRow) → either (find_dir x es) (find_file x fs) ≡ named (dir_names es (file_names fs)) x
either_named x [] fs = either_none x fs
either_named x (e ∷ es) fs = elim (cases_Bool (bytes_eq e.name x)) [
  | inl t ↦ rw t refl
  | inr n ↦ rw n (either_named x es fs)
]

entry_named : (x : List ℕ) (v : Option TreeView) → entry_in x v ≡ named (tree_names v) x
entry_named x None = refl
entry_named x (Some v) = either_named x v.dirs v.files

next_named : (have : Have) (x : List ℕ) (f : Found) → next have x f ≡ named (entries have f) x
next_named have x nothing = refl
next_named have x (file_at d) = refl
next_named have x (directory e) = entry_named x (tree_at have e.tree)

pair_test : (x y : List ℕ) (up q : Elements) (b : Bool) → path_eq q up ≡ b → path_eq (x ∷ up) (y ∷ q) ≡ cond b (bytes_eq y x) false
pair_test x y up q true t = same_bool (path_eq (x ∷ up) (y ∷ q)) (bytes_eq y x)
    (λ e. (bytes_eq-Decides y x).1 (head_is ((path_decides (x ∷ up) (y ∷ q)).0 e)))
    (λ e. (path_decides (x ∷ up) (y ∷ q)).1 (λ i. sym ((bytes_eq-Decides y x).0 e) i ∷ sym ((path_decides q up).0 t) i))
  where
    same_bool : (a b : Bool) → (a ≡ true → b ≡ true) → (b ≡ true → a ≡ true) → a ≡ b
    same_bool true true f g = refl
    same_bool false false f g = refl
    same_bool true false f g = sym (f refl)
    same_bool false true f g = g refl

    head_is : x ∷ up ≡ y ∷ q → y ≡ x
    head_is e = cc
pair_test x y up q false f = false_from_ne_true (path_eq (x ∷ up) (y ∷ q)) (λ t. both_ways (path_eq q up) f ((path_decides q up).1 (tail_is ((path_decides (x ∷ up) (y ∷ q)).0 t))))
  where
    tail_is : x ∷ up ≡ y ∷ q → q ≡ up
    tail_is e = cc

child_named : (x : List ℕ) (up q : Elements) (f : Found) (more : Names) → named (child up q f more) x ≡ (if path_eq (x ∷ up) q then f else named more x)
child_named x up [] f more = refl
child_named x up (y ∷ q) f more = elim (cases_Bool (path_eq q up)) [
  | inl t ↦ ap (λ b. named (cond b ((y, f) ∷ more) more) x) t ∙ sym (ap (λ b. cond b f (named more x)) (pair_test x y up q true t))
  | inr n ↦ ap (λ b. named (cond b ((y, f) ∷ more) more) x) n ∙ sym (ap (λ b. cond b f (named more x)) (pair_test x y up q false n))
]

table_named : (ts : Table) (x : List ℕ) (up : Elements) → found_in ts (x ∷ up) ≡ named (names_in up ts) x
table_named [] x up = refl
table_named (t ∷ ts) x up = ap (λ f. if path_eq (x ∷ up) t.0 then t.1 else f) (table_named ts x up) ∙ sym (child_named x up t.0 t.1 (names_in up ts))

-- ---- a table of a commit

-- the folder of each row is a row
abbrev pub has_folder : Table → Elements → Bool
has_folder ts [] = true
has_folder ts (x ∷ up) = list_any (λ t. path_eq up t.0) ts

abbrev pub is_closed : Table → Bool
is_closed ts = list_all (λ t. has_folder ts t.0) ts

pub record IsTable (have : Have) (commit : List ℕ) (ts : Table) : Type 0 where
  pub root : look have commit [] ≡ found_in ts []
  pub closed : is_closed ts ≡ true
  pub rows : AllByRecursion (λ t. names_in t.0 ts ≡ entries have t.1) ts

-- nothing is in what is no row
none_found : (all ts : Table) (up : Elements) → list_any (λ t. path_eq up t.0) all ≡ false → list_all (λ t. has_folder all t.0) ts ≡ true → names_in up ts ≡ []
none_found all [] up none closed = refl
none_found all (t ∷ ts) up none closed =
    let a = and_parts (has_folder all t.0) (list_all (λ u. has_folder all u.0) ts) closed in
    ap (child up t.0 t.1) (none_found all ts up none a.1) ∙ no_child t.0 a.0
  where
    no_child : (q : Elements) → has_folder all q ≡ true → child up q t.1 [] ≡ []
    no_child [] has = refl
    no_child (x ∷ q) has = elim (cases_Bool (path_eq q up)) [
      | inl same ↦ absurd (both_ways (list_any (λ u. path_eq up u.0) all) none (ap (λ p. list_any (λ u. path_eq p u.0) all) (sym ((path_decides q up).0 same)) ∙ has))
      | inr other ↦ ap (λ b. cond b ((x, t.1) ∷ []) []) other
    ]

not_found : (ts : Table) (up : Elements) → list_any (λ t. path_eq up t.0) ts ≡ false → found_in ts up ≡ nothing
not_found [] up none = refl
not_found (t ∷ ts) up none = elim (cases_Bool (path_eq up t.0)) [
  | inl same ↦ absurd (true_false (sym (ap (λ b. b || list_any (λ u. path_eq up u.0) ts) same) ∙ none))
  | inr other ↦ rw other (not_found ts up (rw other at none))
]
  where
    true_false : true ≡ false → ⊥
    true_false e = cc

row_names : (have : Have) (all ts : Table) (up : Elements) → AllByRecursion (λ t. names_in t.0 all ≡ entries have t.1) ts → list_any (λ t. path_eq up t.0) ts ≡ true → names_in up all ≡ entries have (found_in ts up)
row_names have all [] up rows any = absurd cc
row_names have all (t ∷ ts) up rows any = elim (cases_Bool (path_eq up t.0)) [
  | inl same ↦ rw same (ap (λ p. names_in p all) ((path_decides up t.0).0 same) ∙ rows.0)
  | inr other ↦ rw other (row_names have all ts up rows.1 (rw other at any))
]

module _ {have : Have} {commit : List ℕ} {ts : Table} (is : IsTable have commit ts) where
  names_are : (up : Elements) → names_in up ts ≡ entries have (found_in ts up)
  names_are up = elim (cases_Bool (list_any (λ t. path_eq up t.0) ts)) [
    | inl some ↦ row_names have ts ts up is.rows some
    | inr none ↦ none_found ts ts up none is.closed ∙ sym (ap (entries have) (not_found ts up none))
  ]

  -- what is found at each path is what the table has
  pub look_is : (p : Elements) → look have commit p ≡ found_in ts p
  look_is [] = is.root
  look_is (x ∷ up) = ap (next have x) (look_is up) ∙ next_named have x (found_in ts up) ∙ ap (λ (ns : Names). named ns x) (sym (names_are up)) ∙ sym (table_named ts x up)

-- ---- a commit that stands

abbrev pub expected_rows : Disk → Table → List (Elements × Spot)
expected_rows disk [] = []
expected_rows disk (t ∷ ts) = (t.0, expected repo disk t.1) ∷ expected_rows disk ts

expected_at : (disk : Disk) (ts : Table) (p : Elements) → rows_at (expected_rows disk ts) p ≡ expected repo disk (found_in ts p)
expected_at disk [] p = refl
expected_at disk (t ∷ ts) p = elim (cases_Bool (path_eq p t.0)) [
  | inl same ↦ rw same refl
  | inr other ↦ rw other (expected_at disk ts p)
]

-- what is in the folder but its record is what the table has; and the rest by computing
pub record IsLaidOut (reads : List ℕ → Bool) (rs : List (Elements × Spot)) (commit : List ℕ) (dir : Elements) (ts : Table) : Type 0 where
  pub table : IsTable (store repo (rows_at rs)) commit ts
  pub rows : without deploy_name (below dir rs) ≡ expected_rows (rows_at rs) ts
  pub whole : first_fault (store repo (rows_at rs)) commit ≡ None
  pub described : is_metadata reads (expected repo (rows_at rs) (found_in ts metadata_name)) ≡ true
  pub no_deploy : found_in ts deploy_name ≡ nothing

pub stands_laid : {reads : List ℕ → Bool} {rs : List (Elements × Spot)} {commit : List ℕ} {dir : Elements} {ts : Table} → IsLaidOut reads rs commit dir ts → Stands reads repo (rows_at rs) commit dir
stands_laid {reads = reads} {rs = rs} {dir = dir} {ts = ts} is = record {
  paths = λ rest off. below_at dir rest rs ∙ without_at deploy_name rest (below dir rs) off ∙ ap (λ l. rows_at l rest) is.rows ∙ expected_at (rows_at rs) ts rest ∙ ap (expected repo (rows_at rs)) (sym (look_is is.table rest));
  whole = is.whole;
  described = ap (λ f. is_metadata reads (expected repo (rows_at rs) f)) (look_is is.table metadata_name) ∙ is.described;
  no_deploy = look_is is.table deploy_name ∙ is.no_deploy;
}
