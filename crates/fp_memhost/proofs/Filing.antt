-- Files after an edit of one of them.
use Rattle.std.proofs.Common.{◌≡◌, ◌≢◌, ℕ, zero, suc, ◌+◌, ◌<◌, ◌≤◌, List, [], ◌∷◌, ◌++◌, length, get_or, set, map, Bool, true, false, eqb, cond, Option, Some, None, MatchOption, is_some, refl, sym, ◌∙◌, ap, subst, arith, inl, inr}
use Rattle.std.specs.List.{find, list_any}
use Rattle.std.proofs.lemmas.Bool.{cases_eq, cases_Bool, eqb-true, eq-eqb, ne_eqb, cond-true, cond-false, or_left, or_right, false≢true}
use Rattle.std.proofs.lemmas.List.{append-nil, length-map, length-set, get_or-set_same, get_or-set_other, get_or_default}
use Rattle.std.proofs.lemmas.Map.Steps.{le-length_from_below}
use Rattle.fp_host.specs.Calls.{set_file, grown}
use Rattle.fp_host.proofs.Separate.{file_same, file_other}
use Rattle.fp_memhost.specs.Files.{has_id, file_at, inode_in, new_in, files_of, dirty_of, IsFileAt, SameFiles, AddsFile, GrowsFile, SettlesFiles}
use Rattle.fp_memhost.specs.declared.files.Content.{Content}
use Rattle.fp_memhost.proofs.Finding.{find_here, set_hit, set_miss, append_hit, append_miss}

-- the file with the id is this one now, and each other one is what it was
pub record FileEdited (old new : List Content) (id : ℕ) (file : Content) : Type 0 where
  pub at : (i : ℕ) → file_at new i ≡ set_file (file_at old) id (Some file) i

has_same : (id : ℕ) (file : Content) → file.id ≡ id → has_id id file ≡ true
has_same id file is = eq-eqb id file.id (sym is)

has_other : (i id : ℕ) (file : Content) → file.id ≡ id → i ≢ id → has_id i file ≡ false
has_other i id file is ne = ne_eqb i file.id (λ e. ne (e ∙ is))

pub file_edit_set : (files : List Content) (id i : ℕ) (file : Content) → IsFileAt files id i → file.id ≡ id → FileEdited files (set files i file) id file
file_edit_set files id i file is same = record {
  at = λ j. elim (cases_eq j id) [
    | inl e ↦ subst (λ k. file_at (set files i file) k ≡ Some file) (sym e) (set_hit (has_id id) files i file is.low is.before (has_same id file same)) ∙ sym (file_same (file_at files) id (Some file) j e)
    | inr ne ↦ set_miss (has_id j) files i file file (has_other j id (get_or files i file) (is.here file) ne) (has_other j id file same ne) ∙ sym (file_other (file_at files) id (Some file) j ne)
  ];
}

pub file_edit_push : (files : List Content) (id : ℕ) (file : Content) → file_at files id ≡ None → file.id ≡ id → FileEdited files (files ++ file ∷ []) id file
file_edit_push files id file none same = record {
  at = λ j. elim (cases_eq j id) [
    | inl e ↦ subst (λ k. file_at (files ++ file ∷ []) k ≡ Some file) (sym e) (append_hit (has_id id) files [] file none (has_same id file same)) ∙ sym (file_same (file_at files) id (Some file) j e)
    | inr ne ↦ append_miss (has_id j) files [] file (has_other j id file same ne) ∙ ap (find (has_id j)) (append-nil files) ∙ sym (file_other (file_at files) id (Some file) j ne)
  ];
}

pub file_there : (files : List Content) (id i : ℕ) (d : Content) → IsFileAt files id i → file_at files id ≡ Some (get_or files i d)
file_there files id i d is = find_here (has_id id) files i d is.low is.before (has_same id (get_or files i d) (is.here d))

set_through : {A B : Type 0} (f : A → B) (g : ℕ → A) (id : ℕ) (a : A) (i : ℕ) → f (set_file g id a i) ≡ set_file (λ r. f (g r)) id (f a) i
set_through f g id a i = elim (cases_eq i id) [
  | inl e ↦ ap f (file_same g id a i e) ∙ sym (file_same (λ r. f (g r)) id (f a) i e)
  | inr ne ↦ ap f (file_other g id a i ne) ∙ sym (file_other (λ r. f (g r)) id (f a) i ne)
]

set_nothing : {A : Type 0} (g : ℕ → A) (id : ℕ) (a : A) (i : ℕ) → a ≡ g id → set_file g id a i ≡ g i
set_nothing g id a i is = elim (cases_eq i id) [ inl e ↦ file_same g id a i e ∙ is ∙ sym (ap g e) | inr ne ↦ file_other g id a i ne ]

module _ {old new : List Content} {id : ℕ} {file : Content} (edit : FileEdited old new id file) where
  edited_files : (i : ℕ) → files_of new i ≡ set_file (files_of old) id (inode_in (Some file)) i
  edited_files i = ap inode_in (edit.at i) ∙ set_through inode_in (file_at old) id (Some file) i

  edited_dirty : (i : ℕ) → dirty_of new i ≡ set_file (dirty_of old) id file.is_new i
  edited_dirty i = ap new_in (edit.at i) ∙ set_through new_in (file_at old) id (Some file) i

  pub adds_file : (mode : ℕ) → file.mode ≡ mode → file.bytes.items ≡ [] → file.is_new ≡ true → AddsFile id mode old new
  adds_file mode m b n = record {
    files = λ i. edited_files i ∙ (λ j. set_file (files_of old) id (Some (record { mode = m j; bytes = b j })) i);
    dirty = λ i. edited_dirty i ∙ ap (λ t. set_file (dirty_of old) id t i) n;
  }

  -- the file that was there, with more bytes
  pub grows_file : (was : Content) (bytes : List ℕ) → file_at old id ≡ Some was → file.mode ≡ was.mode → file.is_new ≡ was.is_new → file.bytes.items ≡ was.bytes.items ++ bytes → GrowsFile id bytes old new
  grows_file was bytes there m n b = record {
    files = λ i. edited_files i ∙ ap (λ row. set_file (files_of old) id row i) ((λ j. Some (record { mode = m j; bytes = b j })) ∙ sym (ap (λ o. grown (inode_in o) bytes) there));
    dirty = λ i. edited_dirty i ∙ set_nothing (dirty_of old) id file.is_new i (n ∙ sym (ap new_in there));
  }

  pub same_file : (was : Content) → file_at old id ≡ Some was → file.mode ≡ was.mode → file.is_new ≡ was.is_new → file.bytes.items ≡ was.bytes.items → SameFiles old new
  same_file was there m n b = record {
    files = λ i. edited_files i ∙ set_nothing (files_of old) id (inode_in (Some file)) i ((λ j. Some (record { mode = m j; bytes = b j })) ∙ sym (ap inode_in there));
    dirty = λ i. edited_dirty i ∙ set_nothing (dirty_of old) id file.is_new i (n ∙ sym (ap new_in there));
  }

pub files_unchanged : (old new : List Content) → new ≡ old → SameFiles old new
files_unchanged old new is = record { files = λ id. ap (λ l. files_of l id) is; dirty = λ id. ap (λ l. dirty_of l id) is }

-- where there is no such file
pub grows_none : (files : List Content) (id : ℕ) (bytes : List ℕ) → file_at files id ≡ None → GrowsFile id bytes files files
grows_none files id bytes none = record {
  files = λ i. sym (set_nothing (files_of files) id (grown (files_of files id) bytes) i (ap (λ o. grown (inode_in o) bytes) none ∙ sym (ap inode_in none)));
  dirty = λ i. refl;
}

-- among 0 to n there is a number that none of n files has
any_id : (files : List Content) (id : ℕ) → file_at files id ≢ None → list_any (eqb id) (map (λ f. f.id) files) ≡ true
any_id [] id some = absurd (some refl)
any_id (x ∷ xs) id some = elim (cases_Bool (eqb id x.id)) [
  | inl t ↦ or_left (eqb id x.id) _ t
  | inr f ↦ or_right (eqb id x.id) _ (any_id xs id (λ none. some (cond-false (eqb id x.id) (Some x) (file_at xs id) f ∙ none)))
]

pub not_all : (files : List Content) → ((k : ℕ) → k ≤ length files → file_at files k ≢ None) → ⊥
not_all files each = omega (arith, le-length_from_below (map (λ (f : Content). f.id) files) (length files + 1) (λ q low. any_id files q (each q (omega arith))), length-map files (λ (f : Content). f.id))

-- no longer new
pub record Settled (old new : Content) : Type 0 where
  pub id : new.id ≡ old.id
  pub row : inode_in (Some new) ≡ inode_in (Some old)
  pub known : new.is_new ≡ false

-- settled so far
pub record SettledFirst (i : ℕ) (old now : List Content) : Type 0 where
  pub len : length now ≡ length old
  pub front : (k : ℕ) (d : Content) → k < i → k < length old → Settled (get_or old k d) (get_or now k d)
  pub rest : (k : ℕ) (d : Content) → i ≤ k → get_or now k d ≡ get_or old k d

pub settled_none : (old : List Content) → SettledFirst 0 old old
settled_none old = record { len = refl; front = λ k d lt low. absurd (omega arith); rest = λ k d le. refl }

pub settled_more : (i : ℕ) (old now : List Content) (e is : Content) → SettledFirst i old now → i < length now → Settled (get_or now i e) is → SettledFirst (i + 1) old (set now i is)
settled_more i old now e is so low one = record {
  len = length-set now i is ∙ so.len;
  front = λ k d lt inside. elim (cases_eq k i) [
    | inl same ↦
        let here : get_or (set now i is) k d ≡ is = ap (λ j. get_or (set now i is) j d) same ∙ get_or-set_same now i is d low in
        let there : get_or old k d ≡ get_or now i e = ap (λ j. get_or old j d) same ∙ sym (so.rest i d (omega arith)) ∙ get_or_default now i d e low in
        subst (λ (x : Content). Settled x (get_or (set now i is) k d)) (sym there) (subst (Settled (get_or now i e)) (sym here) one)
    | inr ne ↦ subst (Settled (get_or old k d)) (sym (get_or-set_other now i k is d ne)) (so.front k d (omega arith) inside)
  ];
  rest = λ k d le. get_or-set_other now i k is d (λ same. omega arith) ∙ so.rest k d (omega arith);
}

settled_file : (id : ℕ) (old new : List Content) → length new ≡ length old → ((k : ℕ) (d : Content) → k < length old → Settled (get_or old k d) (get_or new k d)) → (files_of new id ≡ files_of old id) × (dirty_of new id ≡ false)
settled_file id [] [] len each = (refl, refl)
settled_file id [] (y ∷ ys) len each = absurd (omega arith)
settled_file id (x ∷ xs) [] len each = absurd (omega arith)
settled_file id (x ∷ xs) (y ∷ ys) len each =
    let first = each 0 x (omega arith) in
    let rest = settled_file id xs ys (omega arith) (λ k d low. each (suc k) d (omega arith)) in
    by_cases (eqb id y.id) (eqb id x.id) (ap (eqb id) first.id) first.row first.known rest.0 rest.1
  where
    by_cases : (a b : Bool) → a ≡ b → inode_in (Some y) ≡ inode_in (Some x) → y.is_new ≡ false → files_of ys id ≡ files_of xs id → dirty_of ys id ≡ false
        → (inode_in (cond a (Some y) (file_at ys id)) ≡ inode_in (cond b (Some x) (file_at xs id))) × (new_in (cond a (Some y) (file_at ys id)) ≡ false)
    by_cases true true is row known f d = (row, known)
    by_cases false false is row known f d = (f, d)
    by_cases true false is row known f d = absurd (false≢true (sym is))
    by_cases false true is row known f d = absurd (false≢true is)

pub settled_all : (i : ℕ) (old new : List Content) → SettledFirst i old new → length old ≤ i → SettlesFiles old new
settled_all i old new so le =
    let each : (id : ℕ) → (files_of new id ≡ files_of old id) × (dirty_of new id ≡ false) = λ id. settled_file id old new so.len (λ k d low. so.front k d (omega arith) low) in
    record { files = λ id. (each id).0; dirty = λ id. (each id).1 }

-- an edit of the file that was found
pub write_file : (files xs : List Content) (id i : ℕ) (file : Content) → IsFileAt xs id i → xs ≡ files → file.id ≡ id → FileEdited files (set files i file) id file
write_file files xs id i file found same is = file_edit_set files id i file (subst (λ (l : List Content). IsFileAt l id i) same found) is

pub write_there : (files xs : List Content) (id i : ℕ) (was : Content) → IsFileAt xs id i → xs ≡ files → was ≡ get_or files i was → (file_at files id ≡ Some was) × (was.id ≡ id)
write_there files xs id i was found same read =
    let is = subst (λ (l : List Content). IsFileAt l id i) same found in
    (file_there files id i was is ∙ ap (λ (f : Content). Some f) (sym read), ap (λ (f : Content). f.id) read ∙ is.here was)

pub push_file : (files xs : List Content) (id : ℕ) (file : Content) → file_at xs id ≡ None → xs ≡ files → file.id ≡ id → FileEdited files (files ++ file ∷ []) id file
push_file files xs id file none same is = file_edit_push files id file (subst (λ (l : List Content). file_at l id ≡ None) same none) is

pub is_present : (files : List Content) (id : ℕ) (r : Option ℕ) → MatchOption r (file_at files id ≡ None) (IsFileAt files id) → true ≡ is_some r → file_at files id ≢ None
is_present files id None tells t none = false≢true (sym t)
is_present [] id (Some i) tells t none = omega (arith, tells.low)
is_present (x ∷ xs) id (Some i) tells t none = cc (sym (file_there (x ∷ xs) id i x tells) ∙ none)

-- where each number above this one is taken, and this one is, it isn't 0
pub some_left : (files : List Content) (id : ℕ) → file_at files id ≢ None → ((k : ℕ) → id < k → k ≤ length files → file_at files k ≢ None) → 1 ≤ id
some_left files zero here above = absurd (not_all files (λ k le. elim (cases_eq k 0) [ inl e ↦ (λ none. here (ap (λ j. file_at files j) (sym e) ∙ none)) | inr ne ↦ above k (omega arith) le ]))
some_left files (suc id) here above = omega arith

-- the file that is found has the id
pub found_id : (files : List Content) (id : ℕ) (file : Content) → file_at files id ≡ Some file → file.id ≡ id
found_id [] id file is = absurd (cc is)
found_id (x ∷ xs) id file is = elim (cases_Bool (eqb id x.id)) [
  | inl t ↦ let same : x ≡ file = cc (sym (cond-true (eqb id x.id) (Some x) (file_at xs id) t) ∙ is) in ap (λ (f : Content). f.id) (sym same) ∙ sym (eqb-true id x.id t)
  | inr f ↦ found_id xs id file (sym (cond-false (eqb id x.id) (Some x) (file_at xs id) f) ∙ is)
]
