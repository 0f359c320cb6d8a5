-- An image that is chosen.
use Rattle.std.proofs.Common.{◌≡◌, ◌≢◌, ◌⊎◌, inl, inr, ℕ, zero, suc, ◌+◌, ◌-◌, ◌<◌, ◌≤◌, ◌&&◌, List, [], ◌∷◌, ◌++◌, length, get_or, take, drop, map, Bool, true, false, eqb, cond, Option, Some, None, refl, sym, ◌∙◌, ap, subst, arith}
use Rattle.std.proofs.Math.ListN.{get_or-map}
use Rattle.std.proofs.lemmas.List.{append-nil, get_or-take, length-take, take_more}
use Rattle.std.proofs.lemmas.Cmp.{nat_list_cmp_total, tied_itself}
use Rattle.std.specs.List.{list_all}
use Rattle.std.proofs.lemmas.Bool.{cases_Bool, cond-true, cond-false, and_parts, false_from_ne_true, eqb-true, leb-true}
use Rattle.fp_base.proofs.Lists.{drop_read}
use Rattle.fp_host.specs.Paths.{Elements, Slot, absent, path_eq, path_text, at}
use Rattle.fp_host.specs.View.{View, Inode, MayBe, IsTree}
use Rattle.fp_host.specs.Outcome.{spot_of, MayHold, IsSameMode}
use Rattle.fp_host.proofs.Separate.{path_decides, path_cases}
use Rattle.fp_host.specs.declared.host.Entry.{Entry}
use Rattle.fp_memhost.specs.declared.image.FileRow.{FileRow}
use Rattle.fp_memhost.specs.declared.image.Image.{Image}
use Rattle.fp_memhost.specs.declared.image.Choice.{Choice}
use Rattle.fp_memhost.specs.declared.names.Name.{Name}
use Rattle.fp_memhost.specs.declared.files.Content.{Content}
use Rattle.fp_memhost.specs.Names.{IsAscending, slot_of, slot_in, held_in, is_at, name_at, names_of, earlier_of}
use Rattle.fp_memhost.specs.Files.{has_id, file_at, inode_in, files_of}
use Rattle.fp_memhost.specs.Images.{listed_slot, slots_of, rows_of, number_for, bytes_for, numbered, chosen_slot, with_bytes, chosen_row, has_entry, is_open_file, can_choose, IsChosen}
use Rattle.fp_memhost.specs.Choosing.{entry_in, ChoosesNames, ChoosesFiles, bytes_of}
use Rattle.fp_memhost.proofs.Finding.{append_hit, append_miss, find_none}
use Rattle.fp_memhost.proofs.Judging.{entry_present}
use Rattle.fp_memhost.proofs.Opened.{first_row, first_on, first_none}
use Rattle.fp_memhost.proofs.Ordered.{compare, in_order}

pub all_cut : {A : Type 0} (p : A → Bool) (xs : List A) (i : ℕ) (x : A) → i < length xs → x ≡ get_or xs i x → list_all p (drop i xs) ≡ p x && list_all p (drop (i + 1) xs)
all_cut p xs i x low is = ap (list_all p) (drop_read xs i x low is)

pub number_cut : (xs : List (Elements × ℕ)) (q : Elements) (i : ℕ) (x : Elements × ℕ) → i < length xs → x ≡ get_or xs i x → number_for (drop i xs) q ≡ cond (path_eq q x.0) x.1 (number_for (drop (i + 1) xs) q)
number_cut xs q i x low is = ap (λ (l : List (Elements × ℕ)). number_for l q) (drop_read xs i x low is)

pub bytes_cut : (xs : List (ℕ × List ℕ)) (id : ℕ) (i : ℕ) (x : ℕ × List ℕ) → i < length xs → x ≡ get_or xs i x → bytes_for (drop i xs) id ≡ cond (eqb id x.0) (Some x.1) (bytes_for (drop (i + 1) xs) id)
bytes_cut xs id i x low is = ap (λ (l : List (ℕ × List ℕ)). bytes_for l id) (drop_read xs i x low is)

-- the entry of a number after 0
pub numbered_some : (p : Slot) (l : List Slot) (n : ℕ) → n ≢ 0 → numbered p l n ≡ get_or l (n - 1) absent
numbered_some p l zero some = absurd (some refl)
numbered_some p l (suc n) some = let less : n ≡ suc n - 1 = omega arith in ap (λ k. get_or l k absent) less

pub numbered_zero : (p : Slot) (l : List Slot) (n : ℕ) → n ≡ 0 → numbered p l n ≡ p
numbered_zero p l n is = ap (numbered p l) is

pub slot_got : (l : List (Option Entry)) (n : ℕ) → get_or (map slot_of l) n absent ≡ slot_of (get_or l n None)
slot_got l n = get_or-map slot_of l n None

got_none : {A : Type 0} (l : List A) (n : ℕ) (d : A) → length l ≤ n → get_or l n d ≡ d
got_none [] n d le = refl
got_none (x ∷ xs) zero d le = absurd (omega arith)
got_none (x ∷ xs) (suc n) d le = got_none xs n d (omega arith)

pub numbered_past : (p : Slot) (l : List (Option Entry)) (n : ℕ) → n ≢ 0 → length l ≤ n - 1 → numbered p (map slot_of l) n ≡ absent
numbered_past p l n some le = numbered_some p (map slot_of l) n some ∙ slot_got l (n - 1) ∙ ap slot_of (got_none l (n - 1) None le)

numbered_none : (n : ℕ) → numbered absent [] n ≡ absent
numbered_none zero = refl
numbered_none (suc n) = refl

-- one name more in an image
listed_next : (xs : List (Elements × Entry)) (y : Elements × Entry) (q : Elements) → listed_slot xs q ≡ absent → path_eq q y.0 ≡ true → listed_slot (xs ++ y ∷ []) q ≡ slot_of (Some y.1)
listed_next [] y q none t = cond-true (path_eq q y.0) (slot_of (Some y.1)) absent t
listed_next (x ∷ xs) y q none t = elim (cases_Bool (path_eq q x.0)) [
  | inl here ↦ absurd (entry_present (Some x.1) refl (sym (cond-true (path_eq q x.0) (slot_of (Some x.1)) (listed_slot xs q) here) ∙ none))
  | inr f ↦ cond-false (path_eq q x.0) (slot_of (Some x.1)) (listed_slot (xs ++ y ∷ []) q) f ∙ listed_next xs y q (sym (cond-false (path_eq q x.0) (slot_of (Some x.1)) (listed_slot xs q) f) ∙ none) t
]

listed_miss : (xs : List (Elements × Entry)) (y : Elements × Entry) (q : Elements) → path_eq q y.0 ≡ false → listed_slot (xs ++ y ∷ []) q ≡ listed_slot xs q
listed_miss [] y q f = cond-false (path_eq q y.0) (slot_of (Some y.1)) absent f
listed_miss (x ∷ xs) y q f = ap (λ (s : Slot). cond (path_eq q x.0) (slot_of (Some x.1)) s) (listed_miss xs y q f)

-- what is chosen of a name
abbrev pub pick : List (Elements × ℕ) → Option Name → Slot
pick numbers None = absent
pick numbers (Some name) = entry_in name (number_for numbers name.path)

-- so far
pub record NamesTo (i : ℕ) (names : List Name) (numbers : List (Elements × ℕ)) (chosen : List (Elements × Entry)) : Type 0 where
  pub each : (q : Elements) → listed_slot chosen q ≡ pick numbers (name_at (take i names) q)

pub names_none : (names : List Name) (numbers : List (Elements × ℕ)) → NamesTo 0 names numbers []
names_none names numbers = record { each = λ q. refl }

-- no earlier name has this path
new_path : (names : List Name) (i : ℕ) (name : Name) → IsAscending names → i < length names → name ≡ get_or names i name → name_at (take i names) name.path ≡ None
new_path names i name asc low is = find_none (is_at name.path) (take i names) (λ k d inside.
    let small : k < i = omega (arith, length-take i names) in
    false_from_ne_true (is_at name.path (get_or (take i names) k d)) (λ t.
    let same : name.path ≡ (get_or names k d).path = (path_decides name.path (get_or (take i names) k d).path).0 t ∙ ap (λ (n : Name). n.path) (get_or-take i names k d small) in
    let less = in_order names asc.each k i d name small low in
    let equal = ap (λ (p : Elements). compare (path_text (get_or names k d).path) (path_text p)) (ap (λ (n : Name). n.path) (sym is) ∙ same) ∙ tied_itself nat_list_cmp_total (path_text (get_or names k d).path) in
    cc (sym less ∙ equal)))

module _ (i : ℕ) (names : List Name) (numbers : List (Elements × ℕ)) (chosen : List (Elements × Entry)) (name : Name) (so : NamesTo i names numbers chosen) (asc : IsAscending names) (low : i < length names) (is : name ≡ get_or names i name) where
  more : take (i + 1) names ≡ take i names ++ name ∷ []
  more = take_more names i name low ∙ ap (λ (n : Name). take i names ++ n ∷ []) (sym is)

  here : (q : Elements) → q ≡ name.path → (name_at (take i names) q ≡ None) × (name_at (take (i + 1) names) q ≡ Some name)
  here q same =
      let none : name_at (take i names) q ≡ None = ap (name_at (take i names)) same ∙ new_path names i name asc low is in
      (none, ap (λ (l : List Name). name_at l q) more ∙ append_hit (is_at q) (take i names) [] name none ((path_decides q name.path).1 same))

  other : (q : Elements) → q ≢ name.path → name_at (take (i + 1) names) q ≡ name_at (take i names) q
  other q ne = ap (λ (l : List Name). name_at l q) more ∙ append_miss (is_at q) (take i names) [] name (false_from_ne_true (is_at q name) (λ t. ne ((path_decides q name.path).0 t))) ∙ ap (λ (l : List Name). name_at l q) (append-nil (take i names))

  named_more : (entry : Entry) → slot_of (Some entry) ≡ entry_in name (number_for numbers name.path) → NamesTo (i + 1) names numbers (chosen ++ (name.path, entry) ∷ [])
  named_more entry tells = record {
    each = λ q. elim (path_cases q name.path) [
      | inl same ↦
          listed_next chosen (name.path, entry) q (so.each q ∙ ap (pick numbers) (here q same).0) ((path_decides q name.path).1 same) ∙ tells ∙ sym (ap (pick numbers) (here q same).1)
      | inr ne ↦
          listed_miss chosen (name.path, entry) q (false_from_ne_true (path_eq q name.path) (λ t. ne ((path_decides q name.path).0 t))) ∙ so.each q ∙ sym (ap (pick numbers) (other q ne))
    ];
  }

  pub names_more : (p : Elements) (entry : Entry) → p ≡ name.path → slot_of (Some entry) ≡ entry_in name (number_for numbers name.path) → NamesTo (i + 1) names numbers (chosen ++ (p, entry) ∷ [])
  names_more p entry path tells = subst (λ (r : Elements). NamesTo (i + 1) names numbers (chosen ++ (r, entry) ∷ [])) (sym path) (named_more entry tells)

  pub names_skip : absent ≡ entry_in name (number_for numbers name.path) → NamesTo (i + 1) names numbers chosen
  names_skip tells = record {
    each = λ q. elim (path_cases q name.path) [
      | inl same ↦ so.each q ∙ ap (pick numbers) (here q same).0 ∙ tells ∙ sym (ap (pick numbers) (here q same).1)
      | inr ne ↦ so.each q ∙ sym (ap (pick numbers) (other q ne))
    ];
  }

found_at_path : (names : List Name) (q : Elements) (name : Name) → name_at names q ≡ Some name → q ≡ name.path
found_at_path [] q name is = absurd (cc is)
found_at_path (x ∷ xs) q name is = elim (cases_Bool (is_at q x)) [
  | inl t ↦ let same : x ≡ name = cc (sym (cond-true (is_at q x) (Some x) (name_at xs q) t) ∙ is) in (path_decides q x.path).0 t ∙ ap (λ (n : Name). n.path) same
  | inr f ↦ found_at_path xs q name (sym (cond-false (is_at q x) (Some x) (name_at xs q) f) ∙ is)
]

pub names_end : (names : List Name) (v : View) (numbers : List (Elements × ℕ)) (chosen : List (Elements × Entry)) (i : ℕ) → take i names ≡ names → ((q : Elements) → v.names q ≡ names_of names q) → ((q : Elements) → v.earlier q ≡ earlier_of names q)
    → NamesTo i names numbers chosen → ChoosesNames v numbers chosen
names_end names v numbers chosen i all present earlier so = record {
  names = λ q. so.each q ∙ ap (λ (l : List Name). pick numbers (name_at l q)) all ∙ picked q (name_at names q) refl ∙ (λ j. numbered (sym (present q) j) (sym (earlier q) j) (number_for numbers q));
}
  where
    picked : (q : Elements) (o : Option Name) → name_at names q ≡ o → pick numbers o ≡ numbered (slot_in o) (held_in o) (number_for numbers q)
    picked q None is = sym (numbered_none (number_for numbers q))
    picked q (Some name) is = ap (λ (p : Elements). entry_in name (number_for numbers p)) (sym (found_at_path names q name is))

-- the files so far, and those that are left
pub record ChosenTo (i : ℕ) (files : List Content) (bytes : List (ℕ × List ℕ)) (chosen : List FileRow) : Type 0 where
  pub each : (id : ℕ) → first_row (rows_of chosen id) (with_bytes (files_of (drop i files) id) (bytes_for bytes id)) ≡ with_bytes (files_of files id) (bytes_for bytes id)

pub chosen_none : (files : List Content) (bytes : List (ℕ × List ℕ)) → ChosenTo 0 files bytes []
chosen_none files bytes = record { each = λ id. refl }

abbrev row_in : FileRow → Option Inode
row_in r = Some (record { mode = r.mode; bytes = r.bytes })

rows_more : (rows : List FileRow) (r : FileRow) (id : ℕ) → rows_of (rows ++ r ∷ []) id ≡ first_row (rows_of rows id) (cond (eqb id r.id) (row_in r) None)
rows_more [] r id = refl
rows_more (x ∷ xs) r id = by_test (eqb id x.id) (rows_more xs r id)
  where
    by_test : (b : Bool) → rows_of (xs ++ r ∷ []) id ≡ first_row (rows_of xs id) (cond (eqb id r.id) (row_in r) None) → cond b (row_in x) (rows_of (xs ++ r ∷ []) id) ≡ first_row (cond b (row_in x) (rows_of xs id)) (cond (eqb id r.id) (row_in r) None)
    by_test true rest = refl
    by_test false rest = rest

with_own : (f : Inode) (b : Option (List ℕ)) → with_bytes (Some f) b ≡ Some (record { mode = f.mode; bytes = bytes_of f.bytes b })
with_own f None = refl
with_own f (Some bytes) = refl

chosen_row_is : (f : Content) (r : FileRow) (bytes : List (ℕ × List ℕ)) (id : ℕ) (rest : Option Content) → r.id ≡ f.id → r.mode ≡ f.mode → r.bytes ≡ bytes_of f.bytes.items (bytes_for bytes f.id)
    → first_row (cond (eqb id r.id) (row_in r) None) (with_bytes (inode_in rest) (bytes_for bytes id)) ≡ with_bytes (inode_in (cond (has_id id f) (Some f) rest)) (bytes_for bytes id)
chosen_row_is f r bytes id rest i m b = by_test (eqb id r.id) (has_id id f) (ap (eqb id) i) (λ t. eqb-true id f.id t)
  where
    by_test : (s t : Bool) → s ≡ t → (t ≡ true → id ≡ f.id) → first_row (cond s (row_in r) None) (with_bytes (inode_in rest) (bytes_for bytes id)) ≡ with_bytes (inode_in (cond t (Some f) rest)) (bytes_for bytes id)
    by_test true true e same =
        (λ j. Some (record { mode = m j; bytes = (b ∙ ap (λ n. bytes_of f.bytes.items (bytes_for bytes n)) (sym (same refl))) j })) ∙ sym (with_own (record { mode = f.mode; bytes = f.bytes.items }) (bytes_for bytes id))
    by_test false false e same = refl
    by_test true false e same = absurd (cc)
    by_test false true e same = absurd (cc)

pub chosen_more : (i : ℕ) (files : List Content) (bytes : List (ℕ × List ℕ)) (chosen : List FileRow) (f : Content) (r : FileRow) → ChosenTo i files bytes chosen → i < length files → f ≡ get_or files i f
    → r.id ≡ f.id → r.mode ≡ f.mode → r.bytes ≡ bytes_of f.bytes.items (bytes_for bytes f.id) → ChosenTo (i + 1) files bytes (chosen ++ r ∷ [])
chosen_more i files bytes chosen f r so low is same_id same_mode same_bytes = record {
  each = λ id.
      let rest = drop (i + 1) files in
      ap (λ (o : Option Inode). first_row o (with_bytes (files_of rest id) (bytes_for bytes id))) (rows_more chosen r id)
      ∙ first_on (rows_of chosen id) (cond (eqb id r.id) (row_in r) None) (with_bytes (files_of rest id) (bytes_for bytes id))
      ∙ ap (first_row (rows_of chosen id)) (chosen_row_is f r bytes id (file_at rest id) same_id same_mode same_bytes)
      ∙ sym (ap (λ (l : List Content). first_row (rows_of chosen id) (with_bytes (files_of l id) (bytes_for bytes id))) (drop_read files i f low is))
      ∙ so.each id;
}

with_none : (b : Option (List ℕ)) → with_bytes None b ≡ None
with_none b = refl

pub chosen_end : (i : ℕ) (files : List Content) (bytes : List (ℕ × List ℕ)) (chosen : List FileRow) → drop i files ≡ [] → ChosenTo i files bytes chosen → ChoosesFiles files bytes chosen
chosen_end i files bytes chosen none so = record {
  rows = λ id. sym (first_none (rows_of chosen id)) ∙ sym (ap (λ (l : List Content). first_row (rows_of chosen id) (with_bytes (files_of l id) (bytes_for bytes id))) none) ∙ so.each id;
}

-- what is chosen may be left
number_low : (v : View) (numbers : List (Elements × ℕ)) (q : Elements) → list_all (has_entry v) numbers ≡ true → number_for numbers q ≤ length (v.earlier q)
number_low v [] q all = omega arith
number_low v (x ∷ xs) q all =
    let parts = and_parts (has_entry v x) (list_all (has_entry v) xs) all in
    elim (path_cases q x.0) [
      | inl e ↦
          let is : number_for (x ∷ xs) q ≡ x.1 = cond-true (path_eq q x.0) x.1 (number_for xs q) ((path_decides q x.0).1 e) in
          let low : x.1 ≤ length (v.earlier x.0) = leb-true x.1 (length (v.earlier x.0)) parts.0 in
          let same : length (v.earlier q) ≡ length (v.earlier x.0) = ap (λ (p : Elements). length (v.earlier p)) e in
          omega arith
      | inr ne ↦
          let is : number_for (x ∷ xs) q ≡ number_for xs q = cond-false (path_eq q x.0) x.1 (number_for xs q) (false_from_ne_true (path_eq q x.0) (λ t. ne ((path_decides q x.0).0 t))) in
          let rest = number_low v xs q parts.1 in
          omega arith
    ]

slot_may : (v : View) (q : Elements) (n : ℕ) → n ≤ length (v.earlier q) → MayBe v q (numbered (v.names q) (v.earlier q) n)
slot_may v q zero low = inl refl
slot_may v q (suc n) low = inr (n, omega arith, got_default (v.earlier q) n (omega arith))
  where
    got_default : (l : List Slot) (k : ℕ) → k < length l → get_or l k (get_or l k absent) ≡ get_or l k absent
    got_default [] k lt = absurd (omega arith)
    got_default (x ∷ xs) zero lt = refl
    got_default (x ∷ xs) (suc k) lt = got_default xs k (omega arith)

pub may_choose : (v : View) (numbers : List (Elements × ℕ)) → list_all (has_entry v) numbers ≡ true → (q : Elements) → MayBe v q (chosen_slot v numbers q)
may_choose v numbers all q = slot_may v q (number_for numbers q) (number_low v numbers q all)

open_if : (v : View) (bytes : List (ℕ × List ℕ)) (id : ℕ) → list_all (is_open_file v) bytes ≡ true → (bytes_for bytes id ≡ None) ⊎ (v.dirty id ≡ true)
open_if v [] id all = inl refl
open_if v (x ∷ xs) id all =
    let parts = and_parts (is_open_file v x) (list_all (is_open_file v) xs) all in
    elim (cases_Bool (eqb id x.0)) [
      | inl t ↦ inr (ap v.dirty (eqb-true id x.0 t) ∙ parts.0)
      | inr f ↦ elim (open_if v xs id parts.1) [
        | inl none ↦ inl (cond-false (eqb id x.0) (Some x.1) (bytes_for xs id) f ∙ none)
        | inr dirty ↦ inr dirty
      ]
    ]

same_mode_with : (row : Option Inode) (b : Option (List ℕ)) → IsSameMode row (with_bytes row b)
same_mode_with None b = tt
same_mode_with (Some f) None = refl
same_mode_with (Some f) (Some bytes) = refl

with_nothing : (row : Option Inode) → with_bytes row None ≡ row
with_nothing None = refl
with_nothing (Some f) = refl

pub may_fill : (v : View) (bytes : List (ℕ × List ℕ)) → list_all (is_open_file v) bytes ≡ true → (id : ℕ) → MayHold v id (chosen_row v bytes id)
may_fill v bytes all id = elim (open_if v bytes id all) [
  | inl none ↦ inl (ap (with_bytes (v.files id)) none ∙ with_nothing (v.files id))
  | inr dirty ↦ inr (dirty, same_mode_with (v.files id) (bytes_for bytes id))
]

with_some : (row : Option Inode) (b : Option (List ℕ)) → row ≢ None → with_bytes row b ≢ None
with_some None b some is = some refl
with_some (Some f) None some is = cc is
with_some (Some f) (Some bytes) some is = cc is

with_mode : (row : Option Inode) (b : Option (List ℕ)) (f : Inode) → with_bytes row b ≡ Some f → (g : Inode) × (row ≡ Some g) × (f.mode ≡ g.mode)
with_mode None b f is = absurd (cc is)
with_mode (Some g) None f is = (g, refl, let same : g ≡ f = cc is in ap (λ (x : Inode). x.mode) (sym same))
with_mode (Some g) (Some bytes) f is = (g, refl, mode_of is)
  where
    mode_of : Some (record g { bytes = bytes }) ≡ Some f → f.mode ≡ g.mode
    mode_of e = let same : record g { bytes = bytes } ≡ f = cc e in ap (λ (x : Inode). x.mode) (sym same)

slots_are : (v : View) (tree : IsTree v) (choice : Choice) (image : Image) → can_choose v choice ≡ true → ChoosesNames v choice.names image.names → (q : Elements) → slots_of image.names q ≡ chosen_slot v choice.names q
slots_are v tree choice image can names [] = sym (tree.only_root (chosen_slot v choice.names []) (may_choose v choice.names (and_parts (list_all (has_entry v) choice.names) (list_all (is_open_file v) choice.files) can).0 []))
slots_are v tree choice image can names (x ∷ up) = names.names (x ∷ up)

pub is_chosen : (v : View) → IsTree v → (choice : Choice) (image : Image) → can_choose v choice ≡ true → ChoosesNames v choice.names image.names → ((id : ℕ) → rows_of image.files id ≡ chosen_row v choice.files id) → IsChosen v choice image
is_chosen v tree choice image can names rows =
    let parts = and_parts (list_all (has_entry v) choice.names) (list_all (is_open_file v) choice.files) can in
    let slots : (q : Elements) → slots_of image.names q ≡ chosen_slot v choice.names q = slots_are v tree choice image can names in
    let may : (q : Elements) → MayBe v q (chosen_slot v choice.names q) = may_choose v choice.names parts.0 in
    record {
      names = slots;
      files = rows;
      leaves = record {
        names = chosen_slot v choice.names;
        files = chosen_row v choice.files;
        may_be = may;
        rows = may_fill v choice.files parts.1;
        seen = λ p. (λ i. spot_of (λ id. rows id i) (at (λ q. slots q i) p));
      };
      good = record {
        known = λ p id is none. with_some (v.files id) (bytes_for choice.files id) (tree.known p id (subst (MayBe v p) (sym (slots p) ∙ is) (may p))) (sym (rows id) ∙ none);
        linked = λ p text is. tree.linked p text (subst (MayBe v p) (sym (slots p) ∙ is) (may p));
        bits = λ id f is.
            let w = with_mode (v.files id) (bytes_for choice.files id) f (sym (rows id) ∙ is) in
            let low = tree.bits id w.0 w.1 in
            omega (arith, w.2);
      };
    }
