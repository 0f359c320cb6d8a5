-- Two lists of names that ascend, gone through together.
use Rattle.std.proofs.Common.{◌≡◌, ℕ, zero, suc, ◌+◌, ◌<◌, ◌≤◌, List, [], ◌∷◌, true, false, ◌||◌, refl, sym, ap, ◌∙◌, subst, length, get_or, drop, map, arith}
use Rattle.std.proofs.Math.Seq.{drop-cons}
use Rattle.std.proofs.lemmas.Bool.{and_parts}
use Rattle.std.proofs.lemmas.Cmp.{nat_list_cmp_total}
use Rattle.std.proofs.lemmas.Map.Text.{is_eq-slice_cmp}
use Rattle.std.specs.Ordering.{nat_cmp, is_lt, is_eq}
use Rattle.std.specs.declared.cmp.Ordering.{Ordering}
use Rattle.std.specs.declared.cmp.Ordering.TheVariants.{Less, Equal, Greater}
use Rattle.std.specs.Cmp.Lexicographic.{slice_cmp}
use Rattle.std.specs.List.{list_any}
use Rattle.std.specs.Str.{bytes_eq}
use Rattle.fp_base.proofs.Texts.{less_from, flip, flip_less}
use Rattle.fp_host.specs.Reads.{is_ascending}
use Rattle.ost_model.specs.Readers.{shares, file_name, dir_name}
use Rattle.ost_object.specs.declared.dirtree.FileEntry.{FileEntry}
use Rattle.ost_object.specs.declared.dirtree.DirEntry.{DirEntry}
use Rattle.ost_object.specs.Views.{file_row, dir_row, names_of_files, names_of_dirs}

abbrev compare : List ℕ → List ℕ → Ordering
compare = slice_cmp nat_cmp

same_as : (x y : List ℕ) (o : Ordering) → compare x y ≡ o → bytes_eq x y ≡ is_eq o
same_as x y o is = sym (is_eq-slice_cmp x y) ∙ ap is_eq is

-- a name below the first is none of them
none_below : (x y : List ℕ) (ys : List (List ℕ)) → compare x y ≡ Less → is_ascending (y ∷ ys) ≡ true → list_any (bytes_eq x) (y ∷ ys) ≡ false
none_below x y [] low asc = ap (λ b. b || false) (same_as x y Less low)
none_below x y (z ∷ zs) low asc =
    let parts = and_parts (is_lt (compare y z)) (is_ascending (z ∷ zs)) asc in
    ap (λ b. b || list_any (bytes_eq x) (z ∷ zs)) (same_as x y Less low)
    ∙ none_below x z zs (nat_list_cmp_total.trans x y z low (less_from (compare y z) parts.0)) parts.1

skip_less : (x : List ℕ) (xs : List (List ℕ)) (y : List ℕ) (ys : List (List ℕ)) → compare x y ≡ Less → is_ascending (y ∷ ys) ≡ true → shares xs (y ∷ ys) ≡ shares (x ∷ xs) (y ∷ ys)
skip_less x xs y ys low asc = sym (ap (λ b. b || shares xs (y ∷ ys)) (none_below x y ys low asc))

skip_greater : (x : List ℕ) (xs : List (List ℕ)) (y : List ℕ) (ys : List (List ℕ)) → compare y x ≡ Less → is_ascending (x ∷ xs) ≡ true → shares (x ∷ xs) ys ≡ shares (x ∷ xs) (y ∷ ys)
skip_greater x [] y ys low asc = sym (ap (λ b. (b || list_any (bytes_eq x) ys) || false) (same_as x y Greater (flip_less y x low)))
skip_greater x (z ∷ zs) y ys low asc =
    let parts = and_parts (is_lt (compare x z)) (is_ascending (z ∷ zs)) asc in
    ap (λ s. list_any (bytes_eq x) ys || s) (skip_greater z zs y ys (nat_list_cmp_total.trans y x z low (less_from (compare x z) parts.0)) parts.1)
    ∙ sym (ap (λ b. (b || list_any (bytes_eq x) ys) || shares (z ∷ zs) (y ∷ ys)) (same_as x y Greater (flip_less y x low)))

found : (x : List ℕ) (xs : List (List ℕ)) (y : List ℕ) (ys : List (List ℕ)) → compare x y ≡ Equal → true ≡ shares (x ∷ xs) (y ∷ ys)
found x xs y ys same = sym (ap (λ b. (b || list_any (bytes_eq x) ys) || shares xs (y ∷ ys)) (same_as x y Equal same))

pub none_shared : (xs : List (List ℕ)) → shares xs [] ≡ false
none_shared [] = refl
none_shared (x ∷ xs) = none_shared xs

module _ {A B : Type 0} (g : B → List ℕ) (f : A → B) where
  ascends_from : (xs : List A) (k : ℕ) → is_ascending (map g (map f xs)) ≡ true → is_ascending (map g (map f (drop k xs))) ≡ true
  ascends_from [] zero asc = refl
  ascends_from [] (suc k) asc = refl
  ascends_from (x ∷ xs) zero asc = asc
  ascends_from (x ∷ []) (suc k) asc = ascends_from [] k refl
  ascends_from (x ∷ y ∷ ys) (suc k) asc = ascends_from (y ∷ ys) k (and_parts (is_lt (compare (g (f x)) (g (f y)))) (is_ascending (map g (map f (y ∷ ys)))) asc).1

  names_from : (xs : List A) (k : ℕ) (x : A) → k < length xs → x ≡ get_or xs k x → map g (map f (drop k xs)) ≡ g (f x) ∷ map g (map f (drop (k + 1) xs))
  names_from xs k x low at =
      let next : suc k ≡ k + 1 = omega arith in
      ap (λ l. map g (map f l)) (drop-cons xs k x low ∙ ap (λ h. h ∷ drop (suc k) xs) (sym at) ∙ ap (λ n. x ∷ drop n xs) next)

module _ (fs : List FileEntry) (ds : List DirEntry) (i j : ℕ) (f : FileEntry) (d : DirEntry)
    (low_i : i < length fs) (low_j : j < length ds) (at_f : f ≡ get_or fs i f) (at_d : d ≡ get_or ds j d) where
  ahead : names_of_files (drop i fs) ≡ f.name ∷ names_of_files (drop (i + 1) fs)
  ahead = names_from file_name file_row fs i f low_i at_f

  beside : names_of_dirs (drop j ds) ≡ d.name ∷ names_of_dirs (drop (j + 1) ds)
  beside = names_from dir_name dir_row ds j d low_j at_d

  pub merge_less : is_ascending (names_of_dirs ds) ≡ true → compare f.name d.name ≡ Less
      → shares (names_of_files (drop (i + 1) fs)) (names_of_dirs (drop j ds)) ≡ shares (names_of_files (drop i fs)) (names_of_dirs (drop j ds))
  merge_less asc low =
      ap (shares (names_of_files (drop (i + 1) fs))) beside
      ∙ skip_less f.name (names_of_files (drop (i + 1) fs)) d.name (names_of_dirs (drop (j + 1) ds)) low (subst (λ l. is_ascending l ≡ true) beside (ascends_from dir_name dir_row ds j asc))
      ∙ sym (ap (λ l. shares l (d.name ∷ names_of_dirs (drop (j + 1) ds))) ahead) ∙ sym (ap (shares (names_of_files (drop i fs))) beside)

  pub merge_greater : is_ascending (names_of_files fs) ≡ true → compare f.name d.name ≡ Greater
      → shares (names_of_files (drop i fs)) (names_of_dirs (drop (j + 1) ds)) ≡ shares (names_of_files (drop i fs)) (names_of_dirs (drop j ds))
  merge_greater asc high =
      ap (λ l. shares l (names_of_dirs (drop (j + 1) ds))) ahead
      ∙ skip_greater f.name (names_of_files (drop (i + 1) fs)) d.name (names_of_dirs (drop (j + 1) ds)) (flip f.name d.name high) (subst (λ l. is_ascending l ≡ true) ahead (ascends_from file_name file_row fs i asc))
      ∙ sym (ap (λ l. shares l (d.name ∷ names_of_dirs (drop (j + 1) ds))) ahead) ∙ sym (ap (shares (names_of_files (drop i fs))) beside)

  pub merge_equal : compare f.name d.name ≡ Equal → true ≡ shares (names_of_files (drop i fs)) (names_of_dirs (drop j ds))
  merge_equal same =
      found f.name (names_of_files (drop (i + 1) fs)) d.name (names_of_dirs (drop (j + 1) ds)) same
      ∙ sym (ap (λ l. shares l (d.name ∷ names_of_dirs (drop (j + 1) ds))) ahead) ∙ sym (ap (shares (names_of_files (drop i fs))) beside)

pub past_end : {A : Type 0} (xs : List A) (k : ℕ) → length xs ≤ k → drop k xs ≡ []
past_end [] zero h = refl
past_end [] (suc k) h = refl
past_end (x ∷ xs) zero h = absurd (omega (arith, h))
past_end (x ∷ xs) (suc k) h = past_end xs k (omega (arith, h))
