-- Rows that are added one by one.
use Rattle.std.proofs.Common.{◌≡◌, inl, inr, ◌<◌, ◌+◌, ℕ, suc, Bool, true, List, [], ◌∷◌, ◌++◌, map, take, get_or, length, sym, ◌∙◌, ap, subst, Contains, arith, append_assoc}
use Rattle.std.specs.List.{list_all}
use Rattle.std.proofs.Math.Seq.{take-suc, take-length}
use Rattle.std.proofs.lemmas.Bool.{and_parts}
use Rattle.std.proofs.lemmas.List.{map-append}
use Rattle.std.proofs.lemmas.List.Elements.{Contains-get_or}
use Rattle.fp_base.proofs.Lists.{in_none, in_cases, in_map}
use Rattle.fp_host.specs.Paths.{is_element}
use Rattle.ost_model.specs.Readers.{file_name, dir_name}
use Rattle.ost_object.specs.declared.dirtree.FileEntry.{FileEntry}
use Rattle.ost_object.specs.declared.dirtree.DirEntry.{DirEntry}
use Rattle.ost_object.specs.Views.{file_row, dir_row, names_of_files, names_of_dirs}
use Rattle.ost_checkout.specs.declared.rows.Row.{Row}

all_in : {A : Type 0} (p : A → Bool) (xs : List A) (x : A) → list_all p xs ≡ true → Contains xs x → p x ≡ true
all_in p [] x all has = absurd (in_none x has)
all_in p (y ∷ ys) x all has =
    let a = and_parts (p y) (list_all p ys) all in
    elim (in_cases y ys x has) [ inl same ↦ ap p same ∙ a.0 | inr later ↦ all_in p ys x a.1 later ]

pub file_good : (files : List FileEntry) (i : ℕ) (f : FileEntry) → i < length files → f ≡ get_or files i f → list_all is_element (names_of_files files) ≡ true → is_element f.name ≡ true
file_good files i f low is all = all_in is_element (names_of_files files) f.name all
    (in_map file_name (map file_row files) (file_row f) (in_map file_row files f (subst (Contains files) (sym is) (Contains-get_or files i f low))))

pub dir_good : (dirs : List DirEntry) (i : ℕ) (d : DirEntry) → i < length dirs → d ≡ get_or dirs i d → list_all is_element (names_of_dirs dirs) ≡ true → is_element d.name ≡ true
dir_good dirs i d low is all = all_in is_element (names_of_dirs dirs) d.name all
    (in_map dir_name (map dir_row dirs) (dir_row d) (in_map dir_row dirs d (subst (Contains dirs) (sym is) (Contains-get_or dirs i d low))))

-- one more
pub next_added : {A B : Type 0} (g : A → B) (f : B → Row) (xs : List A) (i : ℕ) (x : A) (base : List Row) {before after : List Row} {row : Row} → i < length xs → x ≡ get_or xs i x → before ≡ base ++ map f (map g (take i xs)) → row ≡ f (g x)
    → after ≡ before ++ row ∷ [] → after ≡ base ++ map f (map g (take (i + 1) xs))
next_added {A = A} g f xs i x base {before = before} {after = after} {row = row} low is so_far made pushed =
    let more : i + 1 ≡ suc i = omega arith in
    let cut : take (i + 1) xs ≡ take i xs ++ x ∷ [] = ap (λ (k : ℕ). take k xs) more ∙ take-suc xs i x low ∙ ap (λ (y : A). take i xs ++ y ∷ []) (sym is) in
    pushed ∙ ap (λ (l : List Row). l ++ row ∷ []) so_far ∙ ap (λ (r : Row). (base ++ map f (map g (take i xs))) ++ r ∷ []) made
    ∙ append_assoc base (map f (map g (take i xs))) (f (g x) ∷ []) ∙ ap (λ (l : List Row). base ++ l) (sym (map-append f (map g (take i xs)) (g x ∷ [])))
    ∙ ap (λ l. base ++ map f l) (sym (map-append g (take i xs) (x ∷ [])))
    ∙ ap (λ (l : List A). base ++ map f (map g l)) (sym cut)

pub all_added : {A B : Type 0} (g : A → B) (f : B → Row) (xs : List A) (i : ℕ) (base : List Row) {after : List Row} → length xs ≡ i → after ≡ base ++ map f (map g (take i xs)) → after ≡ base ++ map f (map g xs)
all_added {A = A} g f xs i base is so_far = so_far ∙ ap (λ (l : List A). base ++ map f (map g l)) (ap (λ (k : ℕ). take k xs) (sym is) ∙ take-length xs)
