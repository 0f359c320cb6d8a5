-- Lists that are gathered item by item.
use Rattle.std.proofs.Common.{◌≡◌, ◌<◌, ◌+◌, ℕ, List, [], ◌∷◌, ◌++◌, length, get_or, take, map, Result, Ok, Err, OnOk, refl, sym, ◌∙◌, ap, append-nil, append_assoc}
use Rattle.std.specs.List.{flat_map}
use Rattle.std.proofs.lemmas.Grind.{flat_map-append}
use Rattle.fp_base.proofs.Lists.{take_read}

pub flat_next : {A B : Type 0} (f : A → List B) (xs : List A) (i : ℕ) (x : A) → i < length xs → x ≡ get_or xs i x → (out more : List B) → out ≡ flat_map f (take i xs) → more ≡ out ++ f x → more ≡ flat_map f (take (i + 1) xs)
flat_next f xs i x within is out more so_far grown =
    grown
    ∙ ap (λ l. l ++ f x) so_far
    ∙ ap (λ l. flat_map f (take i xs) ++ l) (sym (append-nil (f x)))
    ∙ sym (flat_map-append f (take i xs) (x ∷ []))
    ∙ ap (flat_map f) (sym (take_read xs i x within is))

-- the same after other items
pub flat_grows : {A B : Type 0} (f : A → List B) (xs : List A) (i : ℕ) (x : A) → i < length xs → x ≡ get_or xs i x → (start out more : List B) → out ≡ start ++ flat_map f (take i xs) → more ≡ out ++ f x → more ≡ start ++ flat_map f (take (i + 1) xs)
flat_grows f xs i x within is start out more so_far grown =
    grown
    ∙ ap (λ l. l ++ f x) so_far
    ∙ append_assoc start (flat_map f (take i xs)) (f x)
    ∙ ap (λ l. start ++ l) (flat_next f xs i x within is (flat_map f (take i xs)) (flat_map f (take i xs) ++ f x) refl refl)

-- and of each item something else
flat_mapped : {A B C : Type 0} (f : B → List C) (g : A → B) (xs : List A) → flat_map f (map g xs) ≡ flat_map (λ a. f (g a)) xs
flat_mapped f g [] = refl
flat_mapped f g (x ∷ xs) = ap (λ l. f (g x) ++ l) (flat_mapped f g xs)

pub flat_map_grows : {A B C : Type 0} (f : B → List C) (g : A → B) (xs : List A) (i : ℕ) (x : A) → i < length xs → x ≡ get_or xs i x → (start out more : List C) → out ≡ start ++ flat_map f (map g (take i xs)) → more ≡ out ++ f (g x)
    → more ≡ start ++ flat_map f (map g (take (i + 1) xs))
flat_map_grows f g xs i x within is start out more so_far grown =
    flat_grows (λ a. f (g a)) xs i x within is start out more (so_far ∙ ap (λ l. start ++ l) (flat_mapped f g (take i xs))) grown ∙ ap (λ l. start ++ l) (sym (flat_mapped f g (take (i + 1) xs)))

-- and then others, where that goes well
pub then_others : {A E B : Type 0} (r : Result A E) (start middle end first second : List B) → middle ≡ start ++ first → OnOk r (end ≡ middle ++ second) → OnOk r (end ≡ start ++ (first ++ second))
then_others (Ok a) start middle end first second so_far grown = grown ∙ ap (λ l. l ++ second) so_far ∙ append_assoc start first second
then_others (Err e) start middle end first second so_far grown = grown
