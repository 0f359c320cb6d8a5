-- The first name that is free.
use Rattle.std.proofs.Common.{◌≡◌, ⊎_elim, ℕ, zero, suc, ◌+◌, ◌<◌, ◌≤◌, ◌^◌, List, [], ◌∷◌, ◌++◌, length, take, get_or, true, false, refl, sym, ◌∙◌, subst, Contains, arith, nat_eq, length-append}
use Rattle.std.specs.Cmp.Lexicographic.{pointwise}
use Rattle.std.specs.List.{IsDistinct}
use Rattle.std.specs.Set.{is_member}
use Rattle.std.specs.Fmt.{decimal}
use Rattle.std.proofs.lemmas.Bool.{both_ways, false_from_ne_true}
use Rattle.std.proofs.Common.{below_more, codes}
use Rattle.std.proofs.lemmas.Cmp.{nat_list_eq_equiv}
use Rattle.std.proofs.lemmas.Fmt.{decimal_injective}
use Rattle.std.proofs.lemmas.List.{take_more, append_cancel_left}
use Rattle.std.proofs.lemmas.List.Elements.{Contains-push_cases}
use Rattle.std.proofs.lemmas.Map.Keys.{IsDistinct-push}
use Rattle.std.proofs.lemmas.Map.Made.{length-le_from_is_member, is_member-Decides}
use Rattle.std.proofs.lemmas.Slice.Eq.{bytes_eq-Decides}
use Rattle.fp_small.specs.Places.{new_name}

pub not_further : (names : List (List ℕ)) (name text : List ℕ) (i : ℕ) → i < length names → (Contains (take i names) name → ⊥) → text ≡ get_or names i text → false ≡ pointwise nat_eq text name → Contains (take (i + 1) names) name → ⊥
not_further names name text i low before here other has =
    ⊎_elim before (λ is. both_ways (pointwise nat_eq text name) (sym other) ((bytes_eq-Decides text name).1 (here ∙ is)))
    (Contains-push_cases (take i names) (get_or names i text) name (subst (λ (l : List (List ℕ)). Contains l name) (take_more names i text low) has))

-- the names new0 to the n-th
names_up : ℕ → List (List ℕ)
names_up zero = []
names_up (suc n) = names_up n ++ new_name n ∷ []

length-names_up : (n : ℕ) → length (names_up n) ≡ n
unfolding names_up
length-names_up zero = refl
length-names_up (suc n) = omega (arith, length-append (names_up n) (new_name n ∷ []), length-names_up n)

among : (n : ℕ) (name : List ℕ) → Contains (names_up n) name → (j : ℕ) × (j < n) × (name ≡ new_name j)
unfolding names_up
among zero name has = absurd (omega (arith, has.1))
among (suc n) name has = ⊎_elim (λ before. let k = among n name before in (k.0, omega (arith, k.1), k.2)) (λ is. (n, omega arith, sym is)) (Contains-push_cases (names_up n) (new_name n) name has)

new_name_injective : (j k : ℕ) → j < 2 ^ 64 → k < 2 ^ 64 → new_name j ≡ new_name k → j ≡ k
new_name_injective j k small_j small_k same = decimal_injective j k small_j small_k (append_cancel_left (codes "new") (decimal j) (decimal k) same)

distinct : (n : ℕ) → n ≤ 2 ^ 64 → IsDistinct (pointwise nat_eq) (names_up n)
unfolding names_up IsDistinct
distinct zero small = tt
distinct (suc n) small = IsDistinct-push nat_list_eq_equiv (names_up n) (new_name n) (distinct n (omega arith)) (false_from_ne_true _ (λ t. apart ((is_member-Decides bytes_eq-Decides (names_up n) (new_name n)).0 t)))
  where
    apart : Contains (names_up n) (new_name n) → ⊥
    apart has = let k = among n (new_name n) has in let same = new_name_injective n k.0 (omega arith) (omega (arith, k.1)) k.2 in omega (arith, same, k.1)

-- as many of the names as the list has elements are not all in it with one more
pub enough : (xs : List (List ℕ)) (n : ℕ) → n ≤ 2 ^ 64 → ((j : ℕ) → j < n → Contains xs (new_name j)) → n ≤ length xs
enough xs n small all = omega (arith, length-names_up n, length-le_from_is_member nat_list_eq_equiv (names_up n) xs (distinct n small) each)
  where
    each : (q : List ℕ) → is_member (pointwise nat_eq) (names_up n) q ≡ true → is_member (pointwise nat_eq) xs q ≡ true
    each q in_names =
        let k = among n q ((is_member-Decides bytes_eq-Decides (names_up n) q).0 in_names) in
        (is_member-Decides bytes_eq-Decides xs q).1 (subst (Contains xs) (sym k.2) (all k.0 k.1))

pub one_more : (xs : List (List ℕ)) (k : ℕ) (text : List ℕ) → ((j : ℕ) → j < k → Contains xs (new_name j)) → Contains xs text → text ≡ new_name k → (j : ℕ) → j < k + 1 → Contains xs (new_name j)
one_more xs k text below here is = below_more (λ j. Contains xs (new_name j)) k below (subst (Contains xs) is here)
