-- Things written one after another.
use Rattle.std.proofs.Common.{◌≡◌, ℕ, zero, suc, ◌+◌, ◌<◌, ◌≤◌, Bool, true, false, List, [], ◌∷◌, ◌++◌, length, take, get_or, refl, ap, sym, ◌∙◌, add_assoc, append_assoc, arith}
use Rattle.std.proofs.lemmas.List.{append-nil, length-append, take_more}
use Rattle.bus_frame.proofs.Taking.{length-zeros}
use Rattle.bus_frame.specs.Writing.{in_row, number_bytes, zeros, text_bytes, element_bytes, elements_bytes, names_bytes}

module _ {A : Type 0} (one : ℕ → A → List ℕ) where
  pub in_row-push : (at : ℕ) (xs : List A) (x : A) → in_row one at (xs ++ x ∷ []) ≡ in_row one at xs ++ one (at + length (in_row one at xs)) x
  in_row-push at [] x =
      let here : at ≡ at + 0 = omega arith in
      append-nil (one at x) ∙ ap (λ (n : ℕ). one n x) here
  in_row-push at (y ∷ ys) x =
      let first = one at y in
      let next = at + length first in
      let after : next + length (in_row one next ys) ≡ at + length (first ++ in_row one next ys) = omega (arith, length-append first (in_row one next ys)) in
      ap (λ (bytes : List ℕ). first ++ bytes) (in_row-push next ys x) ∙ sym (append_assoc first (in_row one next ys) (one (next + length (in_row one next ys)) x)) ∙ ap (λ (n : ℕ). (first ++ in_row one next ys) ++ one n x) after

  -- what stands in the row takes part of its length
  pub in_row-le : (bound : A → ℕ) → ((at : ℕ) (x : A) → bound x ≤ length (one at x)) → (at : ℕ) (xs : List A) (i : ℕ) (d : A) → i < length xs → bound (get_or xs i d) ≤ length (in_row one at xs)
  in_row-le bound h at [] i d lt = absurd (omega arith)
  in_row-le bound h at (x ∷ xs) zero d lt = omega (arith, h at x, length-append (one at x) (in_row one (at + length (one at x)) xs))
  in_row-le bound h at (x ∷ xs) (suc i) d lt =
      omega (arith, in_row-le bound h (at + length (one at x)) xs i d (omega arith), length-append (one at x) (in_row one (at + length (one at x)) xs))

pub text-le : (little : Bool) (at : ℕ) (text : List ℕ) → length text ≤ length (element_bytes little at text)
text-le little at text =
    omega (arith, length-append (zeros 4 at) (text_bytes little text), length-append (number_bytes little (length text)) text, length-append (number_bytes little (length text) ++ text) (0 ∷ []))

-- padding and a text after what was written are one element more
pub element_written : (little : Bool) (at len : ℕ) (out padded new so_far s text : List ℕ) → new ≡ padded ++ text_bytes little s → padded ≡ out ++ zeros 4 (at + len) → s ≡ text → out ≡ so_far → len ≡ length so_far → new ≡ so_far ++ element_bytes little (at + length so_far) text
element_written little at len out padded new so_far s text new_is padded_is s_is out_is len_is =
    new_is
    ∙ ap (λ (b : List ℕ). b ++ text_bytes little s) padded_is
    ∙ append_assoc out (zeros 4 (at + len)) (text_bytes little s)
    ∙ ap (λ (b : List ℕ). b ++ (zeros 4 (at + len) ++ text_bytes little s)) out_is
    ∙ ap (λ (n : ℕ). so_far ++ (zeros 4 (at + n) ++ text_bytes little s)) len_is
    ∙ ap (λ (t : List ℕ). so_far ++ (zeros 4 (at + length so_far) ++ text_bytes little t)) s_is

pub length-number_bytes : (little : Bool) (n : ℕ) → length (number_bytes little n) ≡ 4
length-number_bytes true n = refl
length-number_bytes false n = refl

pub length-names_bytes : (little : Bool) (at : ℕ) (names : List (List ℕ)) → length (names_bytes little at names) ≡ length (elements_bytes little (at + 4) names) + 4
unfolding names_bytes
length-names_bytes little at names =
    let elements = elements_bytes little (at + 4) names in
    omega (arith, length-append (number_bytes little (length elements)) elements, length-number_bytes little (length elements))

-- no names, and one
pub length-no_name : (little : Bool) (at : ℕ) → length (names_bytes little at []) ≡ 4
length-no_name little at = length-names_bytes little at []

pub length-one_name : (little : Bool) (at : ℕ) (name : List ℕ) → length (names_bytes little at (name ∷ [])) ≤ 12 + length name
length-one_name little at name =
    let place = at + 4 in
    let text = text_bytes little name in
    omega (
      arith,
      length-names_bytes little at (name ∷ []),
      length-append (element_bytes little place name) [],
      length-append (zeros 4 place) text,
      length-zeros 4 place,
      length-append (number_bytes little (length name) ++ name) (0 ∷ []),
      length-append (number_bytes little (length name)) name,
      length-number_bytes little (length name),
    )
