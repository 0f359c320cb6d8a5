-- Names in order.
use Rattle.std.specs.Ordering.{is_lt, nat_cmp}
use Rattle.std.specs.Cmp.Lexicographic.{slice_cmp}
use Rattle.std.proofs.Common.{sym, ap, drop, List, get_or, length, suc, arith, ℕ, ◌≡◌, ◌-◌, ◌<◌, ◌≤◌, ◌&&◌, ◌∷◌, ◌∙◌, length-drop, refl, true, ◌+◌, []}
use Rattle.std.proofs.Math.Seq.{drop-cons}
use Rattle.fp_host.specs.Reads.{is_ascending}

-- of two neighbours the first comes before, and the rest ascends
pub is_ascending-drop : (xs : List (List ℕ)) (i : ℕ) (x y : List ℕ) → 1 ≤ i → i < length xs → x ≡ get_or xs (i - 1) x → y ≡ get_or xs i y
    → is_ascending (drop (i - 1) xs) ≡ is_lt (slice_cmp nat_cmp x y) && is_ascending (drop i xs)
is_ascending-drop xs i x y low high at_x at_y =
    let before : i - 1 < length xs = omega arith in
    let next : suc (i - 1) ≡ i = omega arith in
    let from_x : drop (i - 1) xs ≡ x ∷ drop i xs = drop-cons xs (i - 1) x before ∙ ap (λ h. h ∷ drop (suc (i - 1)) xs) (sym at_x) ∙ ap (λ k. x ∷ drop k xs) next in
    let from_y : drop i xs ≡ y ∷ drop (suc i) xs = drop-cons xs i y high ∙ ap (λ h. h ∷ drop (suc i) xs) (sym at_y) in
    ap is_ascending from_x ∙ ap (λ r. is_ascending (x ∷ r)) from_y ∙ ap (λ r. is_lt (slice_cmp nat_cmp x y) && is_ascending r) (sym from_y)

-- one pattern or none ascends
pub is_ascending-last : (xs : List (List ℕ)) (i : ℕ) → length xs ≤ i + 1 → is_ascending (drop i xs) ≡ true
is_ascending-last xs i h = short (drop i xs) (omega (arith, length-drop i xs))
  where
    short : (ys : List (List ℕ)) → length ys ≤ 1 → is_ascending ys ≡ true
    short [] h = refl
    short (y ∷ []) h = refl
    short (y ∷ z ∷ ys) h = absurd (omega arith)
