-- Reading texts one after another, as a loop does.
use Rattle.std.proofs.Common.{◌≡◌, ℕ, zero, suc, ◌+◌, ◌-◌, ◌<◌, ◌≤◌, Bool, true, false, cond, eqb, List, [], ◌∷◌, ◌++◌, length, Option, Some, None, refl, ap, sym, ◌∙◌, append_assoc, arith}
use Rattle.std.specs.Prelude.{option_map, is_some}
use Rattle.std.proofs.lemmas.List.{append-nil}
use Rattle.bus_frame.specs.Places.{Place, long_text_at}
use Rattle.bus_frame.specs.Bodies.{texts_at}

-- what was read before, and what is still read
abbrev pub with_front : List (List ℕ) → Option (List (List ℕ)) → Option (List (List ℕ))
with_front front read = option_map (λ more. front ++ more) read

regroup : (front : List (List ℕ)) (text : List ℕ) (read : Option (List (List ℕ))) → with_front front (option_map (λ more. text ∷ more) read) ≡ with_front (front ++ text ∷ []) read
regroup front text (Some more) = ap (λ (xs : List (List ℕ)). Some xs) (sym (append_assoc front (text ∷ []) more))
regroup front text None = refl

is_some_map : (text : List ℕ) (read : Option (List (List ℕ))) → is_some (option_map (λ more. text ∷ more) read) ≡ is_some read
is_some_map text (Some more) = refl
is_some_map text None = refl

is_some_cond : (b : Bool) (xs : List (List ℕ)) → b ≡ is_some (cond b (Some xs) None)
is_some_cond true xs = refl
is_some_cond false xs = refl

module _ (little : Bool) (p : Place) where
  texts_done : (n : ℕ) → eqb (length p.rest) 0 ≡ true → texts_at little n p ≡ Some []
  unfolding texts_at
  texts_done zero done = rw done refl
  texts_done (suc n) done = rw done refl

  texts_out : (i count : ℕ) → count ≤ i → texts_at little (count - i) p ≡ (cond (eqb (length p.rest) 0) (Some []) None)
  unfolding texts_at
  texts_out i count le = let none : count - i ≡ 0 = omega arith in rw none refl

  module _ (i count : ℕ) (lt : i < count) (some_left : eqb (length p.rest) 0 ≡ false) where
    next : count - i ≡ suc (count - (i + 1))
    next = omega arith

    texts_none : long_text_at little p ≡ None → texts_at little (count - i) p ≡ None
    unfolding texts_at
    texts_none read = rw (next, some_left, read) refl

    texts_more : (text : List ℕ) (q : Place) → long_text_at little p ≡ Some (text, q) → texts_at little (count - i) p ≡ option_map (λ more. text ∷ more) (texts_at little (count - (i + 1)) q)
    unfolding texts_at
    texts_more text q read = rw (next, some_left, read) refl

-- the loop that collects
module _ (little : Bool) (front : List (List ℕ)) (p : Place) (total : Option (List (List ℕ))) where
  pub collected : (n : ℕ) → eqb (length p.rest) 0 ≡ true → with_front front (texts_at little n p) ≡ total → total ≡ Some front
  collected n done so_far =
      let here : with_front front (texts_at little n p) ≡ Some (front ++ []) = ap (with_front front) (texts_done little p n done) in
      sym so_far ∙ here ∙ ap (λ (xs : List (List ℕ)). Some xs) (append-nil front)

  pub collects_none : (i count : ℕ) → i < count → eqb (length p.rest) 0 ≡ false → with_front front (texts_at little (count - i) p) ≡ total → long_text_at little p ≡ None → total ≡ None
  collects_none i count lt some_left so_far read = sym so_far ∙ ap (with_front front) (texts_none little p i count lt some_left read)

  pub collects_out : (i count : ℕ) → count ≤ i → eqb (length p.rest) 0 ≡ false → with_front front (texts_at little (count - i) p) ≡ total → total ≡ None
  collects_out i count le some_left so_far =
      let none : texts_at little (count - i) p ≡ None = texts_out little p i count le ∙ ap (λ (b : Bool). cond b (Some []) None) some_left in
      sym so_far ∙ ap (with_front front) none

  pub collects_more : (i count : ℕ) (text : List ℕ) (q : Place) → i < count → eqb (length p.rest) 0 ≡ false → with_front front (texts_at little (count - i) p) ≡ total → long_text_at little p ≡ Some (text, q) → with_front (front ++ text ∷ []) (texts_at little (count - (i + 1)) q) ≡ total
  collects_more i count text q lt some_left so_far read =
      sym (regroup front text (texts_at little (count - (i + 1)) q)) ∙ sym (ap (with_front front) (texts_more little p i count lt some_left text q read)) ∙ so_far

-- the loop that only looks
module _ (little : Bool) (p : Place) (total : Bool) where
  pub looked : (n : ℕ) → eqb (length p.rest) 0 ≡ true → is_some (texts_at little n p) ≡ total → true ≡ total
  looked n done so_far = sym (ap (λ (r : Option (List (List ℕ))). is_some r) (texts_done little p n done)) ∙ so_far

  pub looks_none : (i count : ℕ) → i < count → eqb (length p.rest) 0 ≡ false → is_some (texts_at little (count - i) p) ≡ total → long_text_at little p ≡ None → false ≡ total
  looks_none i count lt some_left so_far read = sym (ap (λ (r : Option (List (List ℕ))). is_some r) (texts_none little p i count lt some_left read)) ∙ so_far

  pub looks_out : (i count : ℕ) → count ≤ i → is_some (texts_at little (count - i) p) ≡ total → eqb (length p.rest) 0 ≡ total
  looks_out i count le so_far = is_some_cond (eqb (length p.rest) 0) [] ∙ sym (ap (λ (r : Option (List (List ℕ))). is_some r) (texts_out little p i count le)) ∙ so_far

  pub looks_more : (i count : ℕ) (text : List ℕ) (q : Place) → i < count → eqb (length p.rest) 0 ≡ false → is_some (texts_at little (count - i) p) ≡ total → long_text_at little p ≡ Some (text, q) → is_some (texts_at little (count - (i + 1)) q) ≡ total
  looks_more i count text q lt some_left so_far read =
      sym (is_some_map text (texts_at little (count - (i + 1)) q)) ∙ sym (ap (λ (r : Option (List (List ℕ))). is_some r) (texts_more little p i count lt some_left text q read)) ∙ so_far
