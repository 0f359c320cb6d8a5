-- Reading takes bytes from the front: what was taken, and that it is taken again.
use Rattle.std.proofs.Common.{◌≡◌, ℕ, zero, suc, ◌+◌, ◌-◌, ◌<◌, ◌≤◌, Bool, true, false, cond, eqb, ltb, List, [], ◌∷◌, ◌++◌, length, get_or, take, drop, Option, Some, None, refl, sym, ap, subst, ◌∙◌, append_assoc, inl, inr, arith}
use Rattle.std.specs.Prelude.{option_and_then, replicate, ◌&&◌}
use Rattle.std.proofs.lemmas.Bool.{ltb-false, le-ltb, eqb-true, eq-eqb, and_parts, cases_lt}
use Rattle.std.proofs.lemmas.Option.{cond_some, some_pair_parts}
use Rattle.std.proofs.lemmas.List.{take_at, drop_at, take-append-drop, length-append, length-take-le, length-replicate}
use Rattle.std.specs.List.{list_all}
use Rattle.bus_frame.specs.Steps.{first_of}
use Rattle.fp_base.specs.Steps.{◌>>=◌}
use Rattle.bus_frame.specs.Numbers.{padding, are_zero}
use Rattle.bus_frame.specs.Places.{Place, bytes_at, byte_at, aligned_at}
use Rattle.bus_frame.specs.Writing.{zeros}

abbrev pub place : ℕ → List ℕ → Place
place at rest = record { at = at; rest = rest }

-- the bytes x lead from one place to the other
pub record Takes (p : Place) (x : List ℕ) (q : Place) : Type 0 where
  pub at : q.at ≡ p.at + length x
  pub parts : p.rest ≡ x ++ q.rest

pub Takes-then : (p q r : Place) (x y : List ℕ) → Takes p x q → Takes q y r → Takes p (x ++ y) r
Takes-then p q r x y a b = record {
  at = omega (arith, a.at, b.at, length-append x y);
  parts = a.parts ∙ ap (λ (t : List ℕ). x ++ t) b.parts ∙ sym (append_assoc x y r.rest);
}

-- the value of a step that did not fail
pub bind_some : {A B : Type 0} (o : Option A) (f : A → Option B) (y : B) → (o >>= f) ≡ Some y → (x : A) × (o ≡ Some x) × (f x ≡ Some y)
bind_some (Some x) f y e = (x, refl, e)
bind_some None f y e = absurd cc

pub bind_is : {A B : Type 0} (o : Option A) (f : A → Option B) (x : A) → o ≡ Some x → (o >>= f) ≡ f x
bind_is {A} o f x e = ap (λ (r : Option A). r >>= f) e

pub none_if : {A : Type 0} (b : Bool) (x y : A) → cond b None (Some x) ≡ Some y → (b ≡ false) × (x ≡ y)
none_if true x y e = absurd cc
none_if false x y e = (refl, cc)

pub same_place : (a b : ℕ) (x y : List ℕ) → a ≡ b → x ≡ y → place a x ≡ place b y
same_place a b x y e h = cc

pub bytes_takes : (n : ℕ) (p : Place) (x : List ℕ) (q : Place) → bytes_at n p ≡ Some (x, q) → Takes p x q × (length x ≡ n)
bytes_takes n p x q e =
    let t = none_if (ltb (length p.rest) n) (take n p.rest, place (p.at + n) (drop n p.rest)) (x, q) e in
    let room = ltb-false _ _ t.0 in
    let x_is : take n p.rest ≡ x = ap (λ (r : List ℕ × Place). r.0) t.1 in
    let q_is : place (p.at + n) (drop n p.rest) ≡ q = ap (λ (r : List ℕ × Place). r.1) t.1 in
    let len : length x ≡ n = sym (ap (λ (l : List ℕ). length l) x_is) ∙ length-take-le n p.rest room in
    let at_is = ap (λ (r : Place). r.at) q_is in
    let rest_is = ap (λ (r : Place). r.rest) q_is in (
      record {
        at = omega (arith, at_is, len);
        parts = sym (take-append-drop n p.rest) ∙ ap (λ (l : List ℕ). l ++ drop n p.rest) x_is ∙ ap (λ (l : List ℕ). x ++ l) rest_is;
      },
      len,
    )

pub bytes_again : (p : Place) (x rest : List ℕ) (n : ℕ) → p.rest ≡ x ++ rest → length x ≡ n → bytes_at n p ≡ Some (x, place (p.at + length x) rest)
bytes_again p x rest n parts len =
    let room : ltb (length p.rest) n ≡ false = le-ltb _ _ (omega (arith, ap (λ (l : List ℕ). length l) parts, length-append x rest)) in
    let front : take n p.rest ≡ x = ap (take n) parts ∙ take_at x rest n len in
    let back : drop n p.rest ≡ rest = ap (drop n) parts ∙ drop_at x rest n len in
    let there : place (p.at + n) (drop n p.rest) ≡ place (p.at + length x) rest = same_place _ _ _ _ (omega (arith, len)) back in
    rw room (ap (λ (l : List ℕ). Some (l, place (p.at + n) (drop n p.rest))) front ∙ ap (λ (q : Place). Some (x, q)) there)

first_takes : (bytes : List ℕ) (b : ℕ) (rest : List ℕ) → first_of bytes ≡ Some (b, rest) → bytes ≡ b ∷ rest
first_takes [] b rest e = absurd cc
first_takes (c ∷ bytes) b rest e =
    let both = some_pair_parts c b bytes rest e in
    ap (λ (x : ℕ). x ∷ bytes) both.0 ∙ ap (λ (xs : List ℕ). b ∷ xs) both.1

pub byte_takes : (p : Place) (b : ℕ) (q : Place) → byte_at p ≡ Some (b, q) → Takes p (b ∷ []) q
byte_takes p b q e =
    let t = bind_some (first_of p.rest) (λ byte. Some (byte.0, place (p.at + 1) byte.1)) (b, q) e in
    let parts = first_takes p.rest t.0.0 t.0.1 t.1 in
    let both = some_pair_parts t.0.0 b (place (p.at + 1) t.0.1) q t.2 in
    let at_is = ap (λ (r : Place). r.at) both.1 in
    let rest_is = ap (λ (r : Place). r.rest) both.1 in
    record {
      at = sym at_is;
      parts = parts ∙ ap (λ (c : ℕ). c ∷ t.0.1) both.0 ∙ ap (λ (r : List ℕ). b ∷ r) rest_is;
    }

pub byte_again : (p : Place) (b : ℕ) (rest : List ℕ) → p.rest ≡ b ∷ rest → byte_at p ≡ Some (b, place (p.at + 1) rest)
byte_again p b rest parts = ap (λ (bytes : List ℕ). first_of bytes >>= λ byte. Some (byte.0, place (p.at + 1) byte.1)) parts

-- zero bytes are zeros
pub zeros-is : (n : ℕ) (xs : List ℕ) → length xs ≡ n → are_zero xs ≡ true → xs ≡ replicate n 0
zeros-is zero [] len e = refl
zeros-is zero (x ∷ xs) len e = absurd (omega (arith, len))
zeros-is (suc n) [] len e = absurd (omega (arith, len))
zeros-is (suc n) (x ∷ xs) len e =
    let both = and_parts (eqb x 0) (are_zero xs) e in
    ap (λ (c : ℕ). c ∷ xs) (eqb-true x 0 both.0) ∙ ap (λ (l : List ℕ). 0 ∷ l) (zeros-is n xs (omega (arith, len)) both.1)

pub are_zero-zeros : (n : ℕ) → are_zero (replicate n 0) ≡ true
are_zero-zeros zero = refl
are_zero-zeros (suc n) = are_zero-zeros n

pub length-zeros : (n at : ℕ) → length (zeros n at) ≡ padding n at
length-zeros n at = length-replicate (padding n at) 0

pub aligned_takes : (n : ℕ) (p q : Place) → aligned_at n p ≡ Some q → Takes p (zeros n p.at) q
unfolding aligned_at
aligned_takes n p q e =
    let t = bind_some (bytes_at (padding n p.at) p) (λ z. cond (are_zero z.0) (Some z.1) None) q e in
    let taken = bytes_takes (padding n p.at) p t.0.0 t.0.1 t.1 in
    let end = cond_some (are_zero t.0.0) t.0.1 q t.2 in
    let all = zeros-is (padding n p.at) t.0.0 taken.1 end.0 in
    subst (λ (r : Place). Takes p (zeros n p.at) r) end.1 (subst (λ (x : List ℕ). Takes p x t.0.1) all taken.0)

pub aligned_again : (n : ℕ) (p : Place) (rest : List ℕ) → p.rest ≡ zeros n p.at ++ rest → aligned_at n p ≡ Some (place (p.at + length (zeros n p.at)) rest)
unfolding aligned_at
aligned_again n p rest parts =
    let read = bytes_again p (zeros n p.at) rest (padding n p.at) parts (length-zeros n p.at) in
    bind_is (bytes_at (padding n p.at) p) (λ z. cond (are_zero z.0) (Some z.1) None) (zeros n p.at, place (p.at + length (zeros n p.at)) rest) read
    ∙ ap (λ (b : Bool). cond b (Some (place (p.at + length (zeros n p.at)) rest)) None) (are_zero-zeros (padding n p.at))
