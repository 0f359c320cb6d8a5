-- What a test of two tests tells.
use Rattle.std.specs.Prelude.{◌||◌, if◌then◌else◌}
use Rattle.std.proofs.Common.{refl, false, Bool, true, ◌≡◌, ◌&&◌, not}
use Rattle.std.proofs.lemmas.Bool.{false≢true}

pub and_first : (a b : Bool) → (a && b) ≡ true → a ≡ true
and_first true b t = refl
and_first false b t = absurd (false≢true t)

pub and_second : (a b : Bool) → (a && b) ≡ true → b ≡ true
and_second true b t = t
and_second false b t = absurd (false≢true t)

pub neither : (p q : Bool) → (p || q) ≡ false → p ≡ false
neither true q h = h
neither false q h = refl

pub or-swap : (a b c : Bool) → (b || (a || c)) ≡ (a || (b || c))
or-swap true true c = refl
or-swap true false c = refl
or-swap false true c = refl
or-swap false false c = refl

pub or-same : (a c : Bool) → (a || c) ≡ (a || (a || c))
or-same true c = refl
or-same false c = refl

pub true_false : {X : Type 0} {b : Bool} → b ≡ true → not b ≡ true → X
true_false {b = true} t n = absurd cc
true_false {b = false} t n = absurd cc

pub if_true : {A : Type 0} (b : Bool) (x y : A) → b ≡ true → if b then x else y ≡ x
if_true true x y e = refl
if_true false x y e = absurd cc
