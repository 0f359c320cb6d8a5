-- Names that are compared byte by byte, and lists of names without doubles.
use Rattle.std.proofs.Common.{◌≡◌, ℕ, Bool, true, false, not, ◌||◌, List, [], ◌∷◌, refl, sym, subst, ◌∙◌, inl, inr}
use Rattle.std.specs.List.{list_any}
use Rattle.std.specs.Str.{bytes_eq}
use mathlib.Core.Bool.{or-false}
use Rattle.std.proofs.lemmas.Bool.{cases_Bool, and_parts, and_from, not-true, false_from_ne_true}
use Rattle.std.proofs.lemmas.Slice.Eq.{bytes_eq-Decides}
use Rattle.fp_base.proofs.Texts.{bytes_eq-true}
use Rattle.fp_keyfile.specs.KeyFile.{with_name, are_distinct}

pub bytes_eq-sym : (xs ys : List ℕ) → bytes_eq xs ys ≡ bytes_eq ys xs
bytes_eq-sym xs ys =
    elim (cases_Bool (bytes_eq ys xs)) [
      | inl e ↦ (bytes_eq-Decides xs ys).1 (sym (bytes_eq-true ys xs e)) ∙ sym e
      | inr e ↦ false_from_ne_true (bytes_eq xs ys) (λ t. absurd (not_both ys xs e (sym (bytes_eq-true xs ys t)))) ∙ sym e
    ]
  where
    not_both : (a b : List ℕ) → bytes_eq a b ≡ false → a ≡ b → ⊥
    not_both a b f same = let t : bytes_eq a b ≡ true = (bytes_eq-Decides a b).1 same in cc

or_again : (b a : Bool) → (b || a) ≡ ((b || a) || b)
or_again true a = refl
or_again false true = refl
or_again false false = refl

or_assoc : (a b c : Bool) → (a || (b || c)) ≡ ((a || b) || c)
or_assoc true b c = refl
or_assoc false b c = refl

-- what is among the names, once one more is
pub any-with_name : (names : List (List ℕ)) (name x : List ℕ) → list_any (bytes_eq x) (with_name names name) ≡ (list_any (bytes_eq x) names || bytes_eq x name)
any-with_name [] name x = or-false (bytes_eq x name)
any-with_name (n ∷ names) name x =
    elim (cases_Bool (bytes_eq n name)) [
      | inl e ↦ let same : n ≡ name = bytes_eq-true n name e in rw e (subst (λ (m : List ℕ). (bytes_eq x n || list_any (bytes_eq x) names) ≡ ((bytes_eq x n || list_any (bytes_eq x) names) || bytes_eq x m)) same (or_again (bytes_eq x n) (list_any (bytes_eq x) names)))
      | inr e ↦ rw (e, any-with_name names name x) (or_assoc (bytes_eq x n) (list_any (bytes_eq x) names) (bytes_eq x name))
    ]

pub are_distinct-with_name : (names : List (List ℕ)) (name : List ℕ) → are_distinct names ≡ true → are_distinct (with_name names name) ≡ true
are_distinct-with_name [] name h = refl
are_distinct-with_name (n ∷ names) name h =
    elim (cases_Bool (bytes_eq n name)) [
      | inl e ↦ rw e h
      | inr e ↦
          let p = and_parts (not (list_any (bytes_eq n) names)) (are_distinct names) h in
          rw e (and_from (not (list_any (bytes_eq n) (with_name names name))) (are_distinct (with_name names name)) (rw (any-with_name names name n, not-true _ p.0, e) refl) (are_distinct-with_name names name p.1))
    ]
