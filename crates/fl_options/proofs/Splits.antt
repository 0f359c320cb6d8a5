-- Texts that are split at their first byte c, or at their last.
use Rattle.std.proofs.Common.{◌≡◌, ℕ, false, eqb, List, [], ◌∷◌, ◌++◌, Option, Some, None, refl, sym, ap, ◌∙◌, inl, inr, arith}
use Rattle.std.specs.List.{list_any}
use Rattle.std.proofs.lemmas.Bool.{ne_eqb, eq-eqb, eqb-true, cases_Bool}
use Rattle.std.proofs.lemmas.Option.{some_pair_parts}
use Rattle.fp_keyfile.specs.Lines.{with_first, split_at}
use Rattle.fp_keyfile.proofs.Texts.{split_at_found, split_at_none}
use Rattle.bus_rules.proofs.Splits.{Misses, Misses-rest}
use Rattle.fl_options.specs.Rules.{before_last, split_last}

-- ---- at the first

none_there : (c : ℕ) (bs : List ℕ) → Misses c bs → list_any (λ b. eqb b c) bs ≡ false
none_there c [] h = refl
none_there c (b ∷ bs) h = rw (ne_eqb b c (h 0 (omega arith))) (none_there c bs (Misses-rest c b bs h))

pub first_found : (c : ℕ) (xs ys : List ℕ) → Misses c xs → split_at c (xs ++ c ∷ ys) ≡ Some (xs, ys)
first_found c xs ys h = split_at_found c xs ys (none_there c xs h)

pub first_none : (c : ℕ) (xs : List ℕ) → Misses c xs → split_at c xs ≡ None
first_none c xs h = split_at_none c xs (none_there c xs h)

abbrev parted : List ℕ → List ℕ → Option (List ℕ × List ℕ)
parted a b = Some (a, b)

none_some : (a b : List ℕ) → None ≡ parted a b → ⊥
none_some a b e = cc

joined_at : (c : ℕ) (a b x y text : List ℕ) → text ≡ a ++ c ∷ b → parted a b ≡ parted x y → text ≡ x ++ c ∷ y
joined_at c a b x y text is e =
    let parts = some_pair_parts a x b y e in
    is ∙ ap (λ (l : List ℕ). a ++ c ∷ l) parts.1 ∙ ap (λ (l : List ℕ). l ++ c ∷ y) parts.0

pub first_is : (c : ℕ) (text a b : List ℕ) → split_at c text ≡ Some (a, b) → text ≡ a ++ c ∷ b
first_is c [] a b e = absurd cc
first_is c (x ∷ xs) a b e =
    elim (cases_Bool (eqb x c)) [
      | inl same ↦
          joined_at c [] xs a b (x ∷ xs) (ap (λ (n : ℕ). n ∷ xs) (eqb-true x c same)) (rw same at e)
      | inr other ↦ later (split_at c xs) refl (λ p. first_is c xs p.0 p.1) (rw other at e)
    ]
  where
    later : (o : Option (List ℕ × List ℕ)) → split_at c xs ≡ o → ((p : List ℕ × List ℕ) → split_at c xs ≡ Some p → xs ≡ p.0 ++ c ∷ p.1) → with_first x (split_at c xs) ≡ Some (a, b) → x ∷ xs ≡ a ++ c ∷ b
    later None is rest h = absurd (none_some a b (sym (ap (with_first x) is) ∙ h))
    later (Some p) is rest h =
        joined_at c (x ∷ p.0) p.1 a b (x ∷ xs) (ap (λ (l : List ℕ). x ∷ l) (rest p is)) (sym (ap (with_first x) is) ∙ h)

-- ---- at the last

pub last_none : (c : ℕ) (xs : List ℕ) → Misses c xs → split_last c xs ≡ None
last_none c [] h = refl
last_none c (x ∷ xs) h = rw (last_none c xs (Misses-rest c x xs h), ne_eqb x c (h 0 (omega arith))) refl

pub last_found : (c : ℕ) (xs ys : List ℕ) → Misses c ys → split_last c (xs ++ c ∷ ys) ≡ Some (xs, ys)
last_found c [] ys h = rw (last_none c ys h, eq-eqb c c refl) refl
last_found c (x ∷ xs) ys h = ap (before_last c x (xs ++ c ∷ ys)) (last_found c xs ys h)

pub last_is : (c : ℕ) (text a b : List ℕ) → split_last c text ≡ Some (a, b) → text ≡ a ++ c ∷ b
last_is c [] a b e = absurd cc
last_is c (x ∷ xs) a b e = by (split_last c xs) refl (λ p. last_is c xs p.0 p.1) e
  where
    by : (o : Option (List ℕ × List ℕ)) → split_last c xs ≡ o → ((p : List ℕ × List ℕ) → split_last c xs ≡ Some p → xs ≡ p.0 ++ c ∷ p.1) → before_last c x xs (split_last c xs) ≡ Some (a, b) → x ∷ xs ≡ a ++ c ∷ b
    by None is rest h =
        let here : before_last c x xs None ≡ Some (a, b) = sym (ap (before_last c x xs) is) ∙ h in
        elim (cases_Bool (eqb x c)) [
          | inl same ↦
              joined_at c [] xs a b (x ∷ xs) (ap (λ (n : ℕ). n ∷ xs) (eqb-true x c same)) (rw same at here)
          | inr other ↦ absurd (none_some a b (rw other at here))
        ]
    by (Some p) is rest h =
        joined_at c (x ∷ p.0) p.1 a b (x ∷ xs) (ap (λ (l : List ℕ). x ∷ l) (rest p is)) (sym (ap (before_last c x xs) is) ∙ h)
