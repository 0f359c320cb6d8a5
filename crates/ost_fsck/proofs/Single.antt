-- A store has one report at most.
use Rattle.std.proofs.Common.{◌≡◌, inl, inr, ℕ, List, [], ◌∷◌, map, length, true, refl, sym, ◌∙◌, ap, subst, Contains}
use Rattle.std.specs.Prelude.{◌↔◌}
use Rattle.std.proofs.lemmas.Bool.{and_parts, both_ways}
use Rattle.fp_base.proofs.Lists.{in_none, in_first, in_rest, in_cases}
use Rattle.fp_host.specs.Reads.{comes_first, is_ascending}
use Rattle.fp_small.specs.Order.{comes_before}
use Rattle.fp_small.proofs.Ordered.{before_on, not_before_itself}
use Rattle.ost_fsck.specs.declared.report.Finding.{Finding}
use Rattle.ost_fsck.specs.declared.report.Report.{Report}
use Rattle.ost_fsck.specs.Report.{text_in}
use Rattle.ost_store.specs.Names.{name_text}
use Rattle.ost_fsck.specs.Laws.{OneReport}

-- ---- lists that ascend and have the same in them are the same

module _ {A : Type 0} (text : A → List ℕ) where
  abbrev Ascends : List A → Type 0
  Ascends xs = is_ascending (map text xs) ≡ true

  later : (x : List ℕ) (ys : List A) (a : A) → comes_first x (map text ys) ≡ true → Ascends ys → Contains ys a → comes_before x (text a) ≡ true
  later x [] a first up has = absurd (in_none a has)
  later x (y ∷ ys) a first up has =
      let u = and_parts (comes_first (text y) (map text ys)) (is_ascending (map text ys)) up in
      elim (in_cases y ys a has) [
        | inl same ↦ subst (λ (z : A). comes_before x (text z) ≡ true) (sym same) first
        | inr rest ↦ before_on x (text y) (text a) first (later (text y) ys a u.0 u.1 rest)
      ]

  -- nothing comes twice
  not_again : (x : A) (xs : List A) → Ascends (x ∷ xs) → Contains xs x → ⊥
  not_again x xs up has =
      let u = and_parts (comes_first (text x) (map text xs)) (is_ascending (map text xs)) up in
      both_ways (comes_before (text x) (text x)) (not_before_itself (text x)) (later (text x) xs x u.0 u.1 has)

  same_head : (x y : A) (xs ys : List A) → Ascends (x ∷ xs) → Ascends (y ∷ ys) → Contains (y ∷ ys) x → Contains (x ∷ xs) y → x ≡ y
  same_head x y xs ys upx upy hx hy =
      let ux = and_parts (comes_first (text x) (map text xs)) (is_ascending (map text xs)) upx in
      let uy = and_parts (comes_first (text y) (map text ys)) (is_ascending (map text ys)) upy in
      elim (in_cases y ys x hx) [
        | inl same ↦ same
        | inr x_later ↦ elim (in_cases x xs y hy) [
          | inl same ↦ sym same
          | inr y_later ↦ absurd (both_ways (comes_before (text x) (text x)) (not_before_itself (text x))
              (before_on (text x) (text y) (text x) (later (text x) xs y ux.0 ux.1 y_later) (later (text y) ys x uy.0 uy.1 x_later)))
        ]
      ]

  tail_has : (x : A) (xs ys : List A) (a : A) → Ascends (x ∷ xs) → Contains xs a → Contains (x ∷ ys) a → Contains ys a
  tail_has x xs ys a up has all = elim (in_cases x ys a all) [
    | inl same ↦ absurd (not_again x xs up (subst (Contains xs) same has))
    | inr rest ↦ rest
  ]

  pub one_list : (xs ys : List A) → Ascends xs → Ascends ys → ((a : A) → Contains xs a ↔ Contains ys a) → xs ≡ ys
  one_list [] [] upx upy h = refl
  one_list [] (y ∷ ys) upx upy h = absurd (in_none y ((h y).1 (in_first y ys)))
  one_list (x ∷ xs) [] upx upy h = absurd (in_none x ((h x).0 (in_first x xs)))
  one_list (x ∷ xs) (y ∷ ys) upx upy h =
      let head : x ≡ y = same_head x y xs ys upx upy ((h x).0 (in_first x xs)) ((h y).1 (in_first y ys)) in
      let upx' : Ascends (y ∷ xs) = subst (λ (z : A). Ascends (z ∷ xs)) head upx in
      let tail : xs ≡ ys = one_list xs ys
      (and_parts (comes_first (text x) (map text xs)) (is_ascending (map text xs)) upx).1
      (and_parts (comes_first (text y) (map text ys)) (is_ascending (map text ys)) upy).1
      (λ a. (
        λ has. tail_has y xs ys a upx' has ((h a).0 (in_rest x xs a has)),
        λ has. tail_has y ys xs a upy has (subst (λ (z : A). Contains (z ∷ xs) a) head ((h a).1 (in_rest y ys a has))),
      )) in
      ap (λ (z : A). z ∷ xs) head ∙ ap (λ (l : List A). y ∷ l) tail

-- ---- reports

reports_same : (one two : Report) → one.findings ≡ two.findings → one.objects ≡ two.objects → one ≡ two
reports_same one two found counted = ap (λ (l : List Finding). record { findings = l; objects = one.objects }) found ∙ ap (λ (n : ℕ). record { findings = two.findings; objects = n }) counted

pub one_report : OneReport
one_report root disk one two first second =
    let found : one.findings ≡ two.findings = one_list (text_in root) one.findings two.findings first.ascending second.ascending
    (λ f. (λ has. (second.each f).1 ((first.each f).0 has), λ has. (first.each f).1 ((second.each f).0 has))) in
    let named : first.objects ≡ second.objects = one_list (name_text root) first.objects second.objects first.once second.once
    (λ o. (λ has. (second.entries o).1 ((first.entries o).0 has), λ has. (first.entries o).1 ((second.entries o).0 has))) in
    reports_same one two found (first.count ∙ ap length named ∙ sym second.count)
