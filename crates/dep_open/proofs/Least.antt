-- The first of damaged paths by the bytes of their texts.
use Rattle.std.proofs.Common.{◌≡◌, ◌⊎◌, inl, inr, ℕ, List, true, false, ◌&&◌, Option, Some, None, refl, sym, ◌∙◌, ap, subst, codes}
use Rattle.std.specs.List.{list_all}
use Rattle.std.specs.Str.{bytes_eq}
use Rattle.std.proofs.lemmas.Bool.{cases_Bool, and_parts, and_from}
use Rattle.std.proofs.lemmas.Slice.Eq.{bytes_eq-Decides}
use Rattle.fp_host.specs.Paths.{Elements, is_element, path_text, elements_of}
use Rattle.fp_name.specs.Grammar.{is_id, is_arch, is_branch}
use Rattle.fp_name.specs.Refs.{Ref, is_ref}
use Rattle.fp_name.specs.Kinds.{kind_word}
use Rattle.fp_small.specs.Order.{comes_before}
use Rattle.fp_small.proofs.Ordered.{before_on, before_back}
use Rattle.fp_small.proofs.Elements.{element_id, element_arch, element_branch, element_kind, element_override}
use Rattle.dep_states.specs.Names.{override_path, active}
use Rattle.fp_name.specs.Grammar.{is_override}
use Rattle.dep_states.proofs.Texts.{text_back}
use Rattle.dep_open.specs.Parts.{lesser, IsLeast}

-- ---- paths by their texts

pub active_back : (name : Ref) → is_ref name ≡ true → elements_of (path_text (active name)) ≡ active name
active_back name good = text_back (active name) (active_elements name good)
  where
    active_elements : (n : Ref) → is_ref n ≡ true → list_all is_element (active n) ≡ true
    active_elements n h =
        let a = and_parts (is_id n.id) (is_arch n.arch && is_branch n.branch) h in
        let b = and_parts (is_arch n.arch) (is_branch n.branch) a.1 in
        and_from (is_element (codes "active")) _ refl (and_from (is_element n.branch) _ (element_branch n.branch b.1) (and_from (is_element n.arch) _ (element_arch n.arch b.0)
        (and_from (is_element n.id) _ (element_id n.id a.0) (and_from (is_element (kind_word n.kind)) true (element_kind n.kind) refl))))

pub override_back : (name : List ℕ) → is_override name ≡ true → elements_of (path_text (override_path name)) ≡ override_path name
override_back name good = text_back (override_path name) (and_from (is_element name) true (element_override name good) refl)

-- ---- the first of two

-- the texts of the paths of which D holds read back
abbrev pub ReadsBack : (Elements → Type 0) → Type 0
ReadsBack D = (q : Elements) → D q → elements_of (path_text q) ≡ q

module _ (D E : Elements → Type 0) (back_d : ReadsBack D) (back_e : ReadsBack E) where
  abbrev Both : Elements → Type 0
  Both q = D q ⊎ E q

  -- what comes after the second comes after the first, where that doesn't come after the second
  after_first : (p q r : Elements) → D p → E q → comes_before (path_text q) (path_text p) ≡ false → (r ≡ q) ⊎ (comes_before (path_text q) (path_text r) ≡ true) → E r
      → (r ≡ p) ⊎ (comes_before (path_text p) (path_text r) ≡ true)
  after_first p q r d e off order of_r = elim (cases_Bool (bytes_eq (path_text q) (path_text p))) [
    | inl same ↦
        let one : q ≡ p = sym (back_e q e) ∙ ap elements_of ((bytes_eq-Decides (path_text q) (path_text p)).0 same) ∙ back_d p d in
        elim order [ inl is ↦ inl (is ∙ one) | inr before ↦ inr (subst (λ x. comes_before (path_text x) (path_text r) ≡ true) one before) ]
    | inr differ ↦
        let first = before_back (path_text q) (path_text p) off differ in
        elim order [ inl is ↦ inr (subst (λ x. comes_before (path_text p) (path_text x) ≡ true) (sym is) first) | inr before ↦ inr (before_on (path_text p) (path_text q) (path_text r) first before) ]
  ]

  pub least_both : (a b : Option Elements) → IsLeast D a → IsLeast E b → IsLeast Both (lesser a b)
  least_both None None x y = λ q either. elim either [ inl d ↦ x q d | inr e ↦ y q e ]
  least_both None (Some q) x y = (inr y.0, λ r either. elim either [ inl d ↦ absurd (x r d) | inr e ↦ y.1 r e ])
  least_both (Some p) None x y = (inl x.0, λ r either. elim either [ inl d ↦ x.1 r d | inr e ↦ absurd (y r e) ])
  least_both (Some p) (Some q) x y = elim (cases_Bool (comes_before (path_text q) (path_text p))) [
    | inl first ↦ rw first (
      inr y.0,
      λ r either. elim either [
        | inr e ↦ y.1 r e
        | inl d ↦ elim (x.1 r d) [
          | inl is ↦ inr (subst (λ z. comes_before (path_text q) (path_text z) ≡ true) (sym is) first)
          | inr before ↦ inr (before_on (path_text q) (path_text p) (path_text r) first before)
        ]
      ],
    )
    | inr off ↦ rw off (inl x.0, λ r either. elim either [ inl d ↦ x.1 r d | inr e ↦ after_first p q r x.0 y.0 off (y.1 r e) e ])
  ]

-- of what is as much
pub least_to : (D E : Elements → Type 0) → ((q : Elements) → D q → E q) → ((q : Elements) → E q → D q) → (a : Option Elements) → IsLeast D a → IsLeast E a
least_to D E to from None x = λ q e. x q (from q e)
least_to D E to from (Some p) x = (to p x.0, λ q e. x.1 q (from q e))
