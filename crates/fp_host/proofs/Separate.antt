-- Paths are told apart, and what counts below a folder.
use Rattle.std.proofs.Common.{false, ◌≡◌, ◌≢◌, ◌⊎◌, inl, inr, ℕ, List, [], ◌∷◌, refl, sym, ◌∙◌, ap, subst, Decides}
use Rattle.std.specs.Prelude.{if◌then◌else◌}
use Rattle.std.proofs.lemmas.Bool.{cases_Bool, both_ways, cond-true, cond-false, false_from_ne_true}
use Rattle.std.proofs.lemmas.Bool.Decides.{Decides-eqb}
use Rattle.std.proofs.lemmas.Slice.Eq.{slice_eq-Decides, bytes_eq-Decides}
use Rattle.fp_host.specs.Paths.{Elements, Slot, absent, dir, file, link, path_eq, set_at, under, at}
use Rattle.fp_host.specs.Calls.{IsNoDir, set_file}

pub path_decides : (q p : Elements) → Decides (path_eq q p) (q ≡ p)
path_decides q p = slice_eq-Decides bytes_eq-Decides q p (path_eq q p) refl

pub path_cases : (q p : Elements) → (q ≡ p) ⊎ (q ≢ p)
path_cases q p = elim (cases_Bool (path_eq q p)) [
  | inl t ↦ inl ((path_decides q p).0 t)
  | inr f ↦ inr (λ e. both_ways (path_eq q p) f ((path_decides q p).1 e))
]

pub set_same : {A : Type 0} (f : Elements → A) (p : Elements) (a : A) (q : Elements) → q ≡ p → set_at f p a q ≡ a
set_same f p a q e = cond-true (path_eq q p) a (f q) ((path_decides q p).1 e)

pub set_other : {A : Type 0} (f : Elements → A) (p : Elements) (a : A) (q : Elements) → q ≢ p → set_at f p a q ≡ f q
set_other f p a q ne = cond-false (path_eq q p) a (f q) (false_from_ne_true (path_eq q p) (λ t. ne ((path_decides q p).0 t)))

pub file_same : {A : Type 0} (f : ℕ → A) (id : ℕ) (a : A) (i : ℕ) → i ≡ id → set_file f id a i ≡ a
file_same f id a i e = cond-true _ a (f i) ((Decides-eqb i id).1 e)

pub file_other : {A : Type 0} (f : ℕ → A) (id : ℕ) (a : A) (i : ℕ) → i ≢ id → set_file f id a i ≡ f i
file_other f id a i ne = cond-false _ a (f i) (false_from_ne_true _ (λ t. ne ((Decides-eqb i id).0 t)))

pub under_absent : (e : Slot) → under e absent ≡ absent
under_absent absent = refl
under_absent dir = refl
under_absent (file id) = refl
under_absent (link text) = refl

pub under_cases : (e f : Slot) → ((e ≡ dir) × (under e f ≡ f)) ⊎ (under e f ≡ absent)
under_cases absent f = inr refl
under_cases dir f = inl (refl, refl)
under_cases (file id) f = inr refl
under_cases (link text) f = inr refl

pub under_no_dir : (e f : Slot) → IsNoDir e → under e f ≡ absent
under_no_dir absent f nd = refl
under_no_dir dir f nd = absurd nd
under_no_dir (file id) f nd = refl
under_no_dir (link text) f nd = refl

-- a path counts, or it is absent
pub at_cases : (n : Elements → Slot) (q : Elements) → (at n q ≡ n q) ⊎ (at n q ≡ absent)
at_cases n [] = inl refl
at_cases n (x ∷ up) = elim (under_cases (at n up) (n (x ∷ up))) [ inl h ↦ inl h.1 | inr h ↦ inr h ]

-- nothing counts below p
abbrev pub IsClosed : (Elements → Slot) → Elements → Type 0
IsClosed n p = (x : List ℕ) → under (n p) (n (x ∷ p)) ≡ absent

below_closed : (n : Elements → Slot) (x : List ℕ) (p : Elements) → IsClosed n p → under (at n p) (n (x ∷ p)) ≡ absent
below_closed n x p shut = elim (at_cases n p) [
  | inl is ↦ ap (λ (e : Slot). under e (n (x ∷ p))) is ∙ shut x
  | inr none ↦ ap (λ (e : Slot). under e (n (x ∷ p))) none
]

pub dir_cases : (e : Slot) → (e ≡ dir) ⊎ IsNoDir e
dir_cases absent = inr tt
dir_cases dir = inl refl
dir_cases (file id) = inr tt
dir_cases (link text) = inr tt

pub tail_of : {x y : List ℕ} {p q : Elements} → x ∷ p ≡ y ∷ q → p ≡ q
tail_of e = cc

-- Two trees that differ in one name and in names below it, where nothing counts below it in either, differ there alone.
pub at_off : (n m : Elements → Slot) (p : Elements) → ((q : Elements) → q ≢ p → ((x : List ℕ) → q ≢ x ∷ p) → n q ≡ m q) → IsClosed n p → IsClosed m p
    → (q : Elements) → (at n q ≡ at m q) ⊎ ((q ≡ p) × (at n q ≡ n q))
at_off n m p off shut_n shut_m [] = elim (path_cases [] p) [ inl e ↦ inr (e, refl) | inr ne ↦ inl (off [] ne (λ x e. cc)) ]
at_off n m p off shut_n shut_m (x ∷ up) = elim (path_cases up p) [
  | inl child ↦ inl (ap (λ (q : Elements). under (at n q) (n (x ∷ q))) child ∙ below_closed n x p shut_n ∙ sym (below_closed m x p shut_m) ∙ sym (ap (λ (q : Elements). under (at m q) (m (x ∷ q))) child))
  | inr other ↦ elim (at_off n m p off shut_n shut_m up) [
    | inr here ↦ absurd (other here.0)
    | inl same ↦ elim (path_cases (x ∷ up) p) [
      | inl e ↦ elim (dir_cases (at n up)) [
        | inl d ↦ inr (e, ap (λ (f : Slot). under f (n (x ∷ up))) d)
        | inr f ↦ inl (under_no_dir (at n up) (n (x ∷ up)) f ∙ sym (under_no_dir (at m up) (m (x ∷ up)) (subst IsNoDir same f)))
      ]
      | inr ne ↦ inl (ap (λ (e : Slot). under e (n (x ∷ up))) same ∙ ap (λ (e : Slot). under (at m up) e) (off (x ∷ up) ne (λ y e. other (tail_of e))))
    ]
  ]
]

-- the names directly in a folder made absent
abbrev pub clear_in : (Elements → Slot) → Elements → Elements → Slot
clear_in n p [] = n []
clear_in n p (x ∷ up) = if path_eq up p then absent else n (x ∷ up)

pub clear_same : (n : Elements → Slot) (p : Elements) (x : List ℕ) → clear_in n p (x ∷ p) ≡ absent
clear_same n p x = cond-true (path_eq p p) absent (n (x ∷ p)) ((path_decides p p).1 refl)

pub clear_cases : (n : Elements → Slot) (p q : Elements) → (clear_in n p q ≡ n q) ⊎ ((x : List ℕ) × (q ≡ x ∷ p) × (clear_in n p q ≡ absent))
clear_cases n p [] = inl refl
clear_cases n p (x ∷ up) = elim (path_cases up p) [
  | inl e ↦ inr (x, ap (λ (r : Elements). x ∷ r) e, cond-true (path_eq up p) absent (n (x ∷ up)) ((path_decides up p).1 e))
  | inr ne ↦ inl (cond-false (path_eq up p) absent (n (x ∷ up)) (false_from_ne_true (path_eq up p) (λ t. ne ((path_decides up p).0 t))))
]

pub clear_other : (n : Elements → Slot) (p q : Elements) → ((x : List ℕ) → q ≢ x ∷ p) → clear_in n p q ≡ n q
clear_other n p q off = elim (clear_cases n p q) [ inl same ↦ same | inr child ↦ absurd (off child.0 child.1) ]

pub absent_cases : (e : Slot) → (e ≡ absent) ⊎ (e ≢ absent)
absent_cases absent = inl refl
absent_cases dir = inr (λ is. cc)
absent_cases (file id) = inr (λ is. cc)
absent_cases (link text) = inr (λ is. cc)

-- two paths that a test tells apart; `refl` serves for written ones
pub apart_by : {p q : Elements} → path_eq p q ≡ false → p ≢ q
apart_by {p = p} {q = q} f e = both_ways (path_eq p q) f ((path_decides p q).1 e)

pub head_of : {x y : List ℕ} {up down : Elements} → x ∷ up ≡ y ∷ down → x ≡ y
head_of h = cc h
