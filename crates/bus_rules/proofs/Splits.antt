-- Lists that are split at a byte, and which bytes names don't have.
use Rattle.std.proofs.Common.{◌≡◌, ◌==◌, ◌≢◌, ℕ, suc, ◌+◌, ◌<◌, Bool, true, false, List, [], ◌∷◌, ◌++◌, length, get_or, take, drop, add-one, refl, sym, ap, subst, ◌∙◌, inl, inr, arith, eqb}
use Rattle.std.specs.Prelude.{not, ◌&&◌, ◌||◌, nat_le}
use Rattle.std.specs.List.{list_all, list_any, slice_split, onto_first}
use Rattle.std.proofs.lemmas.Bool.{eqb-true, and_parts, and_from, or_cases, cases_Bool, false≢true, or_right}
use Rattle.std.proofs.lemmas.List.Folds.{list_all_at}
use Rattle.std.proofs.Math.Seq.{get_or-append_seam}
use Rattle.std.proofs.lemmas.List.{length-append, take-append-drop, get_or-drop, length-drop}
use Rattle.std.proofs.Math.Seq.{drop-cons}
use Rattle.std.proofs.lemmas.List.Splits.{slice_split-cons_yes, slice_split-cons_no}
use Rattle.bus_frame.specs.declared.limits.TheConstants.{MOST_NAME_BYTES}
use Rattle.bus_frame.specs.declared.names.Alphabet.{Alphabet}
use Rattle.bus_frame.specs.declared.names.Alphabet.TheVariants.{Interface, Path}
use Rattle.bus_frame.specs.Names.{continues_element, begins_element, has_first_digit, is_digit, is_element, are_elements, is_dotted, is_interface, is_member, is_path}

-- the byte isn't there
abbrev pub Misses : ℕ → List ℕ → Type 0
Misses c xs = (i : ℕ) → i < length xs → get_or xs i 0 ≢ c

pub Misses-rest : (c x : ℕ) (xs : List ℕ) → Misses c (x ∷ xs) → Misses c xs
Misses-rest c x xs h = λ i l. h (suc i) (omega arith)

pub Misses-nil : (c : ℕ) → Misses c []
Misses-nil c = λ i l. absurd (omega arith)

pub Misses-seam : (c : ℕ) (xs ys : List ℕ) → Misses c (xs ++ c ∷ ys) → ⊥
Misses-seam c xs ys h = h (length xs) (omega (arith, length-append xs (c ∷ ys))) (get_or-append_seam xs c ys 0)

pub Misses-is : (c : ℕ) (all xs ys : List ℕ) → all ≡ xs ++ c ∷ ys → Misses c all → ⊥
Misses-is c all xs ys e h = Misses-seam c xs ys (subst (Misses c) e h)

heads : (x y : ℕ) (xs ys : List ℕ) → x ∷ xs ≡ y ∷ ys → (x ≡ y) × (xs ≡ ys)
heads x y xs ys e = (cc, cc)

-- two splits at the first c, and two at the last
pub first_unique : (c : ℕ) (a b x y : List ℕ) → Misses c a → Misses c x → a ++ c ∷ b ≡ x ++ c ∷ y → (a ≡ x) × (b ≡ y)
first_unique c [] b [] y ha hx e = (refl, (heads c c b y e).1)
first_unique c [] b (z ∷ x) y ha hx e = absurd (hx 0 (omega arith) (sym (heads c z b (x ++ c ∷ y) e).0))
first_unique c (z ∷ a) b [] y ha hx e = absurd (ha 0 (omega arith) (heads z c (a ++ c ∷ b) y e).0)
first_unique c (z ∷ a) b (w ∷ x) y ha hx e =
    let h = heads z w (a ++ c ∷ b) (x ++ c ∷ y) e in
    let r = first_unique c a b x y (Misses-rest c z a ha) (Misses-rest c w x hx) h.1 in
    (ap (λ (n : ℕ). n ∷ a) h.0 ∙ ap (λ (l : List ℕ). w ∷ l) r.0, r.1)

pub last_unique : (c : ℕ) (a b x y : List ℕ) → Misses c b → Misses c y → a ++ c ∷ b ≡ x ++ c ∷ y → (a ≡ x) × (b ≡ y)
last_unique c [] b [] y hb hy e = (refl, (heads c c b y e).1)
last_unique c [] b (z ∷ x) y hb hy e = absurd (Misses-is c b x y (heads c z b (x ++ c ∷ y) e).1 hb)
last_unique c (z ∷ a) b [] y hb hy e = absurd (Misses-is c y a b (sym (heads z c (a ++ c ∷ b) y e).1) hy)
last_unique c (z ∷ a) b (w ∷ x) y hb hy e =
    let h = heads z w (a ++ c ∷ b) (x ++ c ∷ y) e in
    let r = last_unique c a b x y hb hy h.1 in
    (ap (λ (n : ℕ). n ∷ a) h.0 ∙ ap (λ (l : List ℕ). w ∷ l) r.0, r.1)

-- ---- which bytes names have

pub missed : (p : ℕ → Bool) (c : ℕ) → p c ≡ false → (xs : List ℕ) → list_all p xs ≡ true → Misses c xs
missed p c other xs all = λ i l is. false≢true (sym (list_all_at p xs i 0 l (ap p is ∙ other)) ∙ all)

or_yes : (b : Bool) → (true || b) ≡ true
or_yes b = refl

-- bytes of parts between separators, and the separators
abbrev joined : (ℕ → Bool) → ℕ → ℕ → Bool
joined p s c = (c == s) || p c

parts_first : (p : ℕ → Bool) (c : ℕ) (parts : List (List ℕ)) → list_all (list_all p) (onto_first c parts) ≡ true → (p c ≡ true) × (list_all (list_all p) parts ≡ true)
parts_first p c [] h =
    let outer = and_parts (p c && true) true h in
    ((and_parts (p c) true outer.0).0, refl)
parts_first p c (part ∷ parts) h =
    let outer = and_parts (p c && list_all p part) (list_all (list_all p) parts) h in
    let inner = and_parts (p c) (list_all p part) outer.0 in
    (inner.0, and_from (list_all p part) (list_all (list_all p) parts) inner.1 outer.1)

all_joined : (p : ℕ → Bool) (s : ℕ) (bytes : List ℕ) → list_all (list_all p) (slice_split (λ c. c == s) bytes) ≡ true → list_all (joined p s) bytes ≡ true
all_joined p s [] h = refl
all_joined p s (c ∷ cs) h =
    elim (cases_Bool (c == s)) [
      | inl e ↦
          and_from (joined p s c) (list_all (joined p s) cs) (ap (λ (b : Bool). b || p c) e)
          (all_joined p s cs (sym (ap (list_all (list_all p)) (slice_split-cons_yes (λ x. x == s) c cs e)) ∙ h))
      | inr e ↦
          let both = parts_first p c (slice_split (λ x. x == s) cs) (sym (ap (list_all (list_all p)) (slice_split-cons_no (λ x. x == s) c cs e)) ∙ h) in
          and_from (joined p s c) (list_all (joined p s) cs) (or_right (c == s) (p c) both.0) (all_joined p s cs both.1)
    ]

pub element_continues : (a : Alphabet) (bytes : List ℕ) → is_element a bytes ≡ true → list_all (continues_element a) bytes ≡ true
element_continues a [] h = absurd (false≢true h)
element_continues a (c ∷ cs) h =
    let inner = and_parts (begins_element a c) (list_all (continues_element a) cs) h in
    let first = (and_parts (continues_element a c) (has_first_digit a || not (is_digit c)) inner.0).0 in
    and_from (continues_element a c) (list_all (continues_element a) cs) first inner.1

elements_continue : (a : Alphabet) (parts : List (List ℕ)) → list_all (is_element a) parts ≡ true → list_all (list_all (continues_element a)) parts ≡ true
elements_continue a [] h = refl
elements_continue a (part ∷ parts) h =
    let outer = and_parts (is_element a part) (list_all (is_element a) parts) h in
    and_from (list_all (continues_element a) part) (list_all (list_all (continues_element a)) parts) (element_continues a part outer.0) (elements_continue a parts outer.1)

pub interface_misses : (c : ℕ) → joined (continues_element Interface) 46 c ≡ false → (i : List ℕ) → is_interface i ≡ true → Misses c i
unfolding is_interface
interface_misses c other i h =
    let dotted = (and_parts (nat_le (length i) MOST_NAME_BYTES) (is_dotted Interface i) h).1 in
    let elements = (and_parts (list_any (λ b. b == 46) i) (are_elements Interface 46 i) dotted).1 in
    missed (joined (continues_element Interface) 46) c other i (all_joined (continues_element Interface) 46 i (elements_continue Interface (slice_split (λ b. b == 46) i) elements))

pub member_misses : (c : ℕ) → continues_element Interface c ≡ false → (m : List ℕ) → is_member m ≡ true → Misses c m
unfolding is_member
member_misses c other m h =
    missed (continues_element Interface) c other m (element_continues Interface m (and_parts (nat_le (length m) MOST_NAME_BYTES) (is_element Interface m) h).1)

pub path_misses : (c : ℕ) → joined (continues_element Path) 47 c ≡ false → (p : List ℕ) → is_path p ≡ true → Misses c p
unfolding is_path
path_misses c other [] h = Misses-nil c
path_misses c other (b ∷ rest) h =
    let both = and_parts (b == 47) (eqb (length rest) 0 || are_elements Path 47 rest) h in
    missed (joined (continues_element Path) 47) c other (b ∷ rest)
    (and_from (joined (continues_element Path) 47 b) (list_all (joined (continues_element Path) 47) rest) (ap (λ (t : Bool). t || continues_element Path b) both.0) (rest_is rest both.1))
  where
    rest_is : (rest : List ℕ) → (eqb (length rest) 0 || are_elements Path 47 rest) ≡ true → list_all (joined (continues_element Path) 47) rest ≡ true
    rest_is [] e = refl
    rest_is (x ∷ xs) e =
        elim (or_cases (eqb (length (x ∷ xs)) 0) (are_elements Path 47 (x ∷ xs)) e) [
          | inl empty ↦ absurd (omega (arith, eqb-true (length (x ∷ xs)) 0 empty))
          | inr elements ↦ all_joined (continues_element Path) 47 (x ∷ xs) (elements_continue Path (slice_split (λ y. y == 47) (x ∷ xs)) elements)
        ]

-- ---- where a byte stands

pub split_at : (c : ℕ) (text : List ℕ) (at : ℕ) → at < length text → get_or text at 0 ≡ c → text ≡ take at text ++ c ∷ drop (at + 1) text
split_at c text at lt is =
    sym (take-append-drop at text) ∙ ap (λ (l : List ℕ). take at text ++ l) (drop-cons text at 0 lt)
    ∙ ap (λ (b : ℕ). take at text ++ b ∷ drop (suc at) text) is ∙ ap (λ (n : ℕ). take at text ++ c ∷ drop n text) (sym (add-one at))

pub misses_remainder : (c : ℕ) (text : List ℕ) (at : ℕ) → at < length text → ((i : ℕ) → at < i → i < length text → get_or text i 0 ≢ c) → Misses c (drop (at + 1) text)
misses_remainder c text at lt later = λ i l is.
    later (at + 1 + i) (omega arith) (omega (arith, l, length-drop (at + 1) text)) (sym (get_or-drop (at + 1) text i 0) ∙ is)
