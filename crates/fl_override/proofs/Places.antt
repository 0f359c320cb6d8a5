-- What a place keeps of the text that names it.
use Rattle.std.proofs.Common.{◌≡◌, ℕ, Bool, true, false, cond, eqb, List, [], ◌∷◌, ◌++◌, ◌⊎◌, ◌<◌, drop, inl, inr, refl, sym, ap, subst, ◌∙◌, arith, append_assoc, append-nil, lit<}
use Rattle.std.specs.Prelude.{codes}
use Rattle.std.proofs.lemmas.Bool.{false≢true, cases_Bool, eqb-true, and_parts}
use Rattle.fp_keyfile.specs.Grammar.{begins_so, is_value_byte}
use Rattle.fp_keyfile.proofs.Texts.{utf8_joined, utf8_nil}
use Rattle.fl_meta.specs.Places.{is_slash, is_colon, is_dot, is_ending, says_nothing, begins_dotted, normal_with, normal, rooted, place_in}
use Rattle.fl_meta.specs.Entries.{is_empty}
use Rattle.fl_override.proofs.Plain.{IsPlain, IsPlain-before, IsPlain-after, IsPlain-joined}

-- ---- an ending after it

normal-ended : (xs word : List ℕ) → normal (58 ∷ word) ≡ [] → normal (xs ++ 58 ∷ word) ≡ normal xs
unfolding normal
normal-ended [] word h = h
normal-ended (x ∷ xs) word h = ap (normal_with x) (normal-ended xs word h)

pub place_in-ended : (name word : List ℕ) → normal (58 ∷ word) ≡ [] → is_empty name ≡ false → place_in (name ++ 58 ∷ word) ≡ place_in name
place_in-ended [] word h some = absurd (false≢true (sym some))
place_in-ended (b ∷ bs) word h some = ap (rooted (is_slash b)) (normal-ended (b ∷ bs) word h)

-- ---- its first byte

-- nothing, or this byte first
abbrev KeepsFirst : ℕ → List ℕ → Type 0
KeepsFirst b text = (text ≡ []) ⊎ ((rest : List ℕ) × (text ≡ b ∷ rest))

first_is : (b c : ℕ) (r : List ℕ) → is_slash b ≡ true → is_slash c ≡ true → KeepsFirst b (c ∷ r)
first_is b c r e f = inr (r, λ i. (eqb-true c 47 f ∙ sym (eqb-true b 47 e)) i ∷ r)

slash_first : (b : ℕ) (r : List ℕ) → is_slash b ≡ true → begins_so is_slash r ≡ true → KeepsFirst b r
slash_first b [] e f = absurd (false≢true f)
slash_first b (c ∷ r) e f = first_is b c r e f

dotted_first : (b : ℕ) (r : List ℕ) → is_slash b ≡ true → begins_dotted r ≡ true → KeepsFirst b (drop 1 r)
dotted_first b [] e f = absurd (false≢true f)
dotted_first b (c ∷ r) e f = slash_first b r e (and_parts (is_dot c) (begins_so is_slash r) f).1

with_first : (b : ℕ) (r : List ℕ) → KeepsFirst b (normal_with b r)
with_first b r =
    elim (cases_Bool (is_slash b)) [
      | inl e ↦ elim (cases_Bool (says_nothing r)) [
        | inl f ↦ rw (e, f) (inl refl)
        | inr f ↦ elim (cases_Bool (begins_so is_slash r)) [
          | inl g ↦ rw (e, f, g) (slash_first b r e g)
          | inr g ↦ elim (cases_Bool (begins_dotted r)) [
            | inl k ↦ rw (e, f, g, k) (dotted_first b r e k)
            | inr k ↦ rw (e, f, g, k) (first_is b 47 r e refl)
          ]
        ]
      ]
      | inr e ↦ elim (cases_Bool (is_colon b)) [
        | inl f ↦ elim (cases_Bool (is_ending r)) [
          | inl g ↦ rw (e, f, g) (inl refl)
          | inr g ↦ rw (e, f, g) (inr (r, λ i. sym (eqb-true b 58 f) i ∷ r))
        ]
        | inr f ↦ rw (e, f) (inr (r, refl))
      ]
    ]

rooted_first : (b : ℕ) (absolute : Bool) (n : List ℕ) → is_slash b ≡ absolute → KeepsFirst b n → KeepsFirst b (rooted absolute n)
rooted_first b absolute n e h =
    elim (cases_Bool absolute) [
      | inl f ↦ elim (cases_Bool (is_empty n)) [
        | inl g ↦ rw (f, g) (first_is b 47 [] (e ∙ f) refl)
        | inr g ↦ rw (f, g) h
      ]
      | inr f ↦ rw f h
    ]

place_first : (b : ℕ) (bs : List ℕ) → KeepsFirst b (place_in (b ∷ bs))
unfolding normal
place_first b bs = rooted_first b (is_slash b) (normal_with b (normal bs)) refl (with_first b (normal bs))

kept_first : (p : ℕ → Bool) (b : ℕ) (kept back : List ℕ) → KeepsFirst b kept → is_empty kept ≡ false → p b ≡ false → begins_so p (kept ++ back) ≡ false
kept_first p b kept back (inl e) some h = absurd (false≢true (sym some ∙ ap is_empty e))
kept_first p b kept back (inr (rest, e)) some h = ap (λ k. begins_so p (k ++ back)) e ∙ h

-- what stands after it doesn't change it
pub first_of : (p : ℕ → Bool) (x : List ℕ) → is_empty (place_in x) ≡ false → begins_so p x ≡ false → (back : List ℕ) → begins_so p (place_in x ++ back) ≡ false
unfolding normal
first_of p [] some h back = absurd (false≢true (sym some))
first_of p (b ∷ bs) some h back = kept_first p b (place_in (b ∷ bs)) back (place_first b bs) some h

-- ---- it is plain where the text is

small : (b c : ℕ) → eqb b c ≡ true → c < 128 → b < 128
small b c e lt = let is : b ≡ c = eqb-true b c e in omega (arith, is, lt)

plain_front : (front : List ℕ) (b : ℕ) (r : List ℕ) → b < 128 → IsPlain (front ++ b ∷ r) → IsPlain (front ++ [])
plain_front front b r lt h = subst IsPlain (sym (append-nil front)) (IsPlain-before front b r lt h)

plain_slash : (front : List ℕ) (b : ℕ) (more : List ℕ) (c : ℕ) (r : List ℕ) → b < 128 → is_slash c ≡ true → IsPlain (front ++ b ∷ (more ++ c ∷ r)) → IsPlain (front ++ c ∷ r)
plain_slash front b more c r lt e h =
    let is : c ≡ 47 = eqb-true c 47 e in
    let low : c < 128 = small c 47 e (lit< tt) in
    IsPlain-joined front c r low (ap is_value_byte is) (IsPlain-before front b (more ++ c ∷ r) lt h) (IsPlain-after more c r low (IsPlain-after front b (more ++ c ∷ r) lt h))

plain_begins : (front : List ℕ) (b : ℕ) (more r : List ℕ) → b < 128 → begins_so is_slash r ≡ true → IsPlain (front ++ b ∷ (more ++ r)) → IsPlain (front ++ r)
plain_begins front b more [] lt e h = absurd (false≢true e)
plain_begins front b more (c ∷ r) lt e h = plain_slash front b more c r lt e h

plain_dotted : (front : List ℕ) (b : ℕ) (r : List ℕ) → b < 128 → begins_dotted r ≡ true → IsPlain (front ++ b ∷ r) → IsPlain (front ++ drop 1 r)
plain_dotted front b [] lt e h = absurd (false≢true e)
plain_dotted front b (c ∷ r) lt e h = plain_begins front b (c ∷ []) r lt (and_parts (is_dot c) (begins_so is_slash r) e).1 h

with_plain : (front : List ℕ) (b : ℕ) (r : List ℕ) → IsPlain (front ++ b ∷ r) → IsPlain (front ++ normal_with b r)
with_plain front b r h =
    elim (cases_Bool (is_slash b)) [
      | inl e ↦
          let lt = small b 47 e (lit< tt) in
          elim (cases_Bool (says_nothing r)) [
            | inl f ↦ rw (e, f) (plain_front front b r lt h)
            | inr f ↦ elim (cases_Bool (begins_so is_slash r)) [
              | inl g ↦ rw (e, f, g) (plain_begins front b [] r lt g h)
              | inr g ↦ elim (cases_Bool (begins_dotted r)) [
                | inl k ↦ rw (e, f, g, k) (plain_dotted front b r lt k h)
                | inr k ↦ rw (e, f, g, k) (subst (λ c. IsPlain (front ++ c ∷ r)) (eqb-true b 47 e) h)
              ]
            ]
          ]
      | inr e ↦ elim (cases_Bool (is_colon b)) [
        | inl f ↦ elim (cases_Bool (is_ending r)) [
          | inl g ↦ rw (e, f, g) (plain_front front b r (small b 58 f (lit< tt)) h)
          | inr g ↦ rw (e, f, g) (subst (λ c. IsPlain (front ++ c ∷ r)) (eqb-true b 58 f) h)
        ]
        | inr f ↦ rw (e, f) h
      ]
    ]

plain_after : (front bs : List ℕ) → IsPlain (front ++ bs) → IsPlain (front ++ normal bs)
unfolding normal
plain_after front [] h = h
plain_after front (b ∷ bs) h =
    let more : IsPlain ((front ++ b ∷ []) ++ normal bs) = plain_after (front ++ b ∷ []) bs (subst IsPlain (sym (append_assoc front (b ∷ []) bs)) h) in
    with_plain front b (normal bs) (subst IsPlain (append_assoc front (b ∷ []) (normal bs)) more)

plain_root : IsPlain (codes "/")
plain_root = record { utf8 = utf8_joined [] 47 [] (lit< tt) utf8_nil utf8_nil; bytes = refl }

if_plain : (b : Bool) (xs ys : List ℕ) → IsPlain xs → IsPlain ys → IsPlain (cond b xs ys)
if_plain true xs ys h k = h
if_plain false xs ys h k = k

pub IsPlain-place_in : (text : List ℕ) → IsPlain text → IsPlain (place_in text)
IsPlain-place_in text h = if_plain _ (codes "/") (normal text) plain_root (plain_after [] text h)
