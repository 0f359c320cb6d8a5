-- A type that is read is a complete type, and a complete type is read.
use Rattle.std.proofs.Common.{◌≡◌, ℕ, zero, suc, ◌+◌, ◌-◌, ◌<◌, ◌≤◌, Bool, true, false, cond, eqb, ltb, List, [], ◌∷◌, ◌++◌, length, Option, Some, None, refl, sym, ap, subst, ◌∙◌, append_assoc, inl, inr, arith}
use Rattle.std.specs.Option.{option_map_or, option_or}
use Rattle.std.specs.Prelude.{◌&&◌, ◌||◌, ◌⊎◌}
use Rattle.std.proofs.lemmas.Bool.{ltb-true, lt-ltb, eqb-true, eqb-false, eq-eqb, ne_eqb, and_parts, and_from, or_cases, cases_Bool, false≢true, or_parts}
use Rattle.std.proofs.lemmas.Option.{cond_some, some_pair_parts}
use Rattle.std.proofs.lemmas.List.{length-append, append-nil, nil_from_length}
use Rattle.bus_frame.specs.declared.limits.TheConstants.{MOST_CONTAINERS, MOST_ARRAYS, MOST_STRUCTS}
use Rattle.bus_frame.specs.Steps.{first_of, remainder_byte}
use Rattle.fp_base.specs.Steps.{◌>>=◌}
use Rattle.bus_frame.specs.Types.{Ty, Tys, basic, variant, array, struct, entry, none, more, type_text, types_text, is_basic, is_type, are_types, entry_after, element_after, members_after, type_step, type_after, whole_type_after, is_one_type}
use Rattle.bus_frame.proofs.Taking.{bind_some, bind_is, none_if}
use Rattle.bus_frame.proofs.TypeSteps.{step}

-- ---- codes

code_apart : (c b : ℕ) (t : Bool) → eqb c b ≡ t → is_basic c ≡ true → is_basic b ≡ false → t ≡ false
code_apart c b true e basic_c other_b = absurd (false≢true (sym other_b ∙ ap is_basic (sym (eqb-true c b e)) ∙ basic_c))
code_apart c b false e basic_c other_b = refl

-- the code of a basic type is no other code
pub basic_apart : (c b : ℕ) → is_basic c ≡ true → is_basic b ≡ false → eqb c b ≡ false
basic_apart c b basic_c other_b = code_apart c b (eqb c b) refl basic_c other_b

pub remainder_takes : (b : ℕ) (types rest : List ℕ) → remainder_byte b types ≡ Some rest → types ≡ b ∷ rest
remainder_takes b [] rest e = absurd cc
remainder_takes b (c ∷ types) rest e =
    let t = cond_some (eqb c b) types rest e in
    ap (λ (x : ℕ). x ∷ types) (eqb-true c b t.0) ∙ ap (λ (xs : List ℕ). b ∷ xs) t.1

pub remainder_again : (b : ℕ) (rest : List ℕ) → remainder_byte b (b ∷ rest) ≡ Some rest
remainder_again b rest = rw (eq-eqb b b refl) refl

-- the text of a type begins with a code that closes nothing
pub not_closing : (e : Bool) (t : Ty) (a s : ℕ) (b : ℕ) (rest : List ℕ) → is_type e t a s ≡ true → is_basic b ≡ false → eqb 118 b ≡ false → eqb 97 b ≡ false → eqb 40 b ≡ false → eqb 123 b ≡ false → remainder_byte b (type_text t ++ rest) ≡ None
not_closing e (basic c) a s b rest good nb nv na ns ne = rw (basic_apart c b good nb) refl
not_closing e variant a s b rest good nb nv na ns ne = rw nv refl
not_closing e (array t) a s b rest good nb nv na ns ne = rw na refl
not_closing e (struct t ts) a s b rest good nb nv na ns ne = rw ns refl
not_closing e (entry key t) a s b rest good nb nv na ns ne = rw ne refl

pub text_some : (t : Ty) → 0 < length (type_text t)
text_some (basic c) = omega arith
text_some variant = omega arith
text_some (array t) = omega arith
text_some (struct t ts) = omega arith
text_some (entry key t) = omega arith

-- ---- what is a type is read

abbrev ReadsAll : (List ℕ → Option (List ℕ)) → Tys → Type 0
ReadsAll one none = Unit {0}
ReadsAll one (more t ts) = ((rest : List ℕ) → one (type_text t ++ rest) ≡ Some rest) × ReadsAll one ts

abbrev pub count : Tys → ℕ
count none = 0
count (more t ts) = count ts + 1

pub count_le : (ts : Tys) → count ts ≤ length (types_text ts)
count_le none = omega arith
count_le (more t ts) = omega (arith, count_le ts, text_some t, length-append (type_text t) (types_text ts))

members_again : (one : List ℕ → Option (List ℕ)) (a s n : ℕ) (t : Ty) (ts : Tys) (rest : List ℕ) → count ts < n → ((r : List ℕ) → one (type_text t ++ r) ≡ Some r) → ReadsAll one ts → are_types ts a s ≡ true → members_after one n ((type_text t ++ types_text ts) ++ 41 ∷ rest) ≡ Some rest
members_again one a s zero t ts rest lt first others good = absurd (omega arith)
members_again one a s (suc n) t none rest lt first others good =
    let grouped : (type_text t ++ []) ++ 41 ∷ rest ≡ type_text t ++ 41 ∷ rest = ap (λ (l : List ℕ). l ++ 41 ∷ rest) (append-nil (type_text t)) in
    let read : one ((type_text t ++ []) ++ 41 ∷ rest) ≡ Some (41 ∷ rest) = ap one grouped ∙ first (41 ∷ rest) in
    bind_is (one ((type_text t ++ []) ++ 41 ∷ rest)) (λ r. option_or (remainder_byte 41 r) (members_after one n r)) (41 ∷ rest) read
members_again one a s (suc n) t (more u us) rest lt first others good =
    let goods = and_parts (is_type false u a s) (are_types us a s) good in
    let after = (type_text u ++ types_text us) ++ 41 ∷ rest in
    let after_is : after ≡ type_text u ++ (types_text us ++ 41 ∷ rest) = append_assoc (type_text u) (types_text us) (41 ∷ rest) in
    let grouped : (type_text t ++ (type_text u ++ types_text us)) ++ 41 ∷ rest ≡ type_text t ++ after = append_assoc (type_text t) (type_text u ++ types_text us) (41 ∷ rest) in
    let read : one ((type_text t ++ (type_text u ++ types_text us)) ++ 41 ∷ rest) ≡ Some after = ap one grouped ∙ first after in
    let unclosed : remainder_byte 41 after ≡ None = ap (remainder_byte 41) after_is ∙ not_closing false u a s 41 (types_text us ++ 41 ∷ rest) goods.0 refl refl refl refl refl in
    bind_is (one ((type_text t ++ (type_text u ++ types_text us)) ++ 41 ∷ rest)) (λ r. option_or (remainder_byte 41 r) (members_after one n r)) after read
    ∙ ap (λ (o : Option (List ℕ)). option_or o (members_after one n after)) unclosed
    ∙ members_again one a s n u us rest (omega arith) others.0 others.1 goods.1

-- as an element, or as a type
abbrev read_as : Bool → (all arrays structs : ℕ) → List ℕ → Option (List ℕ)
read_as true all arrays structs = element_after (type_after all arrays structs)
read_as false all arrays structs = type_after all arrays structs

as_type : (e : Bool) (all a s c : ℕ) (types : List ℕ) (r : Option (List ℕ)) → eqb c 123 ≡ false → type_after all a s (c ∷ types) ≡ r → read_as e all a s (c ∷ types) ≡ r
as_type true all a s c types r apart h = rw apart h
as_type false all a s c types r apart h = h

at_array : (all a s : ℕ) (types : List ℕ) (r : Option (List ℕ)) → 0 < all → 0 < a → element_after (type_after (all - 1) (a - 1) s) types ≡ r → type_after all a s (97 ∷ types) ≡ r
at_array all a s types r la lb h =
    let na : eqb all 0 ≡ false = ne_eqb all 0 (λ e. omega arith) in
    let nb : eqb a 0 ≡ false = ne_eqb a 0 (λ e. omega arith) in
    step all a s (97 ∷ types) ∙ rw (na, nb) h

at_struct : (all a s : ℕ) (types : List ℕ) (r : Option (List ℕ)) → 0 < all → 0 < s → members_after (type_after (all - 1) a (s - 1)) (length types) types ≡ r → type_after all a s (40 ∷ types) ≡ r
at_struct all a s types r la lb h =
    let na : eqb all 0 ≡ false = ne_eqb all 0 (λ e. omega arith) in
    let nb : eqb s 0 ≡ false = ne_eqb s 0 (λ e. omega arith) in
    step all a s (40 ∷ types) ∙ rw (na, nb) h

at_basic : (all a s c : ℕ) (types : List ℕ) → is_basic c ≡ true → type_after all a s (c ∷ types) ≡ Some types
at_basic all a s c types good =
    step all a s (c ∷ types) ∙ rw (basic_apart c 97 good refl, basic_apart c 40 good refl, good) refl

mutual
  again : (t : Ty) (e : Bool) (all a s : ℕ) (rest : List ℕ) → is_type e t a s ≡ true → a + s ≤ all → read_as e all a s (type_text t ++ rest) ≡ Some rest
  again (basic c) e all a s rest good le = as_type e all a s c rest (Some rest) (basic_apart c 123 good refl) (at_basic all a s c rest good)
  again variant e all a s rest good le = as_type e all a s 118 rest (Some rest) refl (step all a s (118 ∷ rest))
  again (array t) e all a s rest good le =
      let goods = and_parts (ltb 0 a) (is_type true t (a - 1) s) good in
      let some = ltb-true 0 a goods.0 in
      let inner = again t true (all - 1) (a - 1) s rest goods.1 (omega arith) in
      as_type e all a s 97 (type_text t ++ rest) (Some rest) refl (at_array all a s (type_text t ++ rest) (Some rest) (omega arith) some inner)
  again (struct t ts) e all a s rest good le =
      let goods = and_parts (ltb 0 s && is_type false t a (s - 1)) (are_types ts a (s - 1)) good in
      let firsts = and_parts (ltb 0 s) (is_type false t a (s - 1)) goods.0 in
      let some = ltb-true 0 s firsts.0 in
      let first = λ (r : List ℕ). again t false (all - 1) a (s - 1) r firsts.1 (omega arith) in
      let others = again_all ts (all - 1) a (s - 1) goods.1 (omega arith) in
      let types = ((type_text t ++ types_text ts) ++ 41 ∷ []) ++ rest in
      let grouped : types ≡ (type_text t ++ types_text ts) ++ 41 ∷ rest = append_assoc (type_text t ++ types_text ts) (41 ∷ []) rest in
      let enough : count ts < length types = omega (arith, ap (λ (l : List ℕ). length l) grouped, length-append (type_text t ++ types_text ts) (41 ∷ rest), length-append (type_text t) (types_text ts), count_le ts, text_some t) in
      let read = ap (members_after (type_after (all - 1) a (s - 1)) (length types)) grouped ∙ members_again (type_after (all - 1) a (s - 1)) a (s - 1) (length types) t ts rest enough first others goods.1 in
      as_type e all a s 40 types (Some rest) refl (at_struct all a s types (Some rest) (omega arith) some read)
  again (entry key t) e all a s rest good le =
      let goods = and_parts (e && is_basic key) (is_type false t a s) good in
      let keys = and_parts e (is_basic key) goods.0 in
      let grouped : (type_text t ++ 125 ∷ []) ++ rest ≡ type_text t ++ 125 ∷ rest = append_assoc (type_text t) (125 ∷ []) rest in
      let inner : type_after all a s ((type_text t ++ 125 ∷ []) ++ rest) ≡ Some (125 ∷ rest) = ap (type_after all a s) grouped ∙ again t false all a s (125 ∷ rest) goods.1 le in
      let read : element_after (type_after all a s) (123 ∷ key ∷ ((type_text t ++ 125 ∷ []) ++ rest)) ≡ Some rest = rw (keys.1, inner) refl in
      subst (λ (b : Bool). read_as b all a s (123 ∷ key ∷ ((type_text t ++ 125 ∷ []) ++ rest)) ≡ Some rest) (sym keys.0) read

  again_all : (ts : Tys) (all a s : ℕ) → are_types ts a s ≡ true → a + s ≤ all → ReadsAll (type_after all a s) ts
  again_all none all a s good le = tt
  again_all (more t ts) all a s good le =
      let goods = and_parts (is_type false t a s) (are_types ts a s) good in
      (λ (r : List ℕ). again t false all a s r goods.0 le, again_all ts all a s goods.1 le)

-- ---- what is read is a type

-- what one reads are types with P
abbrev Sound : (List ℕ → Option (List ℕ)) → (Ty → Type 0) → Type 0
Sound one P = (types rest : List ℕ) → one types ≡ Some rest → (t : Ty) × P t × (types ≡ type_text t ++ rest)

abbrev AllTys : (Ty → Type 0) → Tys → Type 0
AllTys P none = Unit {0}
AllTys P (more t ts) = P t × AllTys P ts

pub or_else_some : {A : Type 0} (x y : Option A) (z : A) → option_or x y ≡ Some z → (x ≡ Some z) ⊎ (y ≡ Some z)
or_else_some (Some x) y z e = inl e
or_else_some None y z e = inr e

members_take : (one : List ℕ → Option (List ℕ)) (P : Ty → Type 0) → Sound one P → (n : ℕ) (types rest : List ℕ) → members_after one n types ≡ Some rest
    → (t : Ty) × (ts : Tys) × P t × AllTys P ts × (types ≡ (type_text t ++ types_text ts) ++ 41 ∷ rest)
members_take one P sound zero types rest e = absurd cc
members_take one P sound (suc n) types rest e =
    let a = bind_some (one types) (λ r. option_or (remainder_byte 41 r) (members_after one n r)) rest e in
    let first = sound types a.0 a.1 in
    elim (or_else_some (remainder_byte 41 a.0) (members_after one n a.0) rest a.2) [
      | inl closed ↦
          let end = remainder_takes 41 a.0 rest closed in
          (first.0, none, first.1, tt, first.2 ∙ ap (λ (l : List ℕ). type_text first.0 ++ l) end ∙ ap (λ (l : List ℕ). l ++ 41 ∷ rest) (sym (append-nil (type_text first.0))))
      | inr goes_on ↦
          let others = members_take one P sound n a.0 rest goes_on in
          let text = type_text others.0 ++ types_text others.1 in
          (first.0, more others.0 others.1, first.1, (others.2, others.3), first.2 ∙ ap (λ (l : List ℕ). type_text first.0 ++ l) others.4 ∙ sym (append_assoc (type_text first.0) text (41 ∷ rest)))
    ]

-- which way a test went
pub chosen : {A : Type 0} (b : Bool) (x y z : A) → cond b x y ≡ z → ((b ≡ true) × (x ≡ z)) ⊎ ((b ≡ false) × (y ≡ z))
chosen true x y z e = inl (refl, e)
chosen false x y z e = inr (refl, e)

as_element : (t : Ty) (a s : ℕ) → is_type false t a s ≡ true → is_type true t a s ≡ true
as_element (basic c) a s good = good
as_element variant a s good = good
as_element (array t) a s good = good
as_element (struct t ts) a s good = good
as_element (entry key t) a s good = absurd (false≢true good)

entry_takes : (one : List ℕ → Option (List ℕ)) (a s : ℕ) → Sound one (λ t. is_type false t a s ≡ true) → (types rest : List ℕ) → entry_after one types ≡ Some rest
    → (t : Ty) × (is_type true t a s ≡ true) × (123 ∷ types ≡ type_text t ++ rest)
entry_takes one a s sound [] rest e = absurd cc
entry_takes one a s sound (key ∷ value) rest e =
    elim (chosen (is_basic key) (one value >>= remainder_byte 125) None (Some rest) e) [
      | inl g ↦
          let v = bind_some (one value) (remainder_byte 125) rest g.1 in
          let held = sound value v.0 v.1 in
          let end = remainder_takes 125 v.0 rest v.2 in
          let value_is : value ≡ (type_text held.0 ++ 125 ∷ []) ++ rest = held.2 ∙ ap (λ (l : List ℕ). type_text held.0 ++ l) end ∙ sym (append_assoc (type_text held.0) (125 ∷ []) rest) in
          (entry key held.0, and_from (is_basic key) (is_type false held.0 a s) g.0 held.1, ap (λ (l : List ℕ). 123 ∷ key ∷ l) value_is)
      | inr g ↦ absurd cc
    ]

element_takes : (one : List ℕ → Option (List ℕ)) (a s : ℕ) → Sound one (λ t. is_type false t a s ≡ true) → Sound (element_after one) (λ t. is_type true t a s ≡ true)
element_takes one a s sound [] rest e = absurd cc
element_takes one a s sound (c ∷ types) rest e =
    elim (chosen (eqb c 123) (entry_after one types) (one (c ∷ types)) (Some rest) e) [
      | inl g ↦
          let held = entry_takes one a s sound types rest g.1 in
          (held.0, held.1, ap (λ (x : ℕ). x ∷ types) (eqb-true c 123 g.0) ∙ held.2)
      | inr g ↦ let held = sound (c ∷ types) rest g.1 in (held.0, as_element held.0 a s held.1, held.2)
    ]

are_all : (ts : Tys) (a s : ℕ) → AllTys (λ t. is_type false t a s ≡ true) ts → are_types ts a s ≡ true
are_all none a s h = refl
are_all (more t ts) a s h = and_from (is_type false t a s) (are_types ts a s) h.0 (are_all ts a s h.1)

IsTaken : (a s : ℕ) (types rest : List ℕ) → Type 0
IsTaken a s types rest = (t : Ty) × (is_type false t a s ≡ true) × (types ≡ type_text t ++ rest)

-- more than none
pub some_more : (n : ℕ) → eqb n 0 ≡ false → 0 < n
some_more n e = let ne = eqb-false n 0 e in omega arith

step_takes : (all a s : ℕ) (inner : ℕ → ℕ → List ℕ → Option (List ℕ)) (types rest : List ℕ) → (0 < all → (x y : ℕ) → Sound (inner x y) (λ t. is_type false t x y ≡ true)) → type_step all a s inner types ≡ Some rest → IsTaken a s types rest
unfolding IsTaken
step_takes all a s inner [] rest sound e = absurd cc
step_takes all a s inner (c ∷ types) rest sound e =
    let array_end = cond (eqb all 0 || eqb a 0) None (element_after (inner (a - 1) s) types) in
    let struct_end = cond (eqb all 0 || eqb s 0) None (members_after (inner a (s - 1)) (length types) types) in
    let simple_end = cond (is_basic c || eqb c 118) (Some types) None in
    elim (chosen (eqb c 97) array_end (cond (eqb c 40) struct_end simple_end) (Some rest) e) [
      | inl g ↦
          elim (chosen (eqb all 0 || eqb a 0) None (element_after (inner (a - 1) s) types) (Some rest) g.1) [
            | inl h ↦ absurd cc
            | inr h ↦
                let room = or_parts (eqb all 0) (eqb a 0) h.0 in
                let held = element_takes (inner (a - 1) s) (a - 1) s (sound (some_more all room.0) (a - 1) s) types rest h.1 in
                (array held.0, and_from (ltb 0 a) (is_type true held.0 (a - 1) s) (lt-ltb 0 a (some_more a room.1)) held.1, ap (λ (x : ℕ). x ∷ types) (eqb-true c 97 g.0) ∙ ap (λ (l : List ℕ). 97 ∷ l) held.2)
          ]
      | inr g ↦
          elim (chosen (eqb c 40) struct_end simple_end (Some rest) g.1) [
            | inl k ↦
                elim (chosen (eqb all 0 || eqb s 0) None (members_after (inner a (s - 1)) (length types) types) (Some rest) k.1) [
                  | inl h ↦ absurd cc
                  | inr h ↦
                      let room = or_parts (eqb all 0) (eqb s 0) h.0 in
                      let held = members_take (inner a (s - 1)) (λ t. is_type false t a (s - 1) ≡ true) (sound (some_more all room.0) a (s - 1)) (length types) types rest h.1 in
                      let texts = type_text held.0 ++ types_text held.1 in
                      let good = and_from (ltb 0 s && is_type false held.0 a (s - 1)) (are_types held.1 a (s - 1)) (and_from (ltb 0 s) (is_type false held.0 a (s - 1)) (lt-ltb 0 s (some_more s room.1)) held.2) (are_all held.1 a (s - 1) held.3) in
                      (struct held.0 held.1, good, ap (λ (x : ℕ). x ∷ types) (eqb-true c 40 k.0) ∙ ap (λ (l : List ℕ). 40 ∷ l) (held.4 ∙ sym (append_assoc texts (41 ∷ []) rest)))
                ]
            | inr k ↦
                elim (chosen (is_basic c || eqb c 118) (Some types) None (Some rest) k.1) [
                  | inl h ↦
                      let end : types ≡ rest = cc (h.1) in
                      elim (or_cases (is_basic c) (eqb c 118) h.0) [
                        | inl b ↦ (basic c, b, ap (λ (l : List ℕ). c ∷ l) end)
                        | inr v ↦ (variant, refl, ap (λ (x : ℕ). x ∷ types) (eqb-true c 118 v) ∙ ap (λ (l : List ℕ). 118 ∷ l) end)
                      ]
                  | inr h ↦ absurd cc
                ]
          ]
    ]

pub type_takes : (all a s : ℕ) (types rest : List ℕ) → type_after all a s types ≡ Some rest → (t : Ty) × (is_type false t a s ≡ true) × (types ≡ type_text t ++ rest)
unfolding IsTaken
type_takes zero a s types rest e = step_takes zero a s (type_after (zero - 1)) types rest (λ lt. absurd (omega arith)) (sym (step zero a s types) ∙ e)
type_takes (suc all) a s types rest e =
    let below : all ≡ suc all - 1 = omega arith in
    step_takes (suc all) a s (type_after (suc all - 1)) types rest (λ lt x y u v h. type_takes all x y u v (ap (λ (n : ℕ). type_after n x y u) below ∙ h)) (sym (step (suc all) a s types) ∙ e)

-- one complete type, and nothing else
pub complete_takes : (types : List ℕ) → is_one_type types ≡ true → (t : Ty) × (is_type false t MOST_ARRAYS MOST_STRUCTS ≡ true) × (types ≡ type_text t)
complete_takes types e = from_read (whole_type_after types) refl e
  where
    from_read : (o : Option (List ℕ)) → whole_type_after types ≡ o → option_map_or (λ rest. eqb (length rest) 0) o false ≡ true → (t : Ty) × (is_type false t MOST_ARRAYS MOST_STRUCTS ≡ true) × (types ≡ type_text t)
    from_read None is h = absurd (false≢true h)
    from_read (Some rest) is h =
        let held = type_takes MOST_CONTAINERS MOST_ARRAYS MOST_STRUCTS types rest is in
        let nothing : rest ≡ [] = nil_from_length rest (eqb-true (length rest) 0 h) in
        (held.0, held.1, held.2 ∙ ap (λ (l : List ℕ). type_text held.0 ++ l) nothing ∙ append-nil (type_text held.0))

pub complete_again : (t : Ty) → is_type false t MOST_ARRAYS MOST_STRUCTS ≡ true → is_one_type (type_text t) ≡ true
complete_again t good =
    let read : whole_type_after (type_text t) ≡ Some [] = ap whole_type_after (sym (append-nil (type_text t))) ∙ again t false MOST_CONTAINERS MOST_ARRAYS MOST_STRUCTS [] good (omega arith) in
    ap (λ (o : Option (List ℕ)). option_map_or (λ rest. eqb (length rest) 0) o false) read

-- an element's type is skipped
pub element_skipped : (t : Ty) (rest : List ℕ) → is_type true t MOST_ARRAYS MOST_STRUCTS ≡ true → element_after whole_type_after (type_text t ++ rest) ≡ Some rest
element_skipped t rest good = again t true MOST_CONTAINERS MOST_ARRAYS MOST_STRUCTS rest good (omega arith)
