-- A value that is read is a value of the type.
use Rattle.std.proofs.Common.{◌≡◌, ℕ, zero, suc, ◌+◌, ◌-◌, ◌<◌, ◌≤◌, Bool, true, false, cond, eqb, ltb, leb, List, [], ◌∷◌, ◌++◌, length, take, drop, Option, Some, None, refl, sym, ap, subst, ◌∙◌, append_assoc, inl, inr, arith}
use Rattle.std.specs.Option.{option_or}
use Rattle.std.specs.Prelude.{◌&&◌, ◌||◌, ◌⊎◌, option_map, MatchBool}
use Rattle.std.specs.List.{concat}
use Rattle.std.proofs.lemmas.Bool.{ltb-true, ltb-false, lt-ltb, leb-true, eqb-true, eqb-false, eq-eqb, ne_eqb, and_parts, and_from, or_cases, cases_Bool, false≢true, or_parts}
use Rattle.std.proofs.lemmas.Option.{cond_some, some_pair_parts}
use Rattle.std.proofs.lemmas.List.{length-append, append-nil, nil_from_length}
use Rattle.bus_frame.specs.declared.limits.TheConstants.{MOST_ARRAY_BYTES, MOST_ARRAYS, MOST_STRUCTS}
use Rattle.bus_frame.specs.Steps.{first_of}
use Rattle.fp_base.specs.Steps.{◌>>=◌}
use Rattle.bus_frame.specs.Types.{Ty, Tys, basic, variant, array, struct, entry, none, more, type_text, types_text, is_basic, is_type, are_types, element_after, whole_type_after, is_one_type}
use Rattle.bus_frame.specs.Numbers.{padding}
use Rattle.bus_frame.specs.Places.{Place, bytes_at, byte_at, aligned_at, number_at, long_text_at, short_text_at}
use Rattle.bus_frame.specs.Values.{fixed_size, alignment, fixed_at, truth_at, basic_at, Ended, closed, members_at, elements_at, array_type_after, array_head_at, array_at, variant_type_at, variant_at, struct_at, value_step, value_at}
use Rattle.bus_frame.specs.Writing.{zeros, number_bytes}
use Rattle.bus_frame.specs.Grammar.{IsFixed, IsNumber, IsTruth, IsLongText, IsShortText, IsBasic, AreInRow, array_head, IsArray, AreMembers, IsStruct, IsTypeText, IsVariant, type_alignment, IsValue}
use Rattle.bus_frame.proofs.Taking.{place, Takes, Takes-then, bind_some, bind_is, none_if, bytes_takes, byte_takes, aligned_takes}
use Rattle.bus_frame.proofs.Spelled.{IsBytes, Takes-bytes, number_takes, long_text_takes, short_text_takes}
use Rattle.bus_frame.proofs.TypeLaws.{chosen, not_closing, basic_apart, complete_takes, element_skipped, or_else_some}
use Rattle.bus_frame.proofs.ValueSteps.{step}

-- what is read ends at a place, with these types left, and is P
pub record Ends (P : ℕ → List ℕ → Type 0) (p : Place) (left : List ℕ) (end : Ended) : Type 0 where
  pub left_is : end.0 ≡ left
  pub value : List ℕ
  pub takes : Takes p value end.1
  pub is : P p.at value

-- what is read is P
pub record Spells (P : ℕ → List ℕ → Type 0) (p q : Place) : Type 0 where
  pub value : List ℕ
  pub takes : Takes p value q
  pub is : P p.at value

pub map_some : {A B : Type 0} (o : Option A) (f : A → B) (y : B) → option_map f o ≡ Some y → (x : A) × (o ≡ Some x) × (f x ≡ y)
map_some (Some x) f y e = (x, refl, cc)
map_some None f y e = absurd cc

-- ---- basic types

fixed_takes : (size : ℕ) (p q : Place) → 0 < size → fixed_at size p ≡ Some q → Spells (IsFixed size) p q
unfolding fixed_at
fixed_takes size p q some e =
    let a = bind_some (aligned_at size p) (λ r. bytes_at size r >>= λ b. Some b.1) q e in
    let d = bind_some (bytes_at size a.0) (λ b. Some b.1) q a.2 in
    let before = aligned_takes size p a.0 a.1 in
    let digits = bytes_takes size a.0 d.0.0 d.0.1 d.1 in
    let q_is : d.0.1 ≡ q = cc (d.2) in
    record {
      value = zeros size p.at ++ d.0.0;
      takes = subst (λ (r : Place). Takes p (zeros size p.at ++ d.0.0) r) q_is (Takes-then p a.0 d.0.1 (zeros size p.at) d.0.0 before digits.0);
      is = record { digits = d.0.0; some = some; size_is = digits.1; spelled = refl };
    }

truth_takes : (little : Bool) (p q : Place) → IsBytes p.rest → truth_at little p ≡ Some q → Spells (IsTruth little) p q
unfolding truth_at
truth_takes little p q fits e =
    let a = bind_some (number_at little p) (λ n. cond (ltb 1 n.0) None (Some n.1)) q e in
    let g = none_if (ltb 1 a.0.0) a.0.1 q a.2 in
    let n = number_takes little p a.0.0 a.0.1 fits a.1 in
    record {
      value = n.0;
      takes = subst (λ (r : Place). Takes p n.0 r) g.1 n.1;
      is = record { n = a.0.0; bit = ltb-false _ _ g.0; spelled = n.2.spelled };
    }

pub at_true : (b : Bool) (P Q : Type 0) → b ≡ true → P → MatchBool b P Q
at_true b P Q e p = subst (λ (t : Bool). MatchBool t P Q) (sym e) p

pub at_false : (b : Bool) (P Q : Type 0) → b ≡ false → Q → MatchBool b P Q
at_false b P Q e q = subst (λ (t : Bool). MatchBool t P Q) (sym e) q

basic_takes : (little : Bool) (c : ℕ) (p q : Place) → IsBytes p.rest → basic_at little c p ≡ Some q → Spells (IsBasic little c) p q
unfolding basic_at
basic_takes little c p q fits e =
    let is_text = eqb c 115 || eqb c 111 in
    let long_end = option_map (λ t. t.1) (long_text_at little p) in
    let short_end = option_map (λ t. t.1) (short_text_at p) in
    let fixed_end = cond (eqb (fixed_size c) 0) None (fixed_at (fixed_size c) p) in
    let truth_end = cond (eqb c 98) (truth_at little p) fixed_end in
    elim (chosen is_text long_end (cond (eqb c 103) short_end truth_end) (Some q) e) [
      | inl g ↦
          let t = map_some (long_text_at little p) (λ t. t.1) q g.1 in
          let x = long_text_takes little p t.0.0 t.0.1 fits t.1 in
          record {
            value = x.0;
            takes = subst (λ (r : Place). Takes p x.0 r) t.2 x.1;
            is = at_true is_text _ _ g.0 (t.0.0, x.2);
          }
      | inr g ↦
          elim (chosen (eqb c 103) short_end truth_end (Some q) g.1) [
            | inl h ↦
                let t = map_some (short_text_at p) (λ t. t.1) q h.1 in
                let x = short_text_takes p t.0.0 t.0.1 fits t.1 in
                record {
                  value = x.0;
                  takes = subst (λ (r : Place). Takes p x.0 r) t.2 x.1;
                  is = at_false is_text _ _ g.0 (at_true (eqb c 103) _ _ h.0 (t.0.0, x.2));
                }
            | inr h ↦
                elim (chosen (eqb c 98) (truth_at little p) fixed_end (Some q) h.1) [
                  | inl k ↦
                      let x = truth_takes little p q fits k.1 in
                      record {
                        value = x.value;
                        takes = x.takes;
                        is = at_false is_text _ _ g.0 (at_false (eqb c 103) _ _ h.0 (at_true (eqb c 98) _ _ k.0 x.is));
                      }
                  | inr k ↦
                      elim (chosen (eqb (fixed_size c) 0) None (fixed_at (fixed_size c) p) (Some q) k.1) [
                        | inl l ↦ absurd cc
                        | inr l ↦
                            let ne = eqb-false (fixed_size c) 0 l.0 in
                            let x = fixed_takes (fixed_size c) p q (omega arith) l.1 in
                            record {
                              value = x.value;
                              takes = x.takes;
                              is = at_false is_text _ _ g.0 (at_false (eqb c 103) _ _ h.0 (at_false (eqb c 98) _ _ k.0 x.is));
                            }
                      ]
                ]
          ]
    ]

-- ---- elements and members

-- every value that one reads of these types is P, with r left of the types
abbrev pub SoundAt : (List ℕ → Place → Option Ended) → (types left : List ℕ) → (ℕ → List ℕ → Type 0) → Type 0
SoundAt one types left P = (p : Place) (end : Ended) → IsBytes p.rest → one types p ≡ Some end → Ends P p left end

pub record EndsRow (P : ℕ → List ℕ → Type 0) (p : Place) (left rest : List ℕ) : Type 0 where
  pub left_is : rest ≡ left
  pub elements : List (List ℕ)
  pub parts : p.rest ≡ concat elements
  pub each : AreInRow P p.at elements

elements_take : (one : List ℕ → Place → Option Ended) (types left : List ℕ) (P : ℕ → List ℕ → Type 0) → SoundAt one types left P → (n : ℕ) (p : Place) (rest : List ℕ) → IsBytes p.rest → elements_at one n types p ≡ Some rest → EndsRow P p left rest
elements_take one types left P sound zero p rest fits e = absurd cc
elements_take one types left P sound (suc n) p rest fits e =
    let a = bind_some (one types p) (λ r. cond (eqb (length r.1.rest) 0) (Some r.0) (elements_at one n types r.1)) rest e in
    let first = sound p a.0 fits a.1 in
    elim (chosen (eqb (length a.0.1.rest) 0) (Some a.0.0) (elements_at one n types a.0.1) (Some rest) a.2) [
      | inl g ↦
          let nothing : a.0.1.rest ≡ [] = nil_from_length a.0.1.rest (eqb-true _ _ g.0) in
          record {
            left_is = sym (cc (g.1)) ∙ first.left_is;
            elements = first.value ∷ [];
            parts = first.takes.parts ∙ ap (λ (l : List ℕ). first.value ++ l) nothing;
            each = (first.is, tt);
          }
      | inr g ↦
          let fits_rest = (Takes-bytes p a.0.1 first.value fits first.takes).1 in
          let others = elements_take one types left P sound n a.0.1 rest fits_rest g.1 in
          record {
            left_is = others.left_is;
            elements = first.value ∷ others.elements;
            parts = first.takes.parts ∙ ap (λ (l : List ℕ). first.value ++ l) others.parts;
            each = (first.is, subst (λ (k : ℕ). AreInRow P k others.elements) first.takes.at others.each);
          }
    ]

-- every member that one reads is P, whatever follows its type
abbrev pub SoundAll : (List ℕ → Place → Option Ended) → (Ty → ℕ → List ℕ → Type 0) → Tys → Type 0
SoundAll one P none = Unit {0}
SoundAll one P (more t ts) = ((left : List ℕ) → SoundAt one (type_text t ++ left) left (P t)) × SoundAll one P ts

unfoldable pub closing : (b : ℕ) → Type 0
closing b = (eqb b 41 || eqb b 125) ≡ true

-- a type closes nothing
pub not_closed : (e : Bool) (t : Ty) (a s : ℕ) (rest : List ℕ) → is_type e t a s ≡ true → closed (type_text t ++ rest) ≡ None
not_closed e (basic c) a s rest good = rw (basic_apart c 41 good refl, basic_apart c 125 good refl) refl
not_closed e variant a s rest good = refl
not_closed e (array t) a s rest good = refl
not_closed e (struct t ts) a s rest good = refl
not_closed e (entry key t) a s rest good = refl

members_take : (one : List ℕ → Place → Option Ended) (P : Ty → ℕ → List ℕ → Type 0) (b : ℕ) (a s : ℕ) (left : List ℕ) → closing b → (n : ℕ) (t : Ty) (ts : Tys) (p : Place) (end : Ended) → SoundAll one P (more t ts) → are_types ts a s ≡ true → IsBytes p.rest → members_at one n ((type_text t ++ types_text ts) ++ b ∷ left) p ≡ Some end → Ends (AreMembers P (more t ts)) p left end
unfolding closing
members_take one P b a s left close zero t ts p end sound good fits e = absurd cc
members_take one P b a s left close (suc n) t none p end sound good fits e =
    let types = (type_text t ++ []) ++ b ∷ left in
    let grouped : types ≡ type_text t ++ b ∷ left = ap (λ (l : List ℕ). l ++ b ∷ left) (append-nil (type_text t)) in
    let next = λ (r : Ended). option_or (option_map (λ (rest : List ℕ). (rest, r.1)) (closed r.0)) (members_at one n r.0 r.1) in
    let m = bind_some (one types p) next end e in
    let first = sound.0 (b ∷ left) p m.0 fits (sym (ap (λ (l : List ℕ). one l p) grouped) ∙ m.1) in
    let shut : closed m.0.0 ≡ Some left = ap closed first.left_is ∙ ap (λ (v : Bool). cond v (Some left) None) close in
    let end_is : (left, m.0.1) ≡ end = cc (sym (ap (λ (o : Option (List ℕ)). option_or (option_map (λ (rest : List ℕ). (rest, m.0.1)) o) (members_at one n m.0.0 m.0.1)) shut) ∙ m.2) in
    record {
      left_is = sym (ap (λ (r : Ended). r.0) end_is);
      value = first.value;
      takes = subst (λ (r : Place). Takes p first.value r) (ap (λ (r : Ended). r.1) end_is) first.takes;
      is = (first.value, [], sym (append-nil first.value), first.is, refl);
    }
members_take one P b a s left close (suc n) t (more u us) p end sound good fits e =
    let goods = and_parts (is_type false u a s) (are_types us a s) good in
    let after = (type_text u ++ types_text us) ++ b ∷ left in
    let types = (type_text t ++ (type_text u ++ types_text us)) ++ b ∷ left in
    let grouped : types ≡ type_text t ++ after = append_assoc (type_text t) (type_text u ++ types_text us) (b ∷ left) in
    let after_is : after ≡ type_text u ++ (types_text us ++ b ∷ left) = append_assoc (type_text u) (types_text us) (b ∷ left) in
    let next = λ (r : Ended). option_or (option_map (λ (rest : List ℕ). (rest, r.1)) (closed r.0)) (members_at one n r.0 r.1) in
    let m = bind_some (one types p) next end e in
    let first = sound.0 after p m.0 fits (sym (ap (λ (l : List ℕ). one l p) grouped) ∙ m.1) in
    let unclosed : closed m.0.0 ≡ None = ap closed (first.left_is ∙ after_is) ∙ not_closed false u a s (types_text us ++ b ∷ left) goods.0 in
    let goes_on : members_at one n after m.0.1 ≡ Some end = sym (ap (λ (l : List ℕ). members_at one n l m.0.1) first.left_is) ∙ sym (ap (λ (o : Option (List ℕ)). option_or (option_map (λ (rest : List ℕ). (rest, m.0.1)) o) (members_at one n m.0.0 m.0.1)) unclosed) ∙ m.2 in
    let fits_rest = (Takes-bytes p m.0.1 first.value fits first.takes).1 in
    let others = members_take one P b a s left close n u us m.0.1 end sound.1 goods.1 fits_rest goes_on in
    record {
      left_is = others.left_is;
      value = first.value ++ others.value;
      takes = Takes-then p m.0.1 end.1 first.value others.value first.takes others.takes;
      is = (first.value, others.value, refl, first.is, subst (λ (k : ℕ). AreMembers P (more u us) k others.value) first.takes.at others.is);
    }

-- ---- containers

-- the alignment of a type by the first code of its text
pub first_alignment : (t : Ty) (left : List ℕ) → (c : ℕ) × (more_types : List ℕ) × (first_of (type_text t ++ left) ≡ Some (c, more_types)) × (alignment c ≡ type_alignment t)
first_alignment (basic c) left = (c, left, refl, refl)
first_alignment variant left = (118, left, refl, refl)
first_alignment (array t) left = (97, type_text t ++ left, refl, refl)
first_alignment (struct t ts) left = (40, ((type_text t ++ types_text ts) ++ 41 ∷ []) ++ left, refl, refl)
first_alignment (entry key t) left = (123, key ∷ ((type_text t ++ 125 ∷ []) ++ left), refl, refl)

pub array_head_takes : (little : Bool) (t : Ty) (left : List ℕ) (p : Place) (n : ℕ) (q : Place) → IsBytes p.rest → array_head_at little (type_text t ++ left) p ≡ Some (n, q) → Takes p (array_head little (type_alignment t) p.at n) q × (n ≤ MOST_ARRAY_BYTES)
unfolding array_head_at
array_head_takes little t left p n q fits e =
    let types = type_text t ++ left in
    let code = first_alignment t left in
    let a = bind_some (number_at little p) (λ k. first_of types >>= λ c. aligned_at (alignment c.0) k.1 >>= λ r. cond (ltb MOST_ARRAY_BYTES k.0) None (Some (k.0, r))) (n, q) e in
    let b = bind_some (first_of types) (λ c. aligned_at (alignment c.0) a.0.1 >>= λ r. cond (ltb MOST_ARRAY_BYTES a.0.0) None (Some (a.0.0, r))) (n, q) a.2 in
    let d = bind_some (aligned_at (alignment b.0.0) a.0.1) (λ r. cond (ltb MOST_ARRAY_BYTES a.0.0) None (Some (a.0.0, r))) (n, q) b.2 in
    let g = none_if (ltb MOST_ARRAY_BYTES a.0.0) (a.0.0, d.0) (n, q) d.2 in
    let count = number_takes little p a.0.0 a.0.1 fits a.1 in
    let n_is : a.0.0 ≡ n = ap (λ (r : ℕ × Place). r.0) g.1 in
    let q_is : d.0 ≡ q = ap (λ (r : ℕ × Place). r.1) g.1 in
    let head = zeros 4 p.at ++ number_bytes little n in
    let head_is : count.0 ≡ head = count.2.spelled ∙ ap (λ (k : ℕ). zeros 4 p.at ++ number_bytes little k) n_is in
    let code_is : b.0.0 ≡ code.0 = (some_pair_parts b.0.0 code.0 b.0.1 code.1 (sym b.1 ∙ code.2)).0 in
    let align_is : alignment b.0.0 ≡ type_alignment t = ap alignment code_is ∙ code.3 in
    let at_is : a.0.1.at ≡ p.at + length head = count.1.at ∙ ap (λ (l : List ℕ). p.at + length l) head_is in
    let after = aligned_takes (alignment b.0.0) a.0.1 d.0 d.1 in
    let pad_is : zeros (alignment b.0.0) a.0.1.at ≡ zeros (type_alignment t) (p.at + length head) = ap (λ (k : ℕ). zeros k a.0.1.at) align_is ∙ ap (λ (k : ℕ). zeros (type_alignment t) k) at_is in
    let whole = Takes-then p a.0.1 d.0 head (zeros (type_alignment t) (p.at + length head)) (subst (λ (l : List ℕ). Takes p l a.0.1) head_is count.1) (subst (λ (l : List ℕ). Takes a.0.1 l d.0) pad_is after) in
    (subst (λ (r : Place). Takes p (array_head little (type_alignment t) p.at n) r) q_is whole, subst (λ (k : ℕ). k ≤ MOST_ARRAY_BYTES) n_is (ltb-false _ _ g.0))

-- what one reads elements with, and how an empty array's type is skipped
array_takes : (little : Bool) (one : List ℕ → Place → Option Ended) (P : ℕ → List ℕ → Type 0) (t : Ty) (left : List ℕ) → SoundAt one (type_text t ++ left) left P → element_after whole_type_after (type_text t ++ left) ≡ Some left → SoundAt (array_at little one) (type_text t ++ left) left (IsArray little (type_alignment t) P)
unfolding array_at
array_takes little one P t left sound skipped p end fits e =
    let types = type_text t ++ left in
    let a = bind_some (array_head_at little types p) (λ h. bytes_at h.0 h.1 >>= λ body. array_type_after one types h.1.at body.0 >>= λ rest. Some (rest, body.1)) end e in
    let b = bind_some (bytes_at a.0.0 a.0.1) (λ body. array_type_after one types a.0.1.at body.0 >>= λ rest. Some (rest, body.1)) end a.2 in
    let d = bind_some (array_type_after one types a.0.1.at b.0.0) (λ rest. Some (rest, b.0.1)) end b.2 in
    let end_is : (d.0, b.0.1) ≡ end = cc (d.2) in
    let head = array_head_takes little t left p a.0.0 a.0.1 fits a.1 in
    let body = bytes_takes a.0.0 a.0.1 b.0.0 b.0.1 b.1 in
    let fits_head = (Takes-bytes p a.0.1 (array_head little (type_alignment t) p.at a.0.0) fits head.0).1 in
    let fits_body = (Takes-bytes a.0.1 b.0.1 b.0.0 fits_head body.0).0 in
    let bytes = array_head little (type_alignment t) p.at a.0.0 ++ b.0.0 in
    let whole = Takes-then p a.0.1 b.0.1 (array_head little (type_alignment t) p.at a.0.0) b.0.0 head.0 body.0 in
    let row : EndsRow P (place a.0.1.at b.0.0) left d.0 =
    elim (chosen (eqb (length b.0.0) 0) (element_after whole_type_after types) (elements_at one (length b.0.0) types (place a.0.1.at b.0.0)) (Some d.0) d.1) [
      | inl g ↦ record {
        left_is = cc (sym g.1 ∙ skipped);
        elements = [];
        parts = nil_from_length b.0.0 (eqb-true _ _ g.0);
        each = tt;
      }
      | inr g ↦ elements_take one types left P sound (length b.0.0) (place a.0.1.at b.0.0) d.0 fits_body g.1
    ] in
    let count_is : a.0.0 ≡ length (concat row.elements) = sym body.1 ∙ ap (λ (l : List ℕ). length l) row.parts in
    let head_is : array_head little (type_alignment t) p.at a.0.0 ≡ array_head little (type_alignment t) p.at (length (concat row.elements)) = ap (array_head little (type_alignment t) p.at) count_is in
    record {
      left_is = sym (ap (λ (r : Ended). r.0) end_is) ∙ row.left_is;
      value = bytes;
      takes = subst (λ (r : Place). Takes p bytes r) (ap (λ (r : Ended). r.1) end_is) whole;
      is = record {
        elements = row.elements;
        fits = subst (λ (k : ℕ). k ≤ MOST_ARRAY_BYTES) count_is head.1;
        spelled = ap (λ (l : List ℕ). l ++ b.0.0) head_is ∙ ap (λ (l : List ℕ). array_head little (type_alignment t) p.at (length (concat row.elements)) ++ l) row.parts;
        each = subst (λ (k : ℕ). AreInRow P k row.elements) (head.0.at ∙ ap (λ (l : List ℕ). p.at + length l) head_is) row.each;
      };
    }

struct_takes : (one : List ℕ → Place → Option Ended) (P : Ty → ℕ → List ℕ → Type 0) (b a s : ℕ) (t : Ty) (ts : Tys) (left : List ℕ) → closing b → SoundAll one P (more t ts) → are_types ts a s ≡ true → SoundAt (struct_at one) ((type_text t ++ types_text ts) ++ b ∷ left) left (IsStruct P (more t ts))
unfolding struct_at
struct_takes one P b a s t ts left close sound good p end fits e =
    let types = (type_text t ++ types_text ts) ++ b ∷ left in
    let m = bind_some (aligned_at 8 p) (λ q. members_at one (length types) types q) end e in
    let before = aligned_takes 8 p m.0 m.1 in
    let fits_rest = (Takes-bytes p m.0 (zeros 8 p.at) fits before).1 in
    let members = members_take one P b a s left close (length types) t ts m.0 end sound good fits_rest m.2 in
    record {
      left_is = members.left_is;
      value = zeros 8 p.at ++ members.value;
      takes = Takes-then p m.0 end.1 (zeros 8 p.at) members.value before members.takes;
      is = record {
        members = members.value;
        spelled = refl;
        each = subst (λ (k : ℕ). AreMembers P (more t ts) k members.value) before.at members.is;
      };
    }

pub variant_type_takes : (p : Place) (text : List ℕ) (q : Place) → IsBytes p.rest → variant_type_at p ≡ Some (text, q) → (t : Ty) × (x : List ℕ) × Takes p x q × IsTypeText t x × (text ≡ type_text t)
unfolding variant_type_at
variant_type_takes p text q fits e =
    let a = bind_some (byte_at p) (λ n. bytes_at n.0 n.1 >>= λ types. byte_at types.1 >>= λ end. cond (eqb end.0 0 && is_one_type types.0) (Some (types.0, end.1)) None) (text, q) e in
    let b = bind_some (bytes_at a.0.0 a.0.1) (λ types. byte_at types.1 >>= λ end. cond (eqb end.0 0 && is_one_type types.0) (Some (types.0, end.1)) None) (text, q) a.2 in
    let d = bind_some (byte_at b.0.1) (λ end. cond (eqb end.0 0 && is_one_type b.0.0) (Some (b.0.0, end.1)) None) (text, q) b.2 in
    let g = cond_some (eqb d.0.0 0 && is_one_type b.0.0) (b.0.0, d.0.1) (text, q) d.2 in
    let tests = and_parts (eqb d.0.0 0) (is_one_type b.0.0) g.0 in
    let text_is : b.0.0 ≡ text = ap (λ (r : List ℕ × Place). r.0) g.1 in
    let q_is : d.0.1 ≡ q = ap (λ (r : List ℕ × Place). r.1) g.1 in
    let held = complete_takes b.0.0 tests.1 in
    let count = byte_takes p a.0.0 a.0.1 a.1 in
    let types = bytes_takes a.0.0 a.0.1 b.0.0 b.0.1 b.1 in
    let end = byte_takes b.0.1 d.0.0 d.0.1 d.1 in
    let tail = Takes-then a.0.1 b.0.1 d.0.1 b.0.0 (d.0.0 ∷ []) types.0 end in
    let whole = Takes-then p a.0.1 d.0.1 (a.0.0 ∷ []) (b.0.0 ++ d.0.0 ∷ []) count tail in
    let bytes = a.0.0 ∷ (b.0.0 ++ d.0.0 ∷ []) in
    let count_fits = (Takes-bytes p a.0.1 (a.0.0 ∷ []) fits count).0 0 in
    let count_is : a.0.0 ≡ length (type_text held.0) = sym types.1 ∙ ap (λ (l : List ℕ). length l) held.2 in (
      held.0,
      bytes,
      subst (λ (r : Place). Takes p bytes r) q_is whole,
      record {
        complete = held.1;
        fits = subst (λ (k : ℕ). k < 256) count_is count_fits;
        spelled = ap (λ (k : ℕ). k ∷ (b.0.0 ++ d.0.0 ∷ [])) count_is ∙ ap (λ (l : List ℕ). length (type_text held.0) ∷ (l ++ d.0.0 ∷ [])) held.2 ∙ ap (λ (c : ℕ). length (type_text held.0) ∷ (type_text held.0 ++ c ∷ [])) (eqb-true _ _ tests.0);
      },
      sym text_is ∙ held.2,
    )

variant_takes : (one : List ℕ → Place → Option Ended) (P : Ty → ℕ → List ℕ → Type 0) → ((t : Ty) → is_type false t MOST_ARRAYS MOST_STRUCTS ≡ true → SoundAt one (type_text t) [] (P t)) → (p q : Place) → IsBytes p.rest → variant_at one p ≡ Some q → Spells (IsVariant P) p q
unfolding variant_at
variant_takes one P sound p q fits e =
    let a = bind_some (variant_type_at p) (λ types. one types.0 types.1 >>= λ r. Some r.1) q e in
    let b = bind_some (one a.0.0 a.0.1) (λ r. Some r.1) q a.2 in
    let q_is : b.0.1 ≡ q = cc (b.2) in
    let types = variant_type_takes p a.0.0 a.0.1 fits a.1 in
    let fits_rest = (Takes-bytes p a.0.1 types.1 fits types.2).1 in
    let value = sound types.0 types.3.complete a.0.1 b.0 fits_rest (sym (ap (λ (l : List ℕ). one l a.0.1) types.4) ∙ b.1) in
    record {
      value = types.1 ++ value.value;
      takes = subst (λ (r : Place). Takes p (types.1 ++ value.value) r) q_is (Takes-then p a.0.1 b.0.1 types.1 value.value types.2 value.takes);
      is = record {
        held = types.0;
        text = types.1;
        value = value.value;
        typed = types.3;
        spelled = refl;
        holds = subst (λ (k : ℕ). P types.0 k value.value) types.2.at value.is;
      };
    }

-- ---- all values

-- a type is one under wider limits too
mutual
  pub wider : (t : Ty) (e : Bool) (a s x y : ℕ) → a ≤ x → s ≤ y → is_type e t a s ≡ true → is_type e t x y ≡ true
  wider (basic c) e a s x y la ls good = good
  wider variant e a s x y la ls good = good
  wider (array t) e a s x y la ls good =
      let goods = and_parts (ltb 0 a) (is_type true t (a - 1) s) good in
      let some = ltb-true 0 a goods.0 in
      and_from (ltb 0 x) (is_type true t (x - 1) y) (lt-ltb 0 x (omega arith)) (wider t true (a - 1) s (x - 1) y (omega arith) ls goods.1)
  wider (struct t ts) e a s x y la ls good =
      let goods = and_parts (ltb 0 s && is_type false t a (s - 1)) (are_types ts a (s - 1)) good in
      let firsts = and_parts (ltb 0 s) (is_type false t a (s - 1)) goods.0 in
      let some = ltb-true 0 s firsts.0 in
      let first = and_from (ltb 0 y) (is_type false t x (y - 1)) (lt-ltb 0 y (omega arith)) (wider t false a (s - 1) x (y - 1) la (omega arith) firsts.1) in
      and_from (ltb 0 y && is_type false t x (y - 1)) (are_types ts x (y - 1)) first (wider_all ts a (s - 1) x (y - 1) la (omega arith) goods.1)
  wider (entry key t) e a s x y la ls good =
      let goods = and_parts (e && is_basic key) (is_type false t a s) good in
      and_from (e && is_basic key) (is_type false t x y) goods.0 (wider t false a s x y la ls goods.1)

  wider_all : (ts : Tys) (a s x y : ℕ) → a ≤ x → s ≤ y → are_types ts a s ≡ true → are_types ts x y ≡ true
  wider_all none a s x y la ls good = refl
  wider_all (more t ts) a s x y la ls good =
      let goods = and_parts (is_type false t a s) (are_types ts a s) good in
      and_from (is_type false t x y) (are_types ts x y) (wider t false a s x y la ls goods.0) (wider_all ts a s x y la ls goods.1)

-- what holds of the values within
abbrev Inner : Bool → ℕ → Type 0
Inner little all = (a s : ℕ) (t : Ty) (e : Bool) (x y : ℕ) (left : List ℕ) → is_type e t x y ≡ true → x ≤ MOST_ARRAYS → y ≤ MOST_STRUCTS → SoundAt (value_at little all a s) (type_text t ++ left) left (IsValue little all a s t)

inner_all : (little : Bool) (all : ℕ) → Inner little all → (a s : ℕ) (ts : Tys) (x y : ℕ) → are_types ts x y ≡ true → x ≤ MOST_ARRAYS → y ≤ MOST_STRUCTS → SoundAll (value_at little all a s) (IsValue little all a s) ts
inner_all little all ih a s none x y good lx ly = tt
inner_all little all ih a s (more t ts) x y good lx ly =
    let goods = and_parts (is_type false t x y) (are_types ts x y) good in
    (λ left. ih a s t false x y left goods.0 lx ly, inner_all little all ih a s ts x y goods.1 lx ly)

pub shuts_struct : closing 41
unfolding closing
shuts_struct = refl

pub shuts_entry : closing 125
unfolding closing
shuts_entry = refl

has_room : (b : Bool) (x : Option Ended) (end : Ended) → cond b None x ≡ Some end → (b ≡ false) × (x ≡ Some end)
has_room true x end e = absurd cc
has_room false x end e = (refl, e)

pub less_one : (n : ℕ) → suc n - 1 ≡ n
less_one n = omega arith

basic_value : (little : Bool) (all a s c : ℕ) (inner : ℕ → ℕ → List ℕ → Place → Option Ended) (left : List ℕ) (p : Place) (end : Ended) → is_basic c ≡ true → IsBytes p.rest → value_step little all a s inner (c ∷ left) p ≡ Some end → Ends (IsBasic little c) p left end
basic_value little all a s c inner left p end good fits e =
    let simple : option_map (λ q. (left, q)) (basic_at little c p) ≡ Some end = rw (basic_apart c 97 good refl, basic_apart c 40 good refl, basic_apart c 123 good refl, basic_apart c 118 good refl) at e in
    let b = map_some (basic_at little c p) (λ q. (left, q)) end simple in
    let x = basic_takes little c p b.0 fits b.1 in
    record {
      left_is = sym (ap (λ (r : Ended). r.0) b.2);
      value = x.value;
      takes = subst (λ (r : Place). Takes p x.value r) (ap (λ (r : Ended). r.1) b.2) x.takes;
      is = x.is;
    }

pub value_takes : (little : Bool) (all : ℕ) → Inner little all
unfolding value_at
value_takes little zero a s (basic c) e x y left good lx ly p end fits h = basic_value little zero a s c (λ _ _ _ _. None) left p end good fits h
value_takes little zero a s variant e x y left good lx ly p end fits h = absurd cc
value_takes little zero a s (array t) e x y left good lx ly p end fits h = absurd cc
value_takes little zero a s (struct t ts) e x y left good lx ly p end fits h = absurd cc
value_takes little zero a s (entry key t) e x y left good lx ly p end fits h = absurd cc
value_takes little (suc all) a s (basic c) e x y left good lx ly p end fits h = basic_value little (suc all) a s c (value_at little all) left p end good fits h
value_takes little (suc all) a s variant e x y left good lx ly p end fits h =
    let one = value_at little all a s in
    let P = IsValue little all a s in
    let room = has_room (eqb (suc all) 0) (option_map (λ q. (left, q)) (variant_at one p)) end h in
    let m = map_some (variant_at one p) (λ q. (left, q)) end room.1 in
    let sound = λ (u : Ty) (complete : is_type false u MOST_ARRAYS MOST_STRUCTS ≡ true). subst (λ (l : List ℕ). SoundAt one l [] (P u)) (append-nil (type_text u)) (value_takes little all a s u false MOST_ARRAYS MOST_STRUCTS [] complete (omega arith) (omega arith)) in
    let v = variant_takes one P sound p m.0 fits m.1 in
    record {
      left_is = sym (ap (λ (r : Ended). r.0) m.2);
      value = v.value;
      takes = subst (λ (r : Place). Takes p v.value r) (ap (λ (r : Ended). r.1) m.2) v.takes;
      is = v.is;
    }
value_takes little (suc all) zero s (array t) e x y left good lx ly p end fits h =
    let room = has_room (eqb (suc all) 0 || eqb zero 0) (array_at little (value_at little all (zero - 1) s) (type_text t ++ left) p) end h in
    absurd (false≢true (sym (or_parts (eqb (suc all) 0) (eqb zero 0) room.0).1))
value_takes little (suc all) (suc a) s (array t) e x y left good lx ly p end fits h =
    let goods = and_parts (ltb 0 x) (is_type true t (x - 1) y) good in
    let read : array_at little (value_at little all a s) (type_text t ++ left) p ≡ Some end = subst (λ (n : ℕ). array_at little (value_at little all n s) (type_text t ++ left) p ≡ Some end) (less_one a) (has_room (eqb (suc all) 0 || eqb (suc a) 0) (array_at little (value_at little all (suc a - 1) s) (type_text t ++ left) p) end h).1 in
    let skipped = element_skipped t left (wider t true (x - 1) y MOST_ARRAYS MOST_STRUCTS (omega arith) ly goods.1) in
    array_takes little (value_at little all a s) (IsValue little all a s t) t left (value_takes little all a s t true (x - 1) y left goods.1 (omega arith) ly) skipped p end fits read
value_takes little (suc all) a zero (struct t ts) e x y left good lx ly p end fits h =
    let types = ((type_text t ++ types_text ts) ++ 41 ∷ []) ++ left in
    let room = has_room (eqb (suc all) 0 || eqb zero 0) (struct_at (value_at little all a (zero - 1)) types p) end h in
    absurd (false≢true (sym (or_parts (eqb (suc all) 0) (eqb zero 0) room.0).1))
value_takes little (suc all) a (suc s) (struct t ts) e x y left good lx ly p end fits h =
    let goods = and_parts (ltb 0 y && is_type false t x (y - 1)) (are_types ts x (y - 1)) good in
    let firsts = and_parts (ltb 0 y) (is_type false t x (y - 1)) goods.0 in
    let texts = type_text t ++ types_text ts in
    let types = (texts ++ 41 ∷ []) ++ left in
    let grouped : types ≡ texts ++ 41 ∷ left = append_assoc texts (41 ∷ []) left in
    let read : struct_at (value_at little all a s) types p ≡ Some end = subst (λ (n : ℕ). struct_at (value_at little all a n) types p ≡ Some end) (less_one s) (has_room (eqb (suc all) 0 || eqb (suc s) 0) (struct_at (value_at little all a (suc s - 1)) types p) end h).1 in
    let all_good = and_from (is_type false t x (y - 1)) (are_types ts x (y - 1)) firsts.1 goods.1 in
    let members = inner_all little all (value_takes little all) a s (more t ts) x (y - 1) all_good lx (omega arith) in
    struct_takes (value_at little all a s) (IsValue little all a s) 41 x (y - 1) t ts left shuts_struct members goods.1 p end fits (sym (ap (λ (l : List ℕ). struct_at (value_at little all a s) l p) grouped) ∙ read)
value_takes little (suc all) a s (entry key t) e x y left good lx ly p end fits h =
    let goods = and_parts (e && is_basic key) (is_type false t x y) good in
    let keys = and_parts e (is_basic key) goods.0 in
    let types = key ∷ ((type_text t ++ 125 ∷ []) ++ left) in
    let grouped : types ≡ (type_text (basic key) ++ types_text (more t none)) ++ 125 ∷ left =
    ap (λ (l : List ℕ). key ∷ l) (append_assoc (type_text t) (125 ∷ []) left ∙ ap (λ (l : List ℕ). l ++ 125 ∷ left) (sym (append-nil (type_text t)))) in
    let all_good = and_from (is_basic key) (is_type false t x y && true) keys.1 (and_from (is_type false t x y) true goods.1 refl) in
    let members = inner_all little all (value_takes little all) a s (more (basic key) (more t none)) x y all_good lx ly in
    struct_takes (value_at little all a s) (IsValue little all a s) 125 x y (basic key) (more t none) left shuts_entry members (and_from (is_type false t x y) true goods.1 refl) p end fits (sym (ap (λ (l : List ℕ). struct_at (value_at little all a s) l p) grouped) ∙ (has_room (eqb (suc all) 0) (struct_at (value_at little all a s) types p) end h).1)
