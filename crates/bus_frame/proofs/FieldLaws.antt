-- A field that is read is a field, and a field is read.
use Rattle.std.proofs.Common.{◌≡◌, ℕ, zero, suc, ◌+◌, ◌-◌, ◌<◌, ◌≤◌, Bool, true, false, cond, eqb, ltb, List, [], ◌∷◌, ◌++◌, length, Option, Some, None, refl, sym, ap, subst, ◌∙◌, append_assoc, inl, inr, arith}
use Rattle.std.specs.Prelude.{◌&&◌, ◌||◌, ◌⊎◌, option_map}
use Rattle.std.proofs.lemmas.Bool.{eqb-true, eqb-false, eq-eqb, ne_eqb, or_cases, cases_Bool, false≢true, or_parts}
use Rattle.std.proofs.lemmas.Option.{some_pair_parts}
use Rattle.std.proofs.lemmas.List.{length-append, append-nil}
use Rattle.bus_frame.specs.declared.limits.TheConstants.{MOST_CONTAINERS, MOST_ARRAYS, MOST_STRUCTS}
use Rattle.bus_frame.specs.Steps.{first_of}
use Rattle.fp_base.specs.Steps.{◌>>=◌}
use Rattle.bus_frame.specs.Types.{Ty, Tys, basic, variant, array, struct, entry, none, more, type_text, types_text, is_basic, is_type}
use Rattle.bus_frame.specs.Places.{Place, byte_at, aligned_at, number_at, long_text_at, short_text_at}
use Rattle.bus_frame.specs.Values.{Ended, value_at, variant_type_at}
use Rattle.bus_frame.specs.Fields.{Content, word, number, other, Field, content_at, field_at}
use Rattle.bus_frame.specs.Writing.{zeros}
use Rattle.bus_frame.specs.Grammar.{IsNumber, IsLongText, IsShortText, IsValue, IsTypeText, is_telling, IsContent, IsField}
use Rattle.bus_frame.proofs.Taking.{place, Takes, Takes-then, bind_some, bind_is, byte_takes, byte_again, aligned_takes, aligned_again}
use Rattle.bus_frame.proofs.Spelled.{IsBytes, Takes-bytes, number_takes, number_again, long_text_takes, long_text_again, short_text_takes, short_text_again}
use Rattle.bus_frame.proofs.TypeLaws.{chosen}
use Rattle.bus_frame.proofs.ValueTakes.{map_some, variant_type_takes, value_takes}
use Rattle.bus_frame.proofs.ValueAgain.{map_is, remainder_both, at_yes, at_no, variant_type_again, value_again}

-- ---- what a type begins with

abbrev tag : Ty → ℕ
tag (basic c) = c
tag variant = 118
tag (array t) = 97
tag (struct t ts) = 40
tag (entry key t) = 123

abbrev tail : Ty → List ℕ
tail (basic c) = []
tail variant = []
tail (array t) = type_text t
tail (struct t ts) = (type_text t ++ types_text ts) ++ 41 ∷ []
tail (entry key t) = key ∷ (type_text t ++ 125 ∷ [])

text_first : (t : Ty) → first_of (type_text t) ≡ Some (tag t, tail t)
text_first (basic c) = refl
text_first variant = refl
text_first (array t) = refl
text_first (struct t ts) = refl
text_first (entry key t) = refl

not_basic : (c k : ℕ) → is_basic c ≡ false → eqb c k ≡ true → is_basic k ≡ true → ⊥
not_basic c k other_c e basic_k = false≢true (sym other_c ∙ ap is_basic (eqb-true c k e) ∙ basic_k)

-- only the basic type begins with a basic code
begins : (t : Ty) (k : ℕ) → eqb (tag t) k ≡ true → is_basic k ≡ true → t ≡ basic k
begins (basic c) k e good = ap basic (eqb-true c k e)
begins variant k e good = absurd (not_basic 118 k refl e good)
begins (array t) k e good = absurd (not_basic 97 k refl e good)
begins (struct t ts) k e good = absurd (not_basic 40 k refl e good)
begins (entry key t) k e good = absurd (not_basic 123 k refl e good)

tells_nothing : (t : Ty) → (eqb (tag t) 115 || eqb (tag t) 111) ≡ false → eqb (tag t) 103 ≡ false → eqb (tag t) 117 ≡ false → is_telling t ≡ false
tells_nothing (basic c) a b d = rw (a, b) d
tells_nothing variant a b d = refl
tells_nothing (array t) a b d = refl
tells_nothing (struct t ts) a b d = refl
tells_nothing (entry key t) a b d = refl

telling_parts : (t : Ty) → is_telling t ≡ false → ((eqb (tag t) 115 || eqb (tag t) 111) ≡ false) × (eqb (tag t) 103 ≡ false) × (eqb (tag t) 117 ≡ false)
telling_parts (basic c) e =
    let last = or_parts ((eqb c 115 || eqb c 111) || eqb c 103) (eqb c 117) e in
    let first = or_parts (eqb c 115 || eqb c 111) (eqb c 103) last.0 in
    (first.0, first.1, last.1)
telling_parts variant e = (refl, refl, refl)
telling_parts (array t) e = (refl, refl, refl)
telling_parts (struct t ts) e = (refl, refl, refl)
telling_parts (entry key t) e = (refl, refl, refl)

-- ---- contents

abbrev as_word : ℕ → List ℕ × Place → Content × Place
as_word code t = (word code t.0, t.1)

abbrev as_number : ℕ × Place → Content × Place
as_number n = (number n.0, n.1)

abbrev as_other : Ended → Content × Place
as_other r = (other, r.1)

abbrev other_end : Bool → List ℕ → Place → Option (Content × Place)
other_end little types p = option_map as_other (value_at little (MOST_CONTAINERS - 1) MOST_ARRAYS MOST_STRUCTS types p)

abbrev number_end : ℕ → Bool → List ℕ → Place → Option (Content × Place)
number_end code little types p = cond (eqb code 117) (option_map as_number (number_at little p)) (other_end little types p)

abbrev short_end : ℕ → Bool → List ℕ → Place → Option (Content × Place)
short_end code little types p = cond (eqb code 103) (option_map (as_word code) (short_text_at p)) (number_end code little types p)

abbrev long_end : ℕ → Bool → List ℕ → Place → Option (Content × Place)
long_end code little types p = cond (eqb code 115 || eqb code 111) (option_map (as_word code) (long_text_at little p)) (short_end code little types p)

at_content : (little : Bool) (p : Place) (t : Ty) → content_at little (type_text t) p ≡ long_end (tag t) little (type_text t) p
unfolding content_at
at_content little p t = bind_is (first_of (type_text t)) (λ code. long_end code.0 little (type_text t) p) (tag t, tail t) (text_first t)

-- what is read spells a content
pub record Says (little : Bool) (t : Ty) (p : Place) (c : Content) (q : Place) : Type 0 where
  pub value : List ℕ
  pub takes : Takes p value q
  pub is : IsContent little t p.at c value

module _ (little : Bool) (t : Ty) (p : Place) (c : Content) (q : Place) (fits : IsBytes p.rest) where
  long_says : (eqb (tag t) 115 || eqb (tag t) 111) ≡ true → option_map (as_word (tag t)) (long_text_at little p) ≡ Some (c, q) → Says little t p c q
  long_says g e =
      let k = tag t in
      let x = map_some (long_text_at little p) (as_word k) (c, q) e in
      let v = long_text_takes little p x.0.0 x.0.1 fits x.1 in
      let c_is : word k x.0.0 ≡ c = ap (λ (r : Content × Place). r.0) x.2 in
      let q_is : x.0.1 ≡ q = ap (λ (r : Content × Place). r.1) x.2 in
      let kind : (t ≡ basic k) × ((k ≡ 115) ⊎ (k ≡ 111)) =
      elim (or_cases (eqb k 115) (eqb k 111) g) [
        | inl a ↦ let is = eqb-true k 115 a in (begins t 115 a refl ∙ ap basic (sym is), inl is)
        | inr a ↦ let is = eqb-true k 111 a in (begins t 111 a refl ∙ ap basic (sym is), inr is)
      ] in
      record {
        value = v.0;
        takes = subst (λ (r : Place). Takes p v.0 r) q_is v.1;
        is = subst (λ (d : Content). IsContent little t p.at d v.0) c_is (inl (kind.0, kind.1, v.2));
      }

  short_says : eqb (tag t) 103 ≡ true → option_map (as_word (tag t)) (short_text_at p) ≡ Some (c, q) → Says little t p c q
  short_says g e =
      let k = tag t in
      let x = map_some (short_text_at p) (as_word k) (c, q) e in
      let v = short_text_takes p x.0.0 x.0.1 fits x.1 in
      let c_is : word k x.0.0 ≡ c = ap (λ (r : Content × Place). r.0) x.2 in
      let q_is : x.0.1 ≡ q = ap (λ (r : Content × Place). r.1) x.2 in
      let code_is = eqb-true k 103 g in
      let type_is : t ≡ basic k = begins t 103 g refl ∙ ap basic (sym code_is) in
      record {
        value = v.0;
        takes = subst (λ (r : Place). Takes p v.0 r) q_is v.1;
        is = subst (λ (d : Content). IsContent little t p.at d v.0) c_is (inr (type_is, code_is, v.2));
      }

  number_says : eqb (tag t) 117 ≡ true → option_map as_number (number_at little p) ≡ Some (c, q) → Says little t p c q
  number_says g e =
      let x = map_some (number_at little p) as_number (c, q) e in
      let v = number_takes little p x.0.0 x.0.1 fits x.1 in
      let c_is : number x.0.0 ≡ c = ap (λ (r : Content × Place). r.0) x.2 in
      let q_is : x.0.1 ≡ q = ap (λ (r : Content × Place). r.1) x.2 in
      record {
        value = v.0;
        takes = subst (λ (r : Place). Takes p v.0 r) q_is v.1;
        is = subst (λ (d : Content). IsContent little t p.at d v.0) c_is (begins t 117 g refl, v.2);
      }

  other_says : is_type false t MOST_ARRAYS MOST_STRUCTS ≡ true → is_telling t ≡ false → other_end little (type_text t) p ≡ Some (c, q) → Says little t p c q
  other_says complete silent e =
      let x = map_some (value_at little (MOST_CONTAINERS - 1) MOST_ARRAYS MOST_STRUCTS (type_text t) p) as_other (c, q) e in
      let c_is : other ≡ c = ap (λ (r : Content × Place). r.0) x.2 in
      let q_is : x.0.1 ≡ q = ap (λ (r : Content × Place). r.1) x.2 in
      let read : value_at little (MOST_CONTAINERS - 1) MOST_ARRAYS MOST_STRUCTS (type_text t ++ []) p ≡ Some x.0 = ap (λ (l : List ℕ). value_at little (MOST_CONTAINERS - 1) MOST_ARRAYS MOST_STRUCTS l p) (append-nil (type_text t)) ∙ x.1 in
      let v = value_takes little (MOST_CONTAINERS - 1) MOST_ARRAYS MOST_STRUCTS t false MOST_ARRAYS MOST_STRUCTS [] complete (omega arith) (omega arith) p x.0 fits read in
      record {
        value = v.value;
        takes = subst (λ (r : Place). Takes p v.value r) q_is v.takes;
        is = subst (λ (d : Content). IsContent little t p.at d v.value) c_is (silent, v.is);
      }

  content_takes : is_type false t MOST_ARRAYS MOST_STRUCTS ≡ true → content_at little (type_text t) p ≡ Some (c, q) → Says little t p c q
  content_takes complete e =
      let k = tag t in
      let types = type_text t in
      elim (chosen (eqb k 115 || eqb k 111) (option_map (as_word k) (long_text_at little p)) (short_end k little types p) (Some (c, q)) (sym (at_content little p t) ∙ e)) [
        | inl g ↦ long_says g.0 g.1
        | inr g ↦
            elim (chosen (eqb k 103) (option_map (as_word k) (short_text_at p)) (number_end k little types p) (Some (c, q)) g.1) [
              | inl h ↦ short_says h.0 h.1
              | inr h ↦
                  elim (chosen (eqb k 117) (option_map as_number (number_at little p)) (other_end little types p) (Some (c, q)) h.1) [
                    | inl l ↦ number_says l.0 l.1
                    | inr l ↦ other_says complete (tells_nothing t g.0 h.0 l.0) l.1
                  ]
            ]
      ]

at_long : (little : Bool) (p : Place) (code : ℕ) (types : List ℕ) → (eqb code 115 || eqb code 111) ≡ true → long_end code little types p ≡ option_map (as_word code) (long_text_at little p)
at_long little p code types e = at_yes (eqb code 115 || eqb code 111) (option_map (as_word code) (long_text_at little p)) (short_end code little types p) e

at_short : (little : Bool) (p : Place) (code : ℕ) (types : List ℕ) → (eqb code 115 || eqb code 111) ≡ false → long_end code little types p ≡ short_end code little types p
at_short little p code types e = at_no (eqb code 115 || eqb code 111) (option_map (as_word code) (long_text_at little p)) (short_end code little types p) e

pub content_again : (little : Bool) (t : Ty) (p : Place) (c : Content) (v rest : List ℕ) → is_type false t MOST_ARRAYS MOST_STRUCTS ≡ true → p.rest ≡ v ++ rest → IsContent little t p.at c v → content_at little (type_text t) p ≡ Some (c, place (p.at + length v) rest)
content_again little t p (word code text) v rest complete parts (inl is) =
    let q = place (p.at + length v) rest in
    let read = map_is (long_text_at little p) (as_word code) (text, q) (long_text_again little p text v rest parts is.2) in
    let test : (eqb code 115 || eqb code 111) ≡ true =
    elim is.1 [
      | inl e ↦ ap (λ (k : ℕ). eqb k 115 || eqb k 111) e
      | inr e ↦ ap (λ (k : ℕ). eqb k 115 || eqb k 111) e
    ] in
    ap (λ (u : Ty). content_at little (type_text u) p) is.0 ∙ at_content little p (basic code) ∙ at_long little p code (code ∷ []) test ∙ read
content_again little t p (word code text) v rest complete parts (inr is) =
    let q = place (p.at + length v) rest in
    let read = map_is (short_text_at p) (as_word code) (text, q) (short_text_again p text v rest parts is.2) in
    let long_test : (eqb code 115 || eqb code 111) ≡ false = ap (λ (k : ℕ). eqb k 115 || eqb k 111) is.1 in
    let short_test : eqb code 103 ≡ true = ap (λ (k : ℕ). eqb k 103) is.1 in
    ap (λ (u : Ty). content_at little (type_text u) p) is.0 ∙ at_content little p (basic code) ∙ at_short little p code (code ∷ []) long_test
    ∙ at_yes (eqb code 103) (option_map (as_word code) (short_text_at p)) (number_end code little (code ∷ []) p) short_test ∙ read
content_again little t p (number n) v rest complete parts is =
    let q = place (p.at + length v) rest in
    let read = map_is (number_at little p) as_number (n, q) (number_again little p n v rest parts is.1) in
    ap (λ (u : Ty). content_at little (type_text u) p) is.0 ∙ at_content little p (basic 117) ∙ read
content_again little t p other v rest complete parts is =
    let q = place (p.at + length v) rest in
    let k = tag t in
    let types = type_text t in
    let tests = telling_parts t is.0 in
    let value : value_at little (MOST_CONTAINERS - 1) MOST_ARRAYS MOST_STRUCTS types p ≡ Some ([], q) = ap (λ (l : List ℕ). value_at little (MOST_CONTAINERS - 1) MOST_ARRAYS MOST_STRUCTS l p) (sym (append-nil types)) ∙ value_again little (MOST_CONTAINERS - 1) MOST_ARRAYS MOST_STRUCTS t false MOST_ARRAYS MOST_STRUCTS [] complete (omega arith) (omega arith) p v rest parts is.1 in
    at_content little p t ∙ at_short little p k types tests.0
    ∙ at_no (eqb k 103) (option_map (as_word k) (short_text_at p)) (number_end k little types p) tests.1
    ∙ at_no (eqb k 117) (option_map as_number (number_at little p)) (other_end little types p) tests.2
    ∙ map_is (value_at little (MOST_CONTAINERS - 1) MOST_ARRAYS MOST_STRUCTS types p) as_other ([], q) value

-- ---- fields

pub field_takes : (little : Bool) (p : Place) (f : Field) (q : Place) → IsBytes p.rest → field_at little p ≡ Some (f, q) → (x : List ℕ) × Takes p x q × IsField little p.at f x
unfolding field_at
field_takes little p f q fits e =
    let a = bind_some (aligned_at 8 p) (λ r. byte_at r >>= λ code. variant_type_at code.1 >>= λ types. content_at little types.0 types.1 >>= λ content. Some (record { code = code.0; content = content.0 }, content.1)) (f, q) e in
    let b = bind_some (byte_at a.0) (λ code. variant_type_at code.1 >>= λ types. content_at little types.0 types.1 >>= λ content. Some (record { code = code.0; content = content.0 }, content.1)) (f, q) a.2 in
    let d = bind_some (variant_type_at b.0.1) (λ types. content_at little types.0 types.1 >>= λ content. Some (record { code = b.0.0; content = content.0 }, content.1)) (f, q) b.2 in
    let g = bind_some (content_at little d.0.0 d.0.1) (λ content. Some (record { code = b.0.0; content = content.0 }, content.1)) (f, q) d.2 in
    let before = aligned_takes 8 p a.0 a.1 in
    let fits_a = (Takes-bytes p a.0 (zeros 8 p.at) fits before).1 in
    let code = byte_takes a.0 b.0.0 b.0.1 b.1 in
    let fits_b = (Takes-bytes a.0 b.0.1 (b.0.0 ∷ []) fits_a code).1 in
    let types = variant_type_takes b.0.1 d.0.0 d.0.1 fits_b d.1 in
    let fits_d = (Takes-bytes b.0.1 d.0.1 types.1 fits_b types.2).1 in
    let text_is : d.0.0 ≡ type_text types.0 = types.4 in
    let says = content_takes little types.0 d.0.1 g.0.0 g.0.1 fits_d types.3.complete (sym (ap (λ (l : List ℕ). content_at little l d.0.1) text_is) ∙ g.1) in
    let head = zeros 8 p.at ++ b.0.0 ∷ types.1 in
    let to_value = Takes-then p a.0 d.0.1 (zeros 8 p.at) (b.0.0 ∷ types.1) before (Takes-then a.0 b.0.1 d.0.1 (b.0.0 ∷ []) types.1 code types.2) in
    let whole = Takes-then p d.0.1 g.0.1 head says.value to_value says.takes in
    let made : Field × Place = (record { code = b.0.0; content = g.0.0 }, g.0.1) in
    let made_is : made ≡ (f, q) = cc (g.2) in
    subst (λ (r : Field × Place). (x : List ℕ) × Takes p x r.1 × IsField little p.at r.0 x) made_is (
      head ++ says.value,
      whole,
      record {
        held = types.0;
        text = types.1;
        value = says.value;
        typed = types.3;
        spelled = refl;
        says = subst (λ (k : ℕ). IsContent little types.0 k g.0.0 says.value) to_value.at says.is;
      },
    )

pub field_again : (little : Bool) (p : Place) (f : Field) (x rest : List ℕ) → p.rest ≡ x ++ rest → IsField little p.at f x → field_at little p ≡ Some (f, place (p.at + length x) rest)
unfolding field_at
field_again little p f x rest parts is =
    let z = zeros 8 p.at in
    let head = z ++ f.code ∷ is.text in
    let later = is.value ++ rest in
    let to_value : p.rest ≡ head ++ later = parts ∙ ap (λ (l : List ℕ). l ++ rest) is.spelled ∙ append_assoc head is.value rest in
    let grouped : p.rest ≡ z ++ (f.code ∷ (is.text ++ later)) = to_value ∙ append_assoc z (f.code ∷ is.text) later in
    let q1 = place (p.at + length z) (f.code ∷ (is.text ++ later)) in
    let q2 = place ((p.at + length z) + 1) (is.text ++ later) in
    let q3 = place (((p.at + length z) + 1) + length is.text) later in
    let q4 = place (p.at + length head) later in
    let q5 = place ((p.at + length head) + length is.value) rest in
    let same : q3 ≡ q4 = ap (λ (k : ℕ). place k later) (omega (arith, length-append z (f.code ∷ is.text))) in
    let types : variant_type_at q2 ≡ Some (type_text is.held, q4) = variant_type_again q2 is.held is.text later refl is.typed ∙ ap (λ (r : Place). Some (type_text is.held, r)) same in
    let content = content_again little is.held q4 f.content is.value rest is.typed.complete refl is.says in
    bind_is (aligned_at 8 p) (λ r. byte_at r >>= λ code. variant_type_at code.1 >>= λ types. content_at little types.0 types.1 >>= λ c. Some (record { code = code.0; content = c.0 }, c.1)) q1 (aligned_again 8 p (f.code ∷ (is.text ++ later)) grouped)
    ∙ bind_is (byte_at q1) (λ code. variant_type_at code.1 >>= λ types. content_at little types.0 types.1 >>= λ c. Some (record { code = code.0; content = c.0 }, c.1)) (f.code, q2) (byte_again q1 f.code (is.text ++ later) refl)
    ∙ bind_is (variant_type_at q2) (λ types. content_at little types.0 types.1 >>= λ c. Some (record { code = f.code; content = c.0 }, c.1)) (type_text is.held, q4) types
    ∙ bind_is (content_at little (type_text is.held) q4) (λ c. Some (record { code = f.code; content = c.0 }, c.1)) (f.content, q5) content
    ∙ ap (λ (r : Place). Some (f, r)) (remainder_both p.at head is.value x rest is.spelled)
