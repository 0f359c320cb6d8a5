-- Signatures, step by step.
use Rattle.std.proofs.Common.{◌≡◌, ℕ, zero, suc, pred, ◌+◌, ◌-◌, ◌<◌, ◌≤◌, Bool, true, false, List, [], ◌∷◌, length, Option, Some, None, option_map, option_and_then, unwrap_or, refl, sym, ap, ap₂, ◌∙◌, subst, arith}
use Rattle.std.proofs.lemmas.Option.{same_Some}
use Rattle.gv_value.specs.declared.limits.TheConstants.{MOST_OPEN}
use Rattle.gv_value.specs.declared.sign.Sign.{Sign}
use Rattle.gv_value.specs.declared.sign.Sign.TheVariants as signs
use Rattle.std.proofs.lemmas.Bool.{and_parts}
use Rattle.gv_value.specs.declared.basic.Basic.{Basic}
use Rattle.gv_value.specs.declared.basic.Basic.TheVariants as basics
use Rattle.gv_value.specs.Bytes.{AllBelow}
use Rattle.gv_value.specs.Signs.{sign_at, basic_letter, letter_of}
use Rattle.gv_value.specs.Texts.{After, after_entry_close, after_key, after_element, after_member, after_members, after_array, after_struct, after_sign, after_type, are_types, is_signature}
use Rattle.gv_value.proofs.Lists.{then_some}
use Rattle.gv_value.proofs.TypeLaws.{sign_takes}

-- ---- what stands before what follows

abbrev pub Leads : (List ℕ → List ℕ → Type 0) → After → Type 0
Leads R one = (text rest : List ℕ) → one text ≡ Some rest → R text rest

closes : (s : Sign) (text rest : List ℕ) → after_entry_close s text ≡ Some rest → text ≡ rest
closes signs.EntryClose text rest e = same_Some text rest e
closes (signs.Basic b) text rest e = absurd cc
closes signs.Variant text rest e = absurd cc
closes signs.Array text rest e = absurd cc
closes signs.Maybe text rest e = absurd cc
closes signs.TupleOpen text rest e = absurd cc
closes signs.TupleClose text rest e = absurd cc
closes signs.EntryOpen text rest e = absurd cc

-- a relation that holds over each sign, and over two steps where it holds over each
module _ (R : List ℕ → List ℕ → Type 0) (step : (text : List ℕ) (s : Sign) (rest : List ℕ) → sign_at text ≡ Some (s, rest) → R text rest)
    (both_ways : (a b c : List ℕ) → R a b → R b c → R a c) where
  module _ (one : After) (leads : Leads R one) where
    key-leads : (s : Sign) (text rest : List ℕ) → after_key one s text ≡ Some rest → R text rest
    key-leads (signs.Basic b) text rest e =
        let a = then_some (λ r. option_and_then (λ p. after_entry_close p.0 p.1) (sign_at r)) (one text) rest e in
        let c = then_some (λ p. after_entry_close p.0 p.1) (sign_at a.0) rest a.2 in
        both_ways text a.0 rest (leads text a.0 a.1) (subst (R a.0) (closes c.0.0 c.0.1 rest c.2) (step a.0 c.0.0 c.0.1 c.1))
    key-leads signs.Variant text rest e = absurd cc
    key-leads signs.Array text rest e = absurd cc
    key-leads signs.Maybe text rest e = absurd cc
    key-leads signs.TupleOpen text rest e = absurd cc
    key-leads signs.TupleClose text rest e = absurd cc
    key-leads signs.EntryOpen text rest e = absurd cc
    key-leads signs.EntryClose text rest e = absurd cc

    element-leads : (text : List ℕ) (s : Sign) (remainder rest : List ℕ) → R text remainder → after_element one text s remainder ≡ Some rest → R text rest
    element-leads text signs.EntryOpen remainder rest h e =
        let a = then_some (λ p. after_key one p.0 p.1) (sign_at remainder) rest e in
        both_ways text remainder rest h (both_ways remainder a.0.1 rest (step remainder a.0.0 a.0.1 a.1) (key-leads a.0.0 a.0.1 rest a.2))
    element-leads text (signs.Basic b) remainder rest h e = leads text rest e
    element-leads text signs.Variant remainder rest h e = leads text rest e
    element-leads text signs.Array remainder rest h e = leads text rest e
    element-leads text signs.Maybe remainder rest h e = leads text rest e
    element-leads text signs.TupleOpen remainder rest h e = leads text rest e
    element-leads text signs.TupleClose remainder rest h e = leads text rest e
    element-leads text signs.EntryClose remainder rest h e = leads text rest e

    member-leads : (more : After) → Leads R more → (text : List ℕ) (s : Sign) (remainder rest : List ℕ) → R text remainder → after_member more text s remainder ≡ Some rest → R text rest
    member-leads more others text signs.TupleClose remainder rest h e = subst (R text) (same_Some remainder rest e) h
    member-leads more others text (signs.Basic b) remainder rest h e = others text rest e
    member-leads more others text signs.Variant remainder rest h e = others text rest e
    member-leads more others text signs.Array remainder rest h e = others text rest e
    member-leads more others text signs.Maybe remainder rest h e = others text rest e
    member-leads more others text signs.TupleOpen remainder rest h e = others text rest e
    member-leads more others text signs.EntryOpen remainder rest h e = others text rest e
    member-leads more others text signs.EntryClose remainder rest h e = others text rest e

    members-lead : (n : ℕ) → Leads R (after_members one n)
    members-lead zero text rest e = absurd cc
    members-lead (suc n) text rest e =
        let a = then_some (λ r. option_and_then (λ p. after_member (after_members one n) r p.0 p.1) (sign_at r)) (one text) rest e in
        let c = then_some (λ p. after_member (after_members one n) a.0 p.0 p.1) (sign_at a.0) rest a.2 in
        both_ways text a.0 rest (leads text a.0 a.1) (member-leads (after_members one n) (members-lead n) a.0 c.0.0 c.0.1 rest (step a.0 c.0.0 c.0.1 c.1) c.2)

    array-leads : (arrays : ℕ) → Leads R (after_array arrays one)
    array-leads zero text rest e = absurd cc
    array-leads (suc arrays) text rest e =
        let a = then_some (λ p. after_element one text p.0 p.1) (sign_at text) rest e in
        element-leads text a.0.0 a.0.1 rest (step text a.0.0 a.0.1 a.1) a.2

    struct-leads : (structs : ℕ) → Leads R (after_struct structs one)
    struct-leads zero text rest e = absurd cc
    struct-leads (suc structs) text rest e = members-lead (length text) text rest e

  sign-leads : (element members : After) → Leads R element → Leads R members → (whole : List ℕ) (s : Sign) (text rest : List ℕ) → R whole text → after_sign element members s text ≡ Some rest → R whole rest
  sign-leads element members p q whole (signs.Basic b) text rest h e = subst (R whole) (same_Some text rest e) h
  sign-leads element members p q whole signs.Variant text rest h e = subst (R whole) (same_Some text rest e) h
  sign-leads element members p q whole signs.Array text rest h e = both_ways whole text rest h (p text rest e)
  sign-leads element members p q whole signs.TupleOpen text rest h e = both_ways whole text rest h (q text rest e)
  sign-leads element members p q whole signs.Maybe text rest h e = absurd cc
  sign-leads element members p q whole signs.TupleClose text rest h e = absurd cc
  sign-leads element members p q whole signs.EntryOpen text rest h e = absurd cc
  sign-leads element members p q whole signs.EntryClose text rest h e = absurd cc

  none_leads : Leads R (λ _. None)
  none_leads text rest e = absurd cc

  pub type-leads : (both arrays structs : ℕ) → Leads R (after_type both arrays structs)
  type-leads zero arrays structs text rest e =
      let a = then_some (λ p. after_sign (λ _. None) (λ _. None) p.0 p.1) (sign_at text) rest e in
      sign-leads (λ _. None) (λ _. None) none_leads none_leads text a.0.0 a.0.1 rest (step text a.0.0 a.0.1 a.1) a.2
  type-leads (suc both) arrays structs text rest e =
      let element = after_array arrays (after_type both (pred arrays) structs) in
      let members = after_struct structs (after_type both arrays (pred structs)) in
      let a = then_some (λ p. after_sign element members p.0 p.1) (sign_at text) rest e in
      sign-leads element members (array-leads (after_type both (pred arrays) structs) (type-leads both (pred arrays) structs) arrays)
      (struct-leads (after_type both arrays (pred structs)) (type-leads both arrays (pred structs)) structs) text a.0.0 a.0.1 rest (step text a.0.0 a.0.1 a.1) a.2

-- what follows is shorter

abbrev pub Shorter : List ℕ → List ℕ → Type 0
Shorter text rest = length rest < length text

abbrev pub IsShorter : After → Type 0
IsShorter = Leads Shorter

sign-shorter : (text : List ℕ) (s : Sign) (rest : List ℕ) → sign_at text ≡ Some (s, rest) → Shorter text rest
sign-shorter text s rest e = omega (arith, ap length (sign_takes text s rest e))

pub type-shorter : (both arrays structs : ℕ) → IsShorter (after_type both arrays structs)
type-shorter = type-leads Shorter sign-shorter (λ a b c p q. omega (arith, p, q))

-- what stands before it is ASCII

abbrev pub ThenAscii : List ℕ → List ℕ → Type 0
ThenAscii text rest = AllBelow 128 rest → AllBelow 128 text

letter-ascii : (s : Sign) → letter_of s < 128
letter-ascii (signs.Basic b) = basic-ascii b
  where
    basic-ascii : (x : Basic) → basic_letter x < 128
    basic-ascii basics.Bool = omega arith
    basic-ascii basics.Byte = omega arith
    basic-ascii basics.Int16 = omega arith
    basic-ascii basics.Uint16 = omega arith
    basic-ascii basics.Int32 = omega arith
    basic-ascii basics.Uint32 = omega arith
    basic-ascii basics.Int64 = omega arith
    basic-ascii basics.Uint64 = omega arith
    basic-ascii basics.Handle = omega arith
    basic-ascii basics.Double = omega arith
    basic-ascii basics.Str = omega arith
    basic-ascii basics.ObjectPath = omega arith
    basic-ascii basics.Signature = omega arith
letter-ascii signs.Variant = omega arith
letter-ascii signs.Array = omega arith
letter-ascii signs.Maybe = omega arith
letter-ascii signs.TupleOpen = omega arith
letter-ascii signs.TupleClose = omega arith
letter-ascii signs.EntryOpen = omega arith
letter-ascii signs.EntryClose = omega arith

sign-ascii : (text : List ℕ) (s : Sign) (rest : List ℕ) → sign_at text ≡ Some (s, rest) → ThenAscii text rest
sign-ascii text s rest e h = subst (AllBelow 128) (sym (sign_takes text s rest e)) (letter-ascii s, h)

type-ascii : (both arrays structs : ℕ) → Leads ThenAscii (after_type both arrays structs)
type-ascii = type-leads ThenAscii sign-ascii (λ a b c p q h. p (q h))

types-ascii : (one : After) → Leads ThenAscii one → (n : ℕ) (text : List ℕ) → are_types one n text ≡ true → AllBelow 128 text
types-ascii one leads n [] e = tt
types-ascii one leads zero (c ∷ cs) e = absurd cc
types-ascii one leads (suc n) (c ∷ cs) e = by (λ rest. types-ascii one leads n rest) (one (c ∷ cs)) refl e
  where
    by : ((rest : List ℕ) → are_types one n rest ≡ true → AllBelow 128 rest) → (o : Option (List ℕ)) → one (c ∷ cs) ≡ o →
        unwrap_or (option_map (are_types one n) o) false ≡ true → AllBelow 128 (c ∷ cs)
    by more None is h = absurd cc
    by more (Some rest) is h = leads (c ∷ cs) rest is (more rest h)

pub signature-ascii : (text : List ℕ) → is_signature text ≡ true → AllBelow 128 text
signature-ascii text e = types-ascii (after_type (MOST_OPEN + MOST_OPEN) MOST_OPEN MOST_OPEN) (type-ascii (MOST_OPEN + MOST_OPEN) MOST_OPEN MOST_OPEN) (length text) text (and_parts _ _ e).1

-- ---- one type

after_sign-same : (element members element' members' : After) (s : Sign) (rest : List ℕ) → element rest ≡ element' rest → members rest ≡ members' rest →
    after_sign element members s rest ≡ after_sign element' members' s rest
after_sign-same element members element' members' signs.Array rest p q = p
after_sign-same element members element' members' signs.TupleOpen rest p q = q
after_sign-same element members element' members' (signs.Basic b) rest p q = refl
after_sign-same element members element' members' signs.Variant rest p q = refl
after_sign-same element members element' members' signs.Maybe rest p q = refl
after_sign-same element members element' members' signs.TupleClose rest p q = refl
after_sign-same element members element' members' signs.EntryOpen rest p q = refl
after_sign-same element members element' members' signs.EntryClose rest p q = refl

array_none : (arrays : ℕ) (one : After) (rest : List ℕ) → arrays ≡ 0 → None ≡ after_array arrays one rest
array_none zero one rest e = refl
array_none (suc a) one rest e = absurd (omega arith)

struct_none : (structs : ℕ) (one : After) (rest : List ℕ) → structs ≡ 0 → None ≡ after_struct structs one rest
struct_none zero one rest e = refl
struct_none (suc b) one rest e = absurd (omega arith)

array_same : (both arrays structs : ℕ) (rest : List ℕ) → arrays + structs ≡ suc both →
    after_array arrays (after_type both (pred arrays) structs) rest ≡ after_array arrays (after_type (arrays - 1 + structs) (arrays - 1) structs) rest
array_same both zero structs rest e = refl
array_same both (suc a) structs rest e =
    let less : a ≡ suc a - 1 = omega arith in
    let sum : both ≡ suc a - 1 + structs = omega arith in
    ap₂ (λ (m k : ℕ). after_array (suc a) (after_type m k structs) rest) sum less

struct_same : (both arrays structs : ℕ) (rest : List ℕ) → arrays + structs ≡ suc both →
    after_struct structs (after_type both arrays (pred structs)) rest ≡ after_struct structs (after_type (arrays + (structs - 1)) arrays (structs - 1)) rest
struct_same both arrays zero rest e = refl
struct_same both arrays (suc b) rest e =
    let less : b ≡ suc b - 1 = omega arith in
    let sum : both ≡ arrays + (suc b - 1) = omega arith in
    ap₂ (λ (m k : ℕ). after_struct (suc b) (after_type m arrays k) rest) sum less

abbrev pub elements : ℕ → ℕ → After
elements arrays structs = after_array arrays (after_type (arrays - 1 + structs) (arrays - 1) structs)

abbrev pub structures : ℕ → ℕ → After
structures arrays structs = after_struct structs (after_type (arrays + (structs - 1)) arrays (structs - 1))

after_type-at : (n arrays structs : ℕ) (text : List ℕ) (s : Sign) (rest : List ℕ) → arrays + structs ≡ n → sign_at text ≡ Some (s, rest) →
    after_type n arrays structs text ≡ after_sign (elements arrays structs) (structures arrays structs) s rest
after_type-at zero arrays structs text s rest h e =
    ap (option_and_then (λ p. after_sign (λ _. None) (λ _. None) p.0 p.1)) e
    ∙ after_sign-same (λ _. None) (λ _. None) (elements arrays structs) (structures arrays structs) s rest
    (array_none arrays (after_type (arrays - 1 + structs) (arrays - 1) structs) rest (omega arith))
    (struct_none structs (after_type (arrays + (structs - 1)) arrays (structs - 1)) rest (omega arith))
after_type-at (suc both) arrays structs text s rest h e =
    let element = after_array arrays (after_type both (pred arrays) structs) in
    let members = after_struct structs (after_type both arrays (pred structs)) in
    ap (option_and_then (λ p. after_sign element members p.0 p.1)) e
    ∙ after_sign-same element members (elements arrays structs) (structures arrays structs) s rest (array_same both arrays structs rest h) (struct_same both arrays structs rest h)

-- what follows a type, by its sign
pub after_type-is : (arrays structs : ℕ) (text : List ℕ) (s : Sign) (rest : List ℕ) → sign_at text ≡ Some (s, rest) →
    after_type (arrays + structs) arrays structs text ≡ after_sign (elements arrays structs) (structures arrays structs) s rest
after_type-is arrays structs text s rest e = after_type-at (arrays + structs) arrays structs text s rest refl e

-- ---- members and types, one after the other

module _ (one : After) (shorter : IsShorter one) where
  pub member_closes : (n : ℕ) (left next rest : List ℕ) → length left ≤ n → one left ≡ Some next → sign_at next ≡ Some (signs.TupleClose, rest) → after_members one n left ≡ Some rest
  member_closes zero left next rest h e s = absurd (omega (arith, shorter left next e))
  member_closes (suc n) left next rest h e s =
      ap (option_and_then (λ r. option_and_then (λ p. after_member (after_members one n) r p.0 p.1) (sign_at r))) e
      ∙ ap (option_and_then (λ p. after_member (after_members one n) next p.0 p.1)) s

  pub member_goes : (n : ℕ) (left next : List ℕ) (s : Sign) (rest : List ℕ) → length left ≤ n → one left ≡ Some next → sign_at next ≡ Some (s, rest) → (s ≡ signs.TupleClose → ⊥) →
      after_members one n left ≡ after_members one (n - 1) next
  member_goes zero left next s rest h e sign other = absurd (omega (arith, shorter left next e))
  member_goes (suc n) left next s rest h e sign other =
      let less : n ≡ suc n - 1 = omega arith in
      ap (option_and_then (λ r. option_and_then (λ p. after_member (after_members one n) r p.0 p.1) (sign_at r))) e
      ∙ ap (option_and_then (λ p. after_member (after_members one n) next p.0 p.1)) sign ∙ goes_on s other ∙ ap (λ (m : ℕ). after_members one m next) less
    where
      goes_on : (x : Sign) → (x ≡ signs.TupleClose → ⊥) → after_member (after_members one n) next x rest ≡ after_members one n next
      goes_on signs.TupleClose h = absurd (h refl)
      goes_on (signs.Basic b) h = refl
      goes_on signs.Variant h = refl
      goes_on signs.Array h = refl
      goes_on signs.Maybe h = refl
      goes_on signs.TupleOpen h = refl
      goes_on signs.EntryOpen h = refl
      goes_on signs.EntryClose h = refl

  pub type_goes : (n : ℕ) (left next : List ℕ) → length left ≤ n → one left ≡ Some next → are_types one n left ≡ are_types one (n - 1) next
  type_goes n [] next h e = absurd (omega (arith, shorter [] next e))
  type_goes zero (c ∷ left) next h e = absurd (omega arith)
  type_goes (suc n) (c ∷ left) next h e =
      let less : n ≡ suc n - 1 = omega arith in
      ap (λ (o : Option (List ℕ)). unwrap_or (option_map (are_types one n) o) false) e ∙ ap (λ (m : ℕ). are_types one m next) less

  pub type_stops : (n : ℕ) (left : List ℕ) → 0 < length left → one left ≡ None → are_types one n left ≡ false
  type_stops n [] h e = absurd (omega arith)
  type_stops zero (c ∷ left) h e = refl
  type_stops (suc n) (c ∷ left) h e = ap (λ (o : Option (List ℕ)). unwrap_or (option_map (are_types one n) o) false) e

pub array_some : (arrays : ℕ) (one : After) (text : List ℕ) → (arrays ≡ 0 → ⊥) → after_array arrays one text ≡ option_and_then (λ p. after_element one text p.0 p.1) (sign_at text)
array_some zero one text h = absurd (h refl)
array_some (suc a) one text h = refl
