-- A type string and its type: what is read is spelled so, and what is spelled so is read.
use Rattle.std.proofs.Common.{◌≡◌, ℕ, zero, suc, ◌+◌, ◌<◌, ◌≤◌, Bool, true, false, cond, ◌&&◌, ◌||◌, eqb, List, [], ◌∷◌, ◌++◌, length, Option, Some, None, option_map, option_and_then, refl, sym, ap, ◌∙◌, subst, arith, append_assoc, append-nil, length-append}
use Rattle.std.proofs.lemmas.Bool.{eqb-true, and_parts, and_from, or_parts, or_from}
use Rattle.gv_value.specs.declared.limits.TheConstants.{MOST_DEPTH}
use Rattle.gv_value.specs.declared.basic.Basic.{Basic}
use Rattle.gv_value.specs.declared.basic.Basic.TheVariants as basics
use Rattle.gv_value.specs.declared.sign.Sign.{Sign}
use Rattle.gv_value.specs.declared.sign.Sign.TheVariants as signs
use Rattle.gv_value.specs.Shape.{Shape, basic, variant, array, maybe, tuple, entry, Shapes, no_shapes, shape, is_basic, all_shapes, nests_within, is_type}
use Rattle.gv_value.specs.Signs.{letter_of, sign_among, all_signs, sign_of, sign_at}
use Rattle.gv_value.specs.Texts.{has_zero}
use Rattle.gv_value.specs.TypeText.{type_text, type_texts, TypeReader, type_map, members_from, members_at, entry_closed, entry_from, type_from, flat_type, type_at, if_whole, type_of}
use Rattle.gv_value.specs.Reading.{parted_with, parted}
use Rattle.gv_value.proofs.Lists.{then_some, map_some}

-- ---- letters

pub sign_of-letter : (s : Sign) → sign_of (letter_of s) ≡ Some s
sign_of-letter (signs.Basic basics.Bool) = refl
sign_of-letter (signs.Basic basics.Byte) = refl
sign_of-letter (signs.Basic basics.Int16) = refl
sign_of-letter (signs.Basic basics.Uint16) = refl
sign_of-letter (signs.Basic basics.Int32) = refl
sign_of-letter (signs.Basic basics.Uint32) = refl
sign_of-letter (signs.Basic basics.Int64) = refl
sign_of-letter (signs.Basic basics.Uint64) = refl
sign_of-letter (signs.Basic basics.Handle) = refl
sign_of-letter (signs.Basic basics.Double) = refl
sign_of-letter (signs.Basic basics.Str) = refl
sign_of-letter (signs.Basic basics.ObjectPath) = refl
sign_of-letter (signs.Basic basics.Signature) = refl
sign_of-letter signs.Variant = refl
sign_of-letter signs.Array = refl
sign_of-letter signs.Maybe = refl
sign_of-letter signs.TupleOpen = refl
sign_of-letter signs.TupleClose = refl
sign_of-letter signs.EntryOpen = refl
sign_of-letter signs.EntryClose = refl

pub sign_at-letter : (s : Sign) (rest : List ℕ) → sign_at (letter_of s ∷ rest) ≡ Some (s, rest)
sign_at-letter s rest = ap (option_map (λ x. (x, rest))) (sign_of-letter s)

letter-here : (letter : ℕ) (x s : Sign) (o : Option Sign) (b : Bool) → eqb letter (letter_of x) ≡ b → (o ≡ Some s → letter ≡ letter_of s) →
    cond b (Some x) o ≡ Some s → letter ≡ letter_of s
letter-here letter x s o true test later h = let is : x ≡ s = cc in eqb-true letter (letter_of x) test ∙ ap letter_of is
letter-here letter x s o false test later h = later h

letter-among : (letter : ℕ) (ss : List Sign) (s : Sign) → sign_among letter ss ≡ Some s → letter ≡ letter_of s
letter-among letter [] s e = absurd cc
letter-among letter (x ∷ ss) s e =
    letter-here letter x s (sign_among letter ss) (eqb letter (letter_of x)) refl (letter-among letter ss s) e

pub letter-sign : (letter : ℕ) (s : Sign) → sign_of letter ≡ Some s → letter ≡ letter_of s
letter-sign letter s e = letter-among letter all_signs s e

-- what a sign is taken from
pub sign_takes : (text : List ℕ) (s : Sign) (rest : List ℕ) → sign_at text ≡ Some (s, rest) → text ≡ letter_of s ∷ rest
sign_takes [] s rest e = absurd cc
sign_takes (letter ∷ others) s rest e =
    let m = map_some (λ x. (x, others)) (sign_of letter) (s, rest) e in
    let sign : m.0 ≡ s = ap (λ (p : Sign × List ℕ). p.0) m.2 in
    let left : others ≡ rest = ap (λ (p : Sign × List ℕ). p.1) m.2 in
    ap (λ (l : ℕ). l ∷ others) (letter-sign letter m.0 m.1 ∙ ap letter_of sign) ∙ ap (λ (xs : List ℕ). letter_of s ∷ xs) left

-- ---- what is spelled is read again

-- a type begins with a sign that is no closing bracket
abbrev pub opens : Sign → Bool
opens signs.TupleClose = false
opens _ = true

record Begins (text : List ℕ) : Type 0 where
  sign : Sign
  rest : List ℕ
  is : text ≡ letter_of sign ∷ rest
  open_sign : opens sign ≡ true

type_begins : (t : Shape) → Begins (type_text t)
type_begins (basic b) = record { sign = signs.Basic b; rest = []; is = refl; open_sign = refl }
type_begins variant = record { sign = signs.Variant; rest = []; is = refl; open_sign = refl }
type_begins (array t) = record { sign = signs.Array; rest = type_text t; is = refl; open_sign = refl }
type_begins (maybe t) = record { sign = signs.Maybe; rest = type_text t; is = refl; open_sign = refl }
type_begins (tuple ts) = record { sign = signs.TupleOpen; rest = type_texts ts ++ letter_of signs.TupleClose ∷ []; is = refl; open_sign = refl }
type_begins (entry k v) = record { sign = signs.EntryOpen; rest = type_text k ++ (type_text v ++ letter_of signs.EntryClose ∷ []); is = refl; open_sign = refl }

pub members_from-open : (one : TypeReader) (more : List ℕ → Option (Shapes × List ℕ)) (text : List ℕ) (s : Sign) (rest : List ℕ) → opens s ≡ true →
    members_from one more text s rest ≡ option_and_then (λ p. type_map (shape p.0) (more p.1)) (one text)
members_from-open one more text (signs.Basic b) rest h = refl
members_from-open one more text signs.Variant rest h = refl
members_from-open one more text signs.Array rest h = refl
members_from-open one more text signs.Maybe rest h = refl
members_from-open one more text signs.TupleOpen rest h = refl
members_from-open one more text signs.TupleClose rest h = absurd cc
members_from-open one more text signs.EntryOpen rest h = refl
members_from-open one more text signs.EntryClose rest h = refl

-- where a type stands at the front, it is the first member
members_at-type : (one : TypeReader) (n : ℕ) (t : Shape) (rest : List ℕ) → one (type_text t ++ rest) ≡ Some (t, rest) →
    members_at one (suc n) (type_text t ++ rest) ≡ type_map (shape t) (members_at one n rest)
members_at-type one n t rest e =
    let b = type_begins t in
    let text = type_text t ++ rest in
    let first : text ≡ letter_of b.sign ∷ (b.rest ++ rest) = ap (λ (xs : List ℕ). xs ++ rest) b.is in
    let sign : sign_at text ≡ Some (b.sign, b.rest ++ rest) = ap sign_at first ∙ sign_at-letter b.sign (b.rest ++ rest) in
    ap (option_and_then (λ p. members_from one (members_at one n) text p.0 p.1)) sign
    ∙ members_from-open one (members_at one n) text b.sign (b.rest ++ rest) b.open_sign
    ∙ ap (option_and_then (λ p. type_map (shape p.0) (members_at one n p.1))) e

pub length-type : (t : Shape) → 0 < length (type_text t)
length-type t = let b = type_begins t in omega (arith, ap length b.is)

module _ (one : TypeReader) (n : ℕ) (again : (t : Shape) (rest : List ℕ) → nests_within n t ≡ true → one (type_text t ++ rest) ≡ Some (t, rest)) where
  members_again : (fuel : ℕ) (ts : Shapes) (rest : List ℕ) → length (type_texts ts ++ letter_of signs.TupleClose ∷ rest) ≤ fuel →
      all_shapes (nests_within n) ts ≡ true → members_at one fuel (type_texts ts ++ letter_of signs.TupleClose ∷ rest) ≡ Some (ts, rest)
  members_again zero no_shapes rest h fits = absurd (omega arith)
  members_again (suc fuel) no_shapes rest h fits = refl
  members_again zero (shape t ts) rest h fits =
      let more = type_texts ts ++ letter_of signs.TupleClose ∷ rest in
      absurd (omega (arith, length-type t, length-append (type_text t) (type_texts ts), length-append (type_text t ++ type_texts ts) (letter_of signs.TupleClose ∷ rest)))
  members_again (suc fuel) (shape t ts) rest h fits =
      let p = and_parts (nests_within n t) (all_shapes (nests_within n) ts) fits in
      let more = type_texts ts ++ letter_of signs.TupleClose ∷ rest in
      let grouped : type_texts (shape t ts) ++ letter_of signs.TupleClose ∷ rest ≡ type_text t ++ more = append_assoc (type_text t) (type_texts ts) (letter_of signs.TupleClose ∷ rest) in
      let short : length more ≤ fuel = omega (arith, length-type t, ap length grouped, length-append (type_text t) more) in
      ap (members_at one (suc fuel)) grouped ∙ members_at-type one fuel t more (again t more p.0)
      ∙ ap (type_map (shape t)) (members_again fuel ts rest short p.1)

  entry_again : (k v : Shape) (rest : List ℕ) → is_basic k ≡ true → nests_within n v ≡ true →
      option_and_then (λ p. entry_from one p.0 p.1) (sign_at ((type_text k ++ (type_text v ++ letter_of signs.EntryClose ∷ [])) ++ rest)) ≡ Some (entry k v, rest)
  entry_again (basic b) v rest key fits =
      let remainder = letter_of signs.EntryClose ∷ rest in
      let grouped : (type_text v ++ letter_of signs.EntryClose ∷ []) ++ rest ≡ type_text v ++ remainder = append_assoc (type_text v) (letter_of signs.EntryClose ∷ []) rest in
      ap (option_and_then (λ p. entry_from one p.0 p.1)) (sign_at-letter (signs.Basic b) ((type_text v ++ letter_of signs.EntryClose ∷ []) ++ rest))
      ∙ ap (λ (xs : List ℕ). option_and_then (λ x. option_and_then (λ p. entry_closed (entry (basic b) x.0) p.0 p.1) (sign_at x.1)) (one xs)) grouped
      ∙ ap (option_and_then (λ x. option_and_then (λ p. entry_closed (entry (basic b) x.0) p.0 p.1) (sign_at x.1))) (again v remainder fits)
  entry_again variant v rest key fits = absurd cc
  entry_again (array t) v rest key fits = absurd cc
  entry_again (maybe t) v rest key fits = absurd cc
  entry_again (tuple ts) v rest key fits = absurd cc
  entry_again (entry k w) v rest key fits = absurd cc

pub type_again : (n : ℕ) (t : Shape) (rest : List ℕ) → nests_within n t ≡ true → type_at n (type_text t ++ rest) ≡ Some (t, rest)
type_again zero (basic b) rest h = ap (option_and_then (λ p. flat_type p.0 p.1)) (sign_at-letter (signs.Basic b) rest)
type_again (suc n) (basic b) rest h = ap (option_and_then (λ p. type_from (type_at n) p.0 p.1)) (sign_at-letter (signs.Basic b) rest)
type_again (suc n) variant rest h = refl
type_again (suc n) (array t) rest h = ap (type_map array) (type_again n t rest h)
type_again (suc n) (maybe t) rest h = ap (type_map maybe) (type_again n t rest h)
type_again (suc n) (tuple ts) rest h =
    let text = type_texts ts ++ letter_of signs.TupleClose ∷ rest in
    let grouped : (type_texts ts ++ letter_of signs.TupleClose ∷ []) ++ rest ≡ text = append_assoc (type_texts ts) (letter_of signs.TupleClose ∷ []) rest in
    ap (λ (xs : List ℕ). type_map tuple (members_at (type_at n) (length xs) xs)) grouped
    ∙ ap (type_map tuple) (members_again (type_at n) n (type_again n) (length text) ts rest (omega arith) h)
type_again (suc n) (entry k v) rest h =
    let p = and_parts (is_basic k) (nests_within n v) h in
    entry_again (type_at n) n (type_again n) k v rest p.0 p.1
type_again zero variant rest h = absurd cc
type_again zero (array t) rest h = absurd cc
type_again zero (maybe t) rest h = absurd cc
type_again zero (tuple ts) rest h = absurd cc
type_again zero (entry k v) rest h = absurd cc

-- ---- what is read was spelled so

-- a type of its text, with what stands after it
pub record Takes (n : ℕ) (text : List ℕ) (t : Shape) (rest : List ℕ) : Type 0 where
  pub is : text ≡ type_text t ++ rest
  pub nests : nests_within n t ≡ true

record TakesAll (n : ℕ) (text : List ℕ) (ts : Shapes) (rest : List ℕ) : Type 0 where
  is : text ≡ type_texts ts ++ letter_of signs.TupleClose ∷ rest
  nest : all_shapes (nests_within n) ts ≡ true

pair_parts : {A : Type 0} (a b : A) (x y : List ℕ) (P : A → List ℕ → Type 0) → ◌≡◌ {A = A × List ℕ} (a, x) (b, y) → P a x → P b y
pair_parts {A} a b x y P e h = subst (λ (p : A × List ℕ). P p.0 p.1) e h

some_pair : {A : Type 0} (a b : A) (x y : List ℕ) → ◌≡◌ {A = Option (A × List ℕ)} (Some (a, x)) (Some (b, y)) → ◌≡◌ {A = A × List ℕ} (a, x) (b, y)
some_pair a b x y e = cc

basic_takes : (n : ℕ) (b : Basic) (rest left : List ℕ) (t : Shape) → ◌≡◌ {A = Option (Shape × List ℕ)} (Some (basic b, rest)) (Some (t, left)) →
    Takes n (letter_of (signs.Basic b) ∷ rest) t left
basic_takes n b rest left t e =
    pair_parts (basic b) t rest left (Takes n (letter_of (signs.Basic b) ∷ rest)) (some_pair (basic b) t rest left e) (record { is = refl; nests = nests_flat n b })
  where
    nests_flat : (m : ℕ) (c : Basic) → nests_within m (basic c) ≡ true
    nests_flat zero c = refl
    nests_flat (suc m) c = refl

module _ (one : TypeReader) (n : ℕ) (takes : (text : List ℕ) (t : Shape) (rest : List ℕ) → one text ≡ Some (t, rest) → Takes n text t rest) where
  -- one more member, where no bracket closes
  member_takes : (more : List ℕ → Option (Shapes × List ℕ)) (text : List ℕ) (ts : Shapes) (rest : List ℕ) →
      ((after : List ℕ) (us : Shapes) (left : List ℕ) → more after ≡ Some (us, left) → TakesAll n after us left) →
      option_and_then (λ p. type_map (shape p.0) (more p.1)) (one text) ≡ Some (ts, rest) → TakesAll n text ts rest
  member_takes more text ts rest more_takes e =
      let a = then_some (λ p. type_map (shape p.0) (more p.1)) (one text) (ts, rest) e in
      let b = map_some (λ p. (shape a.0.0 p.0, p.1)) (more a.0.1) (ts, rest) a.2 in
      let first = takes text a.0.0 a.0.1 a.1 in
      let others = more_takes a.0.1 b.0.0 b.0.1 b.1 in
      pair_parts (shape a.0.0 b.0.0) ts b.0.1 rest (TakesAll n text) b.2 (record {
        is = first.is ∙ ap (λ (xs : List ℕ). type_text a.0.0 ++ xs) others.is ∙ sym (append_assoc (type_text a.0.0) (type_texts b.0.0) (letter_of signs.TupleClose ∷ b.0.1));
        nest = and_from (nests_within n a.0.0) (all_shapes (nests_within n) b.0.0) first.nests others.nest;
      })

  members_from-takes : (more : List ℕ → Option (Shapes × List ℕ)) (text : List ℕ) (s : Sign) (remainder : List ℕ) (ts : Shapes) (rest : List ℕ) →
      ((after : List ℕ) (us : Shapes) (left : List ℕ) → more after ≡ Some (us, left) → TakesAll n after us left) →
      text ≡ letter_of s ∷ remainder → members_from one more text s remainder ≡ Some (ts, rest) → TakesAll n text ts rest
  members_from-takes more text signs.TupleClose remainder ts rest more_takes is e =
      pair_parts no_shapes ts remainder rest (TakesAll n text) (some_pair no_shapes ts remainder rest e) (record { is = is; nest = refl })
  members_from-takes more text (signs.Basic b) remainder ts rest more_takes is e = member_takes more text ts rest more_takes e
  members_from-takes more text signs.Variant remainder ts rest more_takes is e = member_takes more text ts rest more_takes e
  members_from-takes more text signs.Array remainder ts rest more_takes is e = member_takes more text ts rest more_takes e
  members_from-takes more text signs.Maybe remainder ts rest more_takes is e = member_takes more text ts rest more_takes e
  members_from-takes more text signs.TupleOpen remainder ts rest more_takes is e = member_takes more text ts rest more_takes e
  members_from-takes more text signs.EntryOpen remainder ts rest more_takes is e = member_takes more text ts rest more_takes e
  members_from-takes more text signs.EntryClose remainder ts rest more_takes is e = member_takes more text ts rest more_takes e

  members_take : (fuel : ℕ) (text : List ℕ) (ts : Shapes) (rest : List ℕ) → members_at one fuel text ≡ Some (ts, rest) → TakesAll n text ts rest
  members_take zero text ts rest e = absurd cc
  members_take (suc fuel) text ts rest e =
      let a = then_some (λ p. members_from one (members_at one fuel) text p.0 p.1) (sign_at text) (ts, rest) e in
      members_from-takes (members_at one fuel) text a.0.0 a.0.1 ts rest (members_take fuel) (sign_takes text a.0.0 a.0.1 a.1) a.2

  closed_takes : (t u : Shape) (s : Sign) (remainder rest : List ℕ) → entry_closed t s remainder ≡ Some (u, rest) →
      (s ≡ signs.EntryClose) × ◌≡◌ {A = Shape × List ℕ} (t, remainder) (u, rest)
  closed_takes t u signs.EntryClose remainder rest e = (refl, some_pair t u remainder rest e)
  closed_takes t u (signs.Basic b) remainder rest e = absurd cc
  closed_takes t u signs.Variant remainder rest e = absurd cc
  closed_takes t u signs.Array remainder rest e = absurd cc
  closed_takes t u signs.Maybe remainder rest e = absurd cc
  closed_takes t u signs.TupleOpen remainder rest e = absurd cc
  closed_takes t u signs.TupleClose remainder rest e = absurd cc
  closed_takes t u signs.EntryOpen remainder rest e = absurd cc

  entry_takes : (text : List ℕ) (s : Sign) (remainder : List ℕ) (t : Shape) (rest : List ℕ) → text ≡ letter_of s ∷ remainder →
      entry_from one s remainder ≡ Some (t, rest) → Takes (suc n) (letter_of signs.EntryOpen ∷ text) t rest
  entry_takes text (signs.Basic b) remainder t rest is e =
      let a = then_some (λ v. option_and_then (λ p. entry_closed (entry (basic b) v.0) p.0 p.1) (sign_at v.1)) (one remainder) (t, rest) e in
      let c = then_some (λ p. entry_closed (entry (basic b) a.0.0) p.0 p.1) (sign_at a.0.1) (t, rest) a.2 in
      let value = takes remainder a.0.0 a.0.1 a.1 in
      let closing = closed_takes (entry (basic b) a.0.0) t c.0.0 c.0.1 rest c.2 in
      let close : a.0.1 ≡ letter_of signs.EntryClose ∷ c.0.1 = sign_takes a.0.1 c.0.0 c.0.1 c.1 ∙ ap (λ (x : Sign). letter_of x ∷ c.0.1) closing.0 in
      pair_parts (entry (basic b) a.0.0) t c.0.1 rest (Takes (suc n) (letter_of signs.EntryOpen ∷ text)) closing.1 (record {
        is = ap (λ (xs : List ℕ). letter_of signs.EntryOpen ∷ xs) (is ∙ ap (λ (xs : List ℕ). letter_of (signs.Basic b) ∷ xs)
            (value.is ∙ ap (λ (xs : List ℕ). type_text a.0.0 ++ xs) close ∙ sym (append_assoc (type_text a.0.0) (letter_of signs.EntryClose ∷ []) c.0.1)));
        nests = value.nests;
      })
  entry_takes text signs.Variant remainder t rest is e = absurd cc
  entry_takes text signs.Array remainder t rest is e = absurd cc
  entry_takes text signs.Maybe remainder t rest is e = absurd cc
  entry_takes text signs.TupleOpen remainder t rest is e = absurd cc
  entry_takes text signs.TupleClose remainder t rest is e = absurd cc
  entry_takes text signs.EntryOpen remainder t rest is e = absurd cc
  entry_takes text signs.EntryClose remainder t rest is e = absurd cc

  from_takes : (s : Sign) (remainder : List ℕ) (t : Shape) (rest : List ℕ) → type_from one s remainder ≡ Some (t, rest) → Takes (suc n) (letter_of s ∷ remainder) t rest
  from_takes (signs.Basic b) remainder t rest e = basic_takes (suc n) b remainder rest t e
  from_takes signs.Variant remainder t rest e =
      pair_parts variant t remainder rest (Takes (suc n) (letter_of signs.Variant ∷ remainder)) (some_pair variant t remainder rest e) (record { is = refl; nests = refl })
  from_takes signs.Array remainder t rest e =
      let a = map_some (λ p. (array p.0, p.1)) (one remainder) (t, rest) e in
      let element = takes remainder a.0.0 a.0.1 a.1 in
      pair_parts (array a.0.0) t a.0.1 rest (Takes (suc n) (letter_of signs.Array ∷ remainder)) a.2
      (record { is = ap (λ (xs : List ℕ). letter_of signs.Array ∷ xs) element.is; nests = element.nests })
  from_takes signs.Maybe remainder t rest e =
      let a = map_some (λ p. (maybe p.0, p.1)) (one remainder) (t, rest) e in
      let child = takes remainder a.0.0 a.0.1 a.1 in
      pair_parts (maybe a.0.0) t a.0.1 rest (Takes (suc n) (letter_of signs.Maybe ∷ remainder)) a.2
      (record { is = ap (λ (xs : List ℕ). letter_of signs.Maybe ∷ xs) child.is; nests = child.nests })
  from_takes signs.TupleOpen remainder t rest e =
      let a = map_some (λ p. (tuple p.0, p.1)) (members_at one (length remainder) remainder) (t, rest) e in
      let members = members_take (length remainder) remainder a.0.0 a.0.1 a.1 in
      pair_parts (tuple a.0.0) t a.0.1 rest (Takes (suc n) (letter_of signs.TupleOpen ∷ remainder)) a.2 (record {
        is = ap (λ (xs : List ℕ). letter_of signs.TupleOpen ∷ xs) (members.is ∙ sym (append_assoc (type_texts a.0.0) (letter_of signs.TupleClose ∷ []) a.0.1));
        nests = members.nest;
      })
  from_takes signs.TupleClose remainder t rest e = absurd cc
  from_takes signs.EntryOpen remainder t rest e =
      let a = then_some (λ p. entry_from one p.0 p.1) (sign_at remainder) (t, rest) e in
      entry_takes remainder a.0.0 a.0.1 t rest (sign_takes remainder a.0.0 a.0.1 a.1) a.2
  from_takes signs.EntryClose remainder t rest e = absurd cc

flat_takes : (s : Sign) (remainder : List ℕ) (t : Shape) (rest : List ℕ) → flat_type s remainder ≡ Some (t, rest) → Takes zero (letter_of s ∷ remainder) t rest
flat_takes (signs.Basic b) remainder t rest e = basic_takes zero b remainder rest t e
flat_takes signs.Variant remainder t rest e = absurd cc
flat_takes signs.Array remainder t rest e = absurd cc
flat_takes signs.Maybe remainder t rest e = absurd cc
flat_takes signs.TupleOpen remainder t rest e = absurd cc
flat_takes signs.TupleClose remainder t rest e = absurd cc
flat_takes signs.EntryOpen remainder t rest e = absurd cc
flat_takes signs.EntryClose remainder t rest e = absurd cc

pub type_takes : (n : ℕ) (text : List ℕ) (t : Shape) (rest : List ℕ) → type_at n text ≡ Some (t, rest) → Takes n text t rest
type_takes zero text t rest e =
    let a = then_some (λ p. flat_type p.0 p.1) (sign_at text) (t, rest) e in
    let taken = flat_takes a.0.0 a.0.1 t rest a.2 in
    record { is = sign_takes text a.0.0 a.0.1 a.1 ∙ taken.is; nests = taken.nests }
type_takes (suc n) text t rest e =
    let a = then_some (λ p. type_from (type_at n) p.0 p.1) (sign_at text) (t, rest) e in
    let taken = from_takes (type_at n) n (type_takes n) a.0.0 a.0.1 t rest a.2 in
    record { is = sign_takes text a.0.0 a.0.1 a.1 ∙ taken.is; nests = taken.nests }

-- ---- whole type strings

pub type_back : (t : Shape) → is_type t ≡ true → type_of (type_text t) ≡ Some t
type_back t h =
    let again : type_at MOST_DEPTH (type_text t) ≡ Some (t, []) = ap (type_at MOST_DEPTH) (sym (append-nil (type_text t))) ∙ type_again MOST_DEPTH t [] h in
    ap (option_and_then (λ p. if_whole p.0 p.1)) again

whole_is : (t u : Shape) (rest : List ℕ) → if_whole t rest ≡ Some u → (t ≡ u) × (rest ≡ [])
whole_is t u [] e = (cc, refl)
whole_is t u (letter ∷ rest) e = absurd cc

pub record IsTextOf (text : List ℕ) (t : Shape) : Type 0 where
  pub is : text ≡ type_text t
  pub type : is_type t ≡ true

pub type_of-found : (text : List ℕ) (t : Shape) → type_of text ≡ Some t → IsTextOf text t
type_of-found text t e =
    let a = then_some (λ p. if_whole p.0 p.1) (type_at MOST_DEPTH text) t e in
    let whole = whole_is a.0.0 t a.0.1 a.2 in
    let taken = type_takes MOST_DEPTH text a.0.0 a.0.1 a.1 in
    subst (IsTextOf text) whole.0 (record { is = taken.is ∙ ap (λ (xs : List ℕ). type_text a.0.0 ++ xs) whole.1 ∙ append-nil (type_text a.0.0); type = taken.nests })

-- ---- a type string after a zero byte

has_zero-append : (a b : List ℕ) → has_zero a ≡ false → has_zero b ≡ false → has_zero (a ++ b) ≡ false
has_zero-append [] b p q = q
has_zero-append (x ∷ a) b p q =
    let h = or_parts (eqb x 0) (has_zero a) p in or_from (eqb x 0) (has_zero (a ++ b)) h.0 (has_zero-append a b h.1 q)

basic_nonzero : (b : Basic) → has_zero (letter_of (signs.Basic b) ∷ []) ≡ false
basic_nonzero basics.Bool = refl
basic_nonzero basics.Byte = refl
basic_nonzero basics.Int16 = refl
basic_nonzero basics.Uint16 = refl
basic_nonzero basics.Int32 = refl
basic_nonzero basics.Uint32 = refl
basic_nonzero basics.Int64 = refl
basic_nonzero basics.Uint64 = refl
basic_nonzero basics.Handle = refl
basic_nonzero basics.Double = refl
basic_nonzero basics.Str = refl
basic_nonzero basics.ObjectPath = refl
basic_nonzero basics.Signature = refl

mutual
  pub type_nonzero : (t : Shape) → has_zero (type_text t) ≡ false
  type_nonzero (basic b) = basic_nonzero b
  type_nonzero variant = refl
  type_nonzero (array t) = type_nonzero t
  type_nonzero (maybe t) = type_nonzero t
  type_nonzero (tuple ts) = has_zero-append (type_texts ts) (letter_of signs.TupleClose ∷ []) (types_nonzero ts) refl
  type_nonzero (entry k v) =
      has_zero-append (type_text k) (type_text v ++ letter_of signs.EntryClose ∷ []) (type_nonzero k)
      (has_zero-append (type_text v) (letter_of signs.EntryClose ∷ []) (type_nonzero v) refl)

  pub types_nonzero : (ts : Shapes) → has_zero (type_texts ts) ≡ false
  types_nonzero no_shapes = refl
  types_nonzero (shape t ts) = has_zero-append (type_text t) (type_texts ts) (type_nonzero t) (types_nonzero ts)

parted-nonzero : (bytes : List ℕ) → has_zero bytes ≡ false → parted bytes ≡ None
parted-nonzero [] h = refl
parted-nonzero (b ∷ bytes) h =
    let p = or_parts (eqb b 0) (has_zero bytes) h in
    ap (parted_with b bytes) (parted-nonzero bytes p.1) ∙ ap (λ (x : Bool). cond x (Some ([], bytes)) None) p.0

-- bytes part before the zero byte after which none stands
pub parted-spelled : (front remainder : List ℕ) → has_zero remainder ≡ false → parted (front ++ 0 ∷ remainder) ≡ Some (front, remainder)
parted-spelled [] remainder h = ap (parted_with 0 remainder) (parted-nonzero remainder h)
parted-spelled (b ∷ front) remainder h = ap (parted_with b (front ++ 0 ∷ remainder)) (parted-spelled front remainder h)

parted_is : (b : ℕ) (bytes : List ℕ) (o : Option (List ℕ × List ℕ)) (p : List ℕ × List ℕ) →
    ((q : List ℕ × List ℕ) → o ≡ Some q → bytes ≡ q.0 ++ 0 ∷ q.1) → parted_with b bytes o ≡ Some p → b ∷ bytes ≡ p.0 ++ 0 ∷ p.1
parted_is b bytes (Some q) p is e =
    subst (λ (r : List ℕ × List ℕ). b ∷ bytes ≡ r.0 ++ 0 ∷ r.1) (same e) (ap (λ (xs : List ℕ). b ∷ xs) (is q refl))
  where
    same : ◌≡◌ {A = Option (List ℕ × List ℕ)} (Some (b ∷ q.0, q.1)) (Some p) → ◌≡◌ {A = List ℕ × List ℕ} (b ∷ q.0, q.1) p
    same h = cc
parted_is b bytes None p is e = by (eqb b 0) refl e
  where
    by : (x : Bool) → eqb b 0 ≡ x → ◌≡◌ {A = Option (List ℕ × List ℕ)} (cond x (Some ([], bytes)) None) (Some p) → b ∷ bytes ≡ p.0 ++ 0 ∷ p.1
    by true test h =
        let same : ◌≡◌ {A = List ℕ × List ℕ} ([], bytes) p = cc in
        subst (λ (r : List ℕ × List ℕ). b ∷ bytes ≡ r.0 ++ 0 ∷ r.1) same (ap (λ (x : ℕ). x ∷ bytes) (eqb-true b 0 test))
    by false test h = absurd cc

pub parted-found : (bytes : List ℕ) (p : List ℕ × List ℕ) → parted bytes ≡ Some p → bytes ≡ p.0 ++ 0 ∷ p.1
parted-found [] p e = absurd cc
parted-found (b ∷ bytes) p e = parted_is b bytes (parted bytes) p (parted-found bytes) e
