-- Members that are read one after the other, as a loop does.
use Rattle.std.proofs.Common.{◌≡◌, ℕ, zero, suc, ◌+◌, ◌-◌, ◌<◌, ◌≤◌, Bool, true, false, List, [], ◌∷◌, ◌++◌, length, map, Option, Some, None, option_map, option_and_then, refl, sym, ap, ◌∙◌, subst, arith, length-append}
use Rattle.gv_value.specs.declared.error.TypeError.{TypeError}
use Rattle.gv_value.specs.declared.error.TypeError.TheVariants as errors
use Rattle.gv_value.specs.Reads.{Fails}
use Rattle.gv_value.specs.declared.sign.Sign.{Sign}
use Rattle.gv_value.specs.declared.sign.Sign.TheVariants as signs
use Rattle.gv_value.specs.declared.types.GvType.{GvType}
use Rattle.gv_value.specs.Signs.{sign_at}
use Rattle.gv_value.specs.Shape.{Shape, Shapes, no_shapes, shape}
use Rattle.gv_value.specs.TypeText.{type_text, TypeReader, type_map, members_from, members_at, type_from, type_at}
use Rattle.gv_value.specs.Views.{shape_of, shapes_of}
use Rattle.gv_value.proofs.TypeLaws.{opens, members_from-open, length-type, Takes, type_takes}

-- shapes before others
abbrev pub shapes_before : List GvType → Shapes → Shapes
shapes_before [] rest = rest
shapes_before (t ∷ ts) rest = shape (shape_of t) (shapes_before ts rest)

pub shapes_before-none : (ts : List GvType) → shapes_before ts no_shapes ≡ shapes_of ts
shapes_before-none [] = refl
shapes_before-none (t ∷ ts) = ap (shape (shape_of t)) (shapes_before-none ts)

shapes_push : (ts : List GvType) (t : GvType) (rest : Shapes) → shapes_before ts (shape (shape_of t) rest) ≡ shapes_before (ts ++ t ∷ []) rest
shapes_push [] t rest = refl
shapes_push (u ∷ ts) t rest = ap (shape (shape_of u)) (shapes_push ts t rest)

pub one_more : (ts : List GvType) (t : GvType) (r : Option (Shapes × List ℕ)) →
    type_map (shapes_before ts) (type_map (shape (shape_of t)) r) ≡ type_map (shapes_before (ts ++ t ∷ [])) r
one_more ts t None = refl
one_more ts t (Some p) = ap (λ (us : Shapes). Some (us, p.1)) (shapes_push ts t p.0)

pub none_before : (r : Option (Shapes × List ℕ)) → r ≡ type_map (shapes_before []) r
none_before None = refl
none_before (Some p) = refl

-- a type takes at least a letter
pub shorter : (n : ℕ) (text : List ℕ) (t : Shape) (rest : List ℕ) → type_at n text ≡ Some (t, rest) → length rest < length text
shorter n text t rest e =
    let taken = type_takes n text t rest e in omega (arith, ap length taken.is, length-append (type_text t) rest, length-type t)

module _ (one : TypeReader) where
  pub members_fail : (n : ℕ) (text : List ℕ) → sign_at text ≡ None → members_at one n text ≡ None
  members_fail zero text e = refl
  members_fail (suc n) text e = ap (option_and_then (λ p. members_from one (members_at one n) text p.0 p.1)) e

  pub members_end : (n : ℕ) (text rest : List ℕ) → 0 < n → sign_at text ≡ Some (signs.TupleClose, rest) → members_at one n text ≡ Some (no_shapes, rest)
  members_end zero text rest h e = absurd (omega arith)
  members_end (suc n) text rest h e = ap (option_and_then (λ p. members_from one (members_at one n) text p.0 p.1)) e

  pub member_fails : (n : ℕ) (text : List ℕ) (s : Sign) (rest : List ℕ) → sign_at text ≡ Some (s, rest) → opens s ≡ true → one text ≡ None → members_at one n text ≡ None
  member_fails zero text s rest e h f = refl
  member_fails (suc n) text s rest e h f =
      ap (option_and_then (λ p. members_from one (members_at one n) text p.0 p.1)) e ∙ members_from-open one (members_at one n) text s rest h
      ∙ ap (option_and_then (λ p. type_map (shape p.0) (members_at one n p.1))) f

  pub member_more : (n : ℕ) (text : List ℕ) (s : Sign) (rest : List ℕ) (t : Shape) (remainder : List ℕ) → 0 < n → sign_at text ≡ Some (s, rest) → opens s ≡ true →
      one text ≡ Some (t, remainder) → members_at one n text ≡ type_map (shape t) (members_at one (n - 1) remainder)
  member_more zero text s rest t remainder h e o f = absurd (omega arith)
  member_more (suc n) text s rest t remainder h e o f =
      let k : n ≡ suc n - 1 = omega arith in
      ap (option_and_then (λ p. members_from one (members_at one n) text p.0 p.1)) e ∙ members_from-open one (members_at one n) text s rest o
      ∙ ap (option_and_then (λ p. type_map (shape p.0) (members_at one n p.1))) f ∙ ap (λ (m : ℕ). type_map (shape t) (members_at one m remainder)) k

pub some_letter : (text : List ℕ) (s : Sign) (rest : List ℕ) → sign_at text ≡ Some (s, rest) → 0 < length text
some_letter [] s rest e = absurd cc
some_letter (letter ∷ text) s rest e = omega arith

-- ---- a loop's steps

abbrev pub SoFar : ℕ → List ℕ → List GvType → ℕ → List ℕ → Type 0
SoFar room text members fuel left =
    members_at (type_at room) (length text) text ≡ type_map (shapes_before members) (members_at (type_at room) fuel left)

pub sign_stops : (e : TypeError) (room : ℕ) (text : List ℕ) (members : List GvType) (fuel : ℕ) (left : List ℕ) → SoFar room text members fuel left →
    Fails e (sign_at left) → Fails e (members_at (type_at room) (length text) text)
sign_stops errors.Bad room text members fuel left so_far h =
    so_far ∙ ap (type_map (shapes_before members)) (members_fail (type_at room) fuel left h)
sign_stops errors.NoMemory room text members fuel left so_far h = tt

pub type_stops : (e : TypeError) (room : ℕ) (text : List ℕ) (members : List GvType) (fuel : ℕ) (left : List ℕ) (s : Sign) (rest : List ℕ) → SoFar room text members fuel left →
    sign_at left ≡ Some (s, rest) → opens s ≡ true → Fails e (type_at room left) → Fails e (members_at (type_at room) (length text) text)
type_stops errors.Bad room text members fuel left s rest so_far sign open_sign h =
    so_far ∙ ap (type_map (shapes_before members)) (member_fails (type_at room) fuel left s rest sign open_sign h)
type_stops errors.NoMemory room text members fuel left s rest so_far sign open_sign h = tt

pub all_members : (room : ℕ) (text : List ℕ) (members : List GvType) (fuel : ℕ) (left rest : List ℕ) → SoFar room text members fuel left → length left ≤ fuel →
    sign_at left ≡ Some (signs.TupleClose, rest) → members_at (type_at room) (length text) text ≡ Some (shapes_of members, rest)
all_members room text members fuel left rest so_far enough sign =
    so_far ∙ ap (type_map (shapes_before members)) (members_end (type_at room) fuel left rest (omega (arith, some_letter left signs.TupleClose rest sign)) sign)
    ∙ ap (λ (ts : Shapes). Some (ts, rest)) (shapes_before-none members)

pub more_members : (room : ℕ) (text : List ℕ) (members : List GvType) (fuel : ℕ) (left : List ℕ) (s : Sign) (rest : List ℕ) (t : GvType) (remainder : List ℕ) → SoFar room text members fuel left →
    length left ≤ fuel → sign_at left ≡ Some (s, rest) → opens s ≡ true → type_at room left ≡ Some (shape_of t, remainder) →
    SoFar room text (members ++ t ∷ []) (fuel - 1) remainder
more_members room text members fuel left s rest t remainder so_far enough sign open_sign found =
    so_far ∙ ap (type_map (shapes_before members)) (member_more (type_at room) fuel left s rest (shape_of t) remainder (omega (arith, some_letter left s rest sign)) sign open_sign found)
    ∙ one_more members t (members_at (type_at room) (fuel - 1) remainder)

pub opens-not : (s : Sign) → (s ≡ signs.TupleClose → ⊥) → opens s ≡ true
opens-not signs.TupleClose h = absurd (h refl)
opens-not (signs.Basic b) h = refl
opens-not signs.Variant h = refl
opens-not signs.Array h = refl
opens-not signs.Maybe h = refl
opens-not signs.TupleOpen h = refl
opens-not signs.EntryOpen h = refl
opens-not signs.EntryClose h = refl

pub in_room : (room : ℕ) (text : List ℕ) (s : Sign) (rest : List ℕ) → 0 < room → sign_at text ≡ Some (s, rest) → type_at room text ≡ type_from (type_at (room - 1)) s rest
in_room zero text s rest h e = absurd (omega arith)
in_room (suc n) text s rest h e =
    let k : n ≡ suc n - 1 = omega arith in
    ap (option_and_then (λ p. type_from (type_at n) p.0 p.1)) e ∙ ap (λ (m : ℕ). type_from (type_at m) s rest) k
