-- Type strings.
use Rattle.std.proofs.Common.{◌≡◌, ℕ, ◌<◌, true, false, List, [], ◌∷◌, ◌++◌, Option, Some, None, refl, ap, sym, subst, arith}
use Rattle.std.specs.Option.{is_some}
use Rattle.std.specs.Str.{IsAscii, IsUtf8}
use Rattle.std.proofs.lemmas.Bool.{false≢true, false_from_ne_true}
use Rattle.std.proofs.lemmas.Str.Ascii.{IsAscii-nil, IsAscii-cons}
use Rattle.std.proofs.lemmas.Str.{IsUtf8-from_ascii, IsAscii-append}
use Rattle.gv_value.specs.declared.basic.Basic.{Basic}
use Rattle.gv_value.specs.declared.basic.Basic.TheVariants as basics
use Rattle.gv_value.specs.declared.sign.Sign.TheVariants as signs
use Rattle.gv_value.specs.declared.error.TypeError.{TypeError}
use Rattle.gv_value.specs.declared.error.TypeError.TheVariants.{Bad, NoMemory}
use Rattle.gv_value.specs.Signs.{letter_of}
use Rattle.gv_value.specs.Shape.{Shape, basic, variant, array, maybe, tuple, entry, Shapes, no_shapes, shape, is_type}
use Rattle.gv_value.specs.TypeText.{type_text, type_texts, type_of}
use Rattle.gv_value.specs.Reads.{Fails}
use Rattle.gv_value.proofs.TypeLaws.{type_of-found}
use Rattle.fl_words.specs.Types.{is_type_text}

-- ---- what parsing tells

pub found : (text : List ℕ) (t : Shape) → type_of text ≡ Some t → is_type_text text ≡ true
unfolding is_type_text
found text t h = ap is_some h

pub none : (text : List ℕ) (e : TypeError) → Fails e (type_of text) → e ≡ Bad → is_type_text text ≡ false
unfolding is_type_text
none text Bad h is = ap is_some h
none text NoMemory h is = absurd (cc is)

pub text_found : (text : List ℕ) (t : Shape) → type_of text ≡ Some t → type_text t ≡ text
text_found text t h = sym (type_of-found text t h).is

pub type_found : (text : List ℕ) (t : Shape) → type_of text ≡ Some t → is_type t ≡ true
type_found text t h = (type_of-found text t h).type

-- ---- type strings are ASCII

letter_ascii : (b : Basic) → letter_of (signs.Basic b) < 128
letter_ascii basics.Bool = omega arith
letter_ascii basics.Byte = omega arith
letter_ascii basics.Int16 = omega arith
letter_ascii basics.Uint16 = omega arith
letter_ascii basics.Int32 = omega arith
letter_ascii basics.Uint32 = omega arith
letter_ascii basics.Int64 = omega arith
letter_ascii basics.Uint64 = omega arith
letter_ascii basics.Handle = omega arith
letter_ascii basics.Double = omega arith
letter_ascii basics.Str = omega arith
letter_ascii basics.ObjectPath = omega arith
letter_ascii basics.Signature = omega arith

one_ascii : (b : ℕ) → b < 128 → IsAscii (b ∷ [])
one_ascii b h = IsAscii-cons b [] h IsAscii-nil

mutual
  type_ascii : (t : Shape) → IsAscii (type_text t)
  type_ascii (basic b) = one_ascii (letter_of (signs.Basic b)) (letter_ascii b)
  type_ascii variant = one_ascii 118 (omega arith)
  type_ascii (array t) = IsAscii-cons 97 (type_text t) (omega arith) (type_ascii t)
  type_ascii (maybe t) = IsAscii-cons 109 (type_text t) (omega arith) (type_ascii t)
  type_ascii (tuple ts) = IsAscii-cons 40 (type_texts ts ++ 41 ∷ []) (omega arith) (IsAscii-append (type_texts ts) (41 ∷ []) (types_ascii ts) (one_ascii 41 (omega arith)))
  type_ascii (entry k v) = IsAscii-cons 123 (type_text k ++ (type_text v ++ 125 ∷ [])) (omega arith)
      (IsAscii-append (type_text k) (type_text v ++ 125 ∷ []) (type_ascii k) (IsAscii-append (type_text v) (125 ∷ []) (type_ascii v) (one_ascii 125 (omega arith))))

  types_ascii : (ts : Shapes) → IsAscii (type_texts ts)
  types_ascii no_shapes = IsAscii-nil
  types_ascii (shape t ts) = IsAscii-append (type_text t) (type_texts ts) (type_ascii t) (types_ascii ts)

ascii_by : (o : Option Shape) (text : List ℕ) → type_of text ≡ o → is_some o ≡ true → IsAscii text
ascii_by None text h some = absurd (false≢true some)
ascii_by (Some t) text h some = subst IsAscii (text_found text t h) (type_ascii t)

is_ascii : (text : List ℕ) → is_type_text text ≡ true → IsAscii text
unfolding is_type_text
is_ascii text h = ascii_by (type_of text) text refl h

pub no_text_no_type : (text : List ℕ) → (IsUtf8 text → ⊥) → is_type_text text ≡ false
no_text_no_type text bad = false_from_ne_true (is_type_text text) (λ good. bad (IsUtf8-from_ascii text (is_ascii text good)))

-- ---- some type

pub byte_is : is_type_text (121 ∷ []) ≡ true
unfolding is_type_text
byte_is = refl
