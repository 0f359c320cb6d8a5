-- The type string of a type, and the type that a type string represents (GVariant specification,
-- "Type strings").
use Rattle.std.specs.Prelude.{ℕ, zero, suc, List, [], ◌∷◌, ◌++◌, length, Option, Some, None, option_map, option_and_then}
use Rattle.gv_value.specs.declared.limits.TheConstants.{MOST_DEPTH}
use Rattle.gv_value.specs.declared.sign.Sign.{Sign}
use Rattle.gv_value.specs.declared.sign.Sign.TheVariants as signs
use Rattle.gv_value.specs.Signs.{letter_of, sign_at}
use Rattle.gv_value.specs.Shape.{Shape, basic, variant, array, maybe, tuple, entry, Shapes, no_shapes, shape}

abbrev mutual
  -- The type string of a type
  pub type_text : Shape → List ℕ
  type_text (basic b) = letter_of (signs.Basic b) ∷ []
  type_text variant = letter_of signs.Variant ∷ []
  type_text (array t) = letter_of signs.Array ∷ type_text t
  type_text (maybe t) = letter_of signs.Maybe ∷ type_text t
  type_text (tuple ts) =
      letter_of signs.TupleOpen ∷ (type_texts ts ++ letter_of signs.TupleClose ∷ [])
  type_text (entry k v) =
      letter_of signs.EntryOpen ∷ (type_text k ++ (type_text v ++ letter_of signs.EntryClose ∷ []))

  -- The type strings of types, one after the other
  pub type_texts : Shapes → List ℕ
  type_texts no_shapes = []
  type_texts (shape t ts) = type_text t ++ type_texts ts

-- A reader of one type: the type at the front, and the text after it
abbrev pub TypeReader : Type 0
TypeReader = List ℕ → Option (Shape × List ℕ)

-- A read result with a function applied to the type
abbrev pub type_map : {A B : Type 0} → (A → B) → Option (A × List ℕ) → Option (B × List ℕ)
type_map f read = option_map (λ p. (f p.0, p.1)) read

-- The members of a tuple by the first character: none if that is the closing parenthesis, else a
-- member and those after it
abbrev pub members_from : TypeReader → (List ℕ → Option (Shapes × List ℕ)) → List ℕ → Sign → List ℕ
    → Option (Shapes × List ℕ)
members_from one more text signs.TupleClose rest = Some (no_shapes, rest)
members_from one more text _ rest =
    option_and_then (λ p. type_map (shape p.0) (more p.1)) (one text)

-- The members of a tuple up to its closing parenthesis; the number bounds them
abbrev pub members_at : TypeReader → ℕ → List ℕ → Option (Shapes × List ℕ)
members_at one zero text = None
members_at one (suc n) text =
    option_and_then (λ p. members_from one (members_at one n) text p.0 p.1) (sign_at text)

-- The type, if the character is a closing brace
abbrev pub entry_closed : Shape → Sign → List ℕ → Option (Shape × List ℕ)
entry_closed t signs.EntryClose rest = Some (t, rest)
entry_closed t _ rest = None

-- A dictionary entry by the character of its key, then its value and a closing brace
abbrev pub entry_from : TypeReader → Sign → List ℕ → Option (Shape × List ℕ)
entry_from one (signs.Basic b) rest =
    option_and_then (λ v. option_and_then (λ p. entry_closed (entry (basic b) v.0) p.0 p.1)
    (sign_at v.1)) (one rest)
entry_from one _ rest = None

-- A dictionary entry's key at the front, its value and a closing brace
abbrev pub entry_at : TypeReader → List ℕ → Option (Shape × List ℕ)
entry_at one text = option_and_then (λ p. entry_from one p.0 p.1) (sign_at text)

-- The type that begins with a character, where types may nest in it
abbrev pub type_from : TypeReader → Sign → List ℕ → Option (Shape × List ℕ)
type_from one (signs.Basic b) rest = Some (basic b, rest)
type_from one signs.Variant rest = Some (variant, rest)
type_from one signs.Array rest = type_map array (one rest)
type_from one signs.Maybe rest = type_map maybe (one rest)
type_from one signs.TupleOpen rest = type_map tuple (members_at one (length rest) rest)
type_from one signs.TupleClose rest = None
type_from one signs.EntryOpen rest = entry_at one rest
type_from one signs.EntryClose rest = None

-- The basic type of a character, where no type may nest
abbrev pub flat_type : Sign → List ℕ → Option (Shape × List ℕ)
flat_type (signs.Basic b) rest = Some (basic b, rest)
flat_type _ rest = None

-- The type at the front that nests at most this deep, and the text after it
abbrev pub type_at : ℕ → TypeReader
type_at zero text = option_and_then (λ p. flat_type p.0 p.1) (sign_at text)
type_at (suc n) text = option_and_then (λ p. type_from (type_at n) p.0 p.1) (sign_at text)

-- The type, if no text follows it
abbrev pub if_whole : Shape → List ℕ → Option Shape
if_whole t [] = Some t
if_whole t (letter ∷ rest) = None

-- The type that a whole type string represents
abbrev pub type_of : List ℕ → Option Shape
type_of text = option_and_then (λ p. if_whole p.0 p.1) (type_at MOST_DEPTH text)
