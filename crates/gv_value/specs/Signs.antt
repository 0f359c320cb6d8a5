-- The characters of type strings (GVariant specification, "Type strings").
use Rattle.std.specs.Prelude.{ℕ, List, [], ◌∷◌, Option, Some, None, option_map, ◌==◌, if◌then◌else◌}
use Rattle.gv_value.specs.declared.basic.Basic.{Basic}
use Rattle.gv_value.specs.declared.basic.Basic.TheVariants as basics
use Rattle.gv_value.specs.declared.sign.Sign.{Sign}
use Rattle.gv_value.specs.declared.sign.Sign.TheVariants as signs

-- The character of a basic type, in ASCII: one of `bynqiuxthdsog`
abbrev pub basic_letter : Basic → ℕ
basic_letter basics.Bool = 98
basic_letter basics.Byte = 121
basic_letter basics.Int16 = 110
basic_letter basics.Uint16 = 113
basic_letter basics.Int32 = 105
basic_letter basics.Uint32 = 117
basic_letter basics.Int64 = 120
basic_letter basics.Uint64 = 116
basic_letter basics.Handle = 104
basic_letter basics.Double = 100
basic_letter basics.Str = 115
basic_letter basics.ObjectPath = 111
basic_letter basics.Signature = 103

-- The character with a meaning, in ASCII: that of a basic type, or one of `v`, `a`, `m`, `(`, `)`,
-- `{` and `}`
abbrev pub letter_of : Sign → ℕ
letter_of (signs.Basic b) = basic_letter b
letter_of signs.Variant = 118
letter_of signs.Array = 97
letter_of signs.Maybe = 109
letter_of signs.TupleOpen = 40
letter_of signs.TupleClose = 41
letter_of signs.EntryOpen = 123
letter_of signs.EntryClose = 125

-- The meaning among those of a list whose character this is
abbrev pub sign_among : ℕ → List Sign → Option Sign
sign_among letter [] = None
sign_among letter (s ∷ ss) = if letter == letter_of s then Some s else sign_among letter ss

-- All meanings of characters in type strings
abbrev pub all_signs : List Sign
all_signs =
    signs.Basic basics.Bool ∷ signs.Basic basics.Byte ∷ signs.Basic basics.Int16
    ∷ signs.Basic basics.Uint16 ∷ signs.Basic basics.Int32
    ∷ signs.Basic basics.Uint32 ∷ signs.Basic basics.Int64 ∷ signs.Basic basics.Uint64
    ∷ signs.Basic basics.Handle ∷ signs.Basic basics.Double
    ∷ signs.Basic basics.Str ∷ signs.Basic basics.ObjectPath ∷ signs.Basic basics.Signature
    ∷ signs.Variant ∷ signs.Array ∷ signs.Maybe ∷ signs.TupleOpen ∷ signs.TupleClose
    ∷ signs.EntryOpen ∷ signs.EntryClose ∷ []

-- The meaning of a character in type strings, if it has one
abbrev pub sign_of : ℕ → Option Sign
sign_of letter = sign_among letter all_signs

-- The meaning of the first character, and the characters after it
abbrev pub sign_at : List ℕ → Option (Sign × List ℕ)
sign_at [] = None
sign_at (letter ∷ rest) = option_map (λ s. (s, rest)) (sign_of letter)
