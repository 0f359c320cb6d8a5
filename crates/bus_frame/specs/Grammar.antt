-- Values and fields, by the bytes that encode them at an offset (D-Bus specification, "Marshaling"
-- and "Message Protocol"). Offsets are in bytes from the message's first byte.
use Rattle.std.specs.Prelude.{◌≡◌, ◌⊎◌, ℕ, zero, suc, ◌+◌, ◌-◌, ◌^◌, ◌<◌, ◌≤◌, Bool, true, false, ◌||◌, ◌&&◌, ◌==◌, MatchBool, List, [], ◌∷◌, ◌++◌, length}
use Rattle.std.specs.List.{concat}
use Rattle.bus_frame.specs.declared.limits.TheConstants.{MOST_ARRAY_BYTES, MOST_CONTAINERS, MOST_ARRAYS, MOST_STRUCTS}
use Rattle.bus_frame.specs.Types.{Ty, Tys, basic, variant, array, struct, entry, none, more, type_text, is_type}
use Rattle.bus_frame.specs.Numbers.{padding, is_text}
use Rattle.bus_frame.specs.Values.{fixed_size, alignment}
use Rattle.bus_frame.specs.Fields.{Content, word, number, other, Field}
use Rattle.bus_frame.specs.Writing.{zeros, number_bytes}

-- The bytes are a number of any value, with its padding
pub record IsFixed (size at : ℕ) (bytes : List ℕ) : Type 0 where
  pub digits : List ℕ
  pub some : 0 < size
  pub size_is : length digits ≡ size
  pub spelled : bytes ≡ zeros size at ++ digits

-- The bytes are the 32-bit number n, with its padding
pub record IsNumber (little : Bool) (at n : ℕ) (bytes : List ℕ) : Type 0 where
  pub fits : n < 2 ^ 32
  pub spelled : bytes ≡ zeros 4 at ++ number_bytes little n

-- The bytes are a truth value, which is the 32-bit number 0 or 1, with its padding
pub record IsTruth (little : Bool) (at : ℕ) (bytes : List ℕ) : Type 0 where
  pub n : ℕ
  pub bit : n ≤ 1
  pub spelled : bytes ≡ zeros 4 at ++ number_bytes little n

-- The bytes are a string of the type s or o, with its padding
pub record IsLongText (little : Bool) (at : ℕ) (text bytes : List ℕ) : Type 0 where
  pub fits : length text < 2 ^ 32
  pub valid : is_text text ≡ true
  pub spelled : bytes ≡ zeros 4 at ++ number_bytes little (length text) ++ text ++ 0 ∷ []

-- The bytes are a string of the type g
pub record IsShortText (text bytes : List ℕ) : Type 0 where
  pub fits : length text < 256
  pub valid : is_text text ≡ true
  pub spelled : bytes ≡ length text ∷ text ++ 0 ∷ []

-- The bytes are a value of the basic type with this code
abbrev pub IsBasic : Bool → ℕ → ℕ → List ℕ → Type 0
IsBasic little code at bytes =
    MatchBool (code == 115 || code == 111) ((text : List ℕ) × IsLongText little at text bytes)
    (MatchBool (code == 103) ((text : List ℕ) × IsShortText text bytes)
    (MatchBool (code == 98) (IsTruth little at bytes)
    (IsFixed (fixed_size code) at bytes)))

-- P holds for each piece at its offset; the pieces follow one another
abbrev pub AreInRow : (ℕ → List ℕ → Type 0) → ℕ → List (List ℕ) → Type 0
AreInRow P at [] = Unit {0}
AreInRow P at (x ∷ xs) = P at x × AreInRow P (at + length x) xs

-- The bytes before the elements of an array: padding, the elements' length, and the padding of the
-- first element
abbrev pub array_head : Bool → (align at len : ℕ) → List ℕ
array_head little align at len =
    let count = zeros 4 at ++ number_bytes little len in
    count ++ zeros align (at + length count)

-- The bytes are an array with at most 64 MiB of elements; P holds for each element
pub record IsArray (little : Bool) (align : ℕ) (P : ℕ → List ℕ → Type 0) (at : ℕ)
    (bytes : List ℕ) : Type 0 where
  pub elements : List (List ℕ)
  pub fits : length (concat elements) ≤ MOST_ARRAY_BYTES
  pub spelled : bytes ≡ array_head little align at (length (concat elements)) ++ concat elements
  pub each : AreInRow P (at + length (array_head little align at (length (concat elements))))
      elements

-- The bytes are values of these types, one after another; P holds for each
abbrev pub AreMembers : (Ty → ℕ → List ℕ → Type 0) → Tys → ℕ → List ℕ → Type 0
AreMembers P none at bytes = bytes ≡ []
AreMembers P (more t ts) at bytes =
    (first : List ℕ) × (rest : List ℕ) × (bytes ≡ first ++ rest) × P t at first
    × AreMembers P ts (at + length first) rest

-- The bytes are a struct or a dictionary entry: its members from a multiple of 8 on
pub record IsStruct (P : Ty → ℕ → List ℕ → Type 0) (ts : Tys) (at : ℕ) (bytes : List ℕ) : Type 0
  where
    pub members : List ℕ
    pub spelled : bytes ≡ zeros 8 at ++ members
    pub each : AreMembers P ts (at + length (zeros 8 at)) members

-- The bytes are a complete type, with its length before it and a zero byte after it
pub record IsTypeText (t : Ty) (bytes : List ℕ) : Type 0 where
  pub complete : is_type false t MOST_ARRAYS MOST_STRUCTS ≡ true
  pub fits : length (type_text t) < 256
  pub spelled : bytes ≡ length (type_text t) ∷ type_text t ++ 0 ∷ []

-- The bytes are a variant: a complete type and a value of this type
pub record IsVariant (P : Ty → ℕ → List ℕ → Type 0) (at : ℕ) (bytes : List ℕ) : Type 0 where
  pub held : Ty
  pub text : List ℕ
  pub value : List ℕ
  pub typed : IsTypeText held text
  pub spelled : bytes ≡ text ++ value
  pub holds : P held (at + length text) value

-- The alignment of the values of a type, in bytes
abbrev pub type_alignment : Ty → ℕ
type_alignment (basic c) = alignment c
type_alignment variant = 1
type_alignment (array t) = 4
type_alignment (struct t ts) = 8
type_alignment (entry key t) = 8

-- The bytes are a value of a type, in which at most these numbers of containers, arrays and structs
-- nest
abbrev pub IsValue : Bool → (all arrays structs : ℕ) → Ty → ℕ → List ℕ → Type 0
IsValue little all arrays structs (basic c) at bytes = IsBasic little c at bytes
IsValue little (suc all) arrays structs variant at bytes =
    IsVariant (IsValue little all arrays structs) at bytes
IsValue little (suc all) (suc arrays) structs (array t) at bytes =
    IsArray little (type_alignment t) (IsValue little all arrays structs t) at bytes
IsValue little (suc all) arrays (suc structs) (struct t ts) at bytes =
    IsStruct (IsValue little all arrays structs) (more t ts) at bytes
IsValue little (suc all) arrays structs (entry key t) at bytes =
    IsStruct (IsValue little all arrays structs) (more (basic key) (more t none)) at bytes
IsValue little all arrays structs t at bytes = ⊥

-- Tests whether a field of this type has a string or a number as its value
abbrev pub is_telling : Ty → Bool
is_telling (basic c) = c == 115 || c == 111 || c == 103 || c == 117
is_telling variant = false
is_telling (array t) = false
is_telling (struct t ts) = false
is_telling (entry key t) = false

-- The bytes are the value of a field with this type. The field's variant is the first of the 64
-- containers.
abbrev pub IsContent : Bool → Ty → ℕ → Content → List ℕ → Type 0
IsContent little t at (word code text) bytes =
    ((t ≡ basic code) × ((code ≡ 115) ⊎ (code ≡ 111)) × IsLongText little at text bytes)
    ⊎ ((t ≡ basic code) × (code ≡ 103) × IsShortText text bytes)
IsContent little t at (number n) bytes = (t ≡ basic 117) × IsNumber little at n bytes
IsContent little t at other bytes =
    (is_telling t ≡ false) × IsValue little (MOST_CONTAINERS - 1) MOST_ARRAYS
    MOST_STRUCTS t at bytes

-- The bytes are a field: a code and a variant, at a multiple of 8
pub record IsField (little : Bool) (at : ℕ) (f : Field) (bytes : List ℕ) : Type 0 where
  pub held : Ty
  pub text : List ℕ
  pub value : List ℕ
  pub typed : IsTypeText held text
  pub spelled : bytes ≡ (zeros 8 at ++ f.code ∷ text) ++ value
  pub says : IsContent little held (at + length (zeros 8 at ++ f.code ∷ text)) f.content value

-- The bytes are fields, one after another
abbrev pub AreFields : Bool → ℕ → List Field → List ℕ → Type 0
AreFields little at [] bytes = bytes ≡ []
AreFields little at (f ∷ fs) bytes =
    (first : List ℕ) × (rest : List ℕ) × (bytes ≡ first ++ rest) × IsField little at f first
    × AreFields little (at + length first) fs rest
