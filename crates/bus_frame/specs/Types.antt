-- Complete types and signatures (D-Bus specification, "Type System").
use Rattle.std.specs.Prelude.{ℕ, zero, suc, ◌-◌, Bool, true, false, ◌&&◌, ◌||◌, ◌==◌, nat_lt, nat_le, if◌then◌else◌, List, [], ◌∷◌, ◌++◌, length, Option, Some, None}
use Rattle.std.specs.Option.{option_map_or, option_or}
use Rattle.bus_frame.specs.declared.limits.TheConstants.{MOST_SIGNATURE_BYTES, MOST_CONTAINERS, MOST_ARRAYS, MOST_STRUCTS}
use Rattle.bus_frame.specs.Steps.{first_of, remainder_byte}
use Rattle.fp_base.specs.Steps.{◌>>=◌}

-- Tests whether a byte is the code of a basic type: y b n q i u x t d s o g h
abbrev pub is_basic : ℕ → Bool
is_basic c =
    c == 121 || c == 98 || c == 110 || c == 113 || c == 105 || c == 117 || c == 120 || c == 116
    || c == 100 || c == 115 || c == 111 || c == 103 || c == 104

-- A complete type: a basic type by its code, a variant, an array, a struct with one member or more,
-- or a dictionary entry with a basic key, which is valid only as the element of an array
mutual
  pub data Ty : Type 0 where
    basic : ℕ → Ty
    variant : Ty
    array : Ty → Ty
    struct : Ty → Tys → Ty
    entry : ℕ → Ty → Ty

  -- A list of types
  pub data Tys : Type 0 where
    none : Tys
    more : Ty → Tys → Tys

-- A type as it is written in a signature
abbrev mutual
  pub type_text : Ty → List ℕ
  type_text (basic c) = c ∷ []
  type_text variant = 118 ∷ []
  type_text (array t) = 97 ∷ type_text t
  type_text (struct t ts) = 40 ∷ type_text t ++ types_text ts ++ 41 ∷ []
  type_text (entry key t) = 123 ∷ key ∷ type_text t ++ 125 ∷ []

  -- Types as they are written in a signature, one after another
  pub types_text : Tys → List ℕ
  types_text none = []
  types_text (more t ts) = type_text t ++ types_text ts

-- Tests whether a type is valid: its basic codes are known, and dictionary entries are only
-- elements of arrays. At most `arrays` arrays and `structs` structs nest in it.
abbrev mutual
  pub is_type : Bool → Ty → ℕ → ℕ → Bool
  is_type as_element (basic c) arrays structs = is_basic c
  is_type as_element variant arrays structs = true
  is_type as_element (array t) arrays structs =
      nat_lt 0 arrays && is_type true t (arrays - 1) structs
  is_type as_element (struct t ts) arrays structs =
      nat_lt 0 structs && is_type false t arrays (structs - 1) && are_types ts arrays (structs - 1)
  is_type as_element (entry key t) arrays structs =
      as_element && is_basic key && is_type false t arrays structs

  -- Tests whether the types of a list are valid, none of them a dictionary entry
  pub are_types : Tys → ℕ → ℕ → Bool
  are_types none arrays structs = true
  are_types (more t ts) arrays structs =
      is_type false t arrays structs && are_types ts arrays structs

-- ---- reading of types: the bytes after the complete type at the front

-- The bytes after a dictionary entry: its key, its value and the closing bracket; `one` reads the
-- value's type
abbrev pub entry_after : (List ℕ → Option (List ℕ)) → List ℕ → Option (List ℕ)
entry_after one types = do
  key ← first_of types
  if is_basic key.0 then one key.1 >>= remainder_byte 125 else None

-- The bytes after the element type of an array, which may be a dictionary entry
abbrev pub element_after : (List ℕ → Option (List ℕ)) → List ℕ → Option (List ℕ)
element_after one types = do
  code ← first_of types
  if code.0 == 123 then entry_after one code.1 else one types

-- The bytes after one type or more and the closing bracket of a struct
abbrev pub members_after : (List ℕ → Option (List ℕ)) → ℕ → List ℕ → Option (List ℕ)
members_after one zero types = None
members_after one (suc n) types = do
  rest ← one types
  option_or (remainder_byte 41 rest) (members_after one n rest)

-- The bytes after a type, in which at most these numbers of containers nest; `inner` reads the
-- types within it
abbrev pub type_step : (all arrays structs : ℕ) → (ℕ → ℕ → List ℕ → Option (List ℕ)) → List ℕ
    → Option (List ℕ)
type_step all arrays structs inner types = do
  code ← first_of types
  if code.0 == 97 then (if all == 0 || arrays == 0 then None
      else element_after (inner (arrays - 1) structs) code.1)
      else (if code.0 == 40 then (if all == 0 || structs == 0 then None
      else members_after (inner arrays (structs - 1)) (length code.1) code.1)
      else (if is_basic code.0 || code.0 == 118 then Some code.1 else None))

-- The bytes after a type, in which at most these numbers of containers, arrays and structs nest
unfoldable pub type_after : (all arrays structs : ℕ) → List ℕ → Option (List ℕ)
type_after zero arrays structs types = type_step 0 arrays structs (λ _ _ _. None) types
type_after (suc all) arrays structs types =
    type_step (suc all) arrays structs (type_after all) types

-- The bytes after a complete type, in which at most 32 arrays and 32 structs nest
abbrev pub whole_type_after : List ℕ → Option (List ℕ)
whole_type_after = type_after MOST_CONTAINERS MOST_ARRAYS MOST_STRUCTS

-- Tests whether bytes are exactly one complete type
abbrev pub is_one_type : List ℕ → Bool
is_one_type types = option_map_or (λ rest. length rest == 0) (whole_type_after types) false

-- Tests whether bytes are zero or more complete types
abbrev pub are_types_text : ℕ → List ℕ → Bool
are_types_text zero types = length types == 0
are_types_text (suc n) types =
    length types == 0 || option_map_or (are_types_text n) (whole_type_after types) false

-- Tests whether bytes are a signature: zero or more complete types, in at most 255 bytes
unfoldable pub is_signature : List ℕ → Bool
is_signature types =
    nat_le (length types) MOST_SIGNATURE_BYTES && are_types_text (length types) types
