-- Reading of a value by its type (D-Bus specification, "Marshaling"): what follows the type, and
-- the position after the value. The types are assumed to be well formed, which reading them
-- checked.
use Rattle.std.specs.Prelude.{ℕ, zero, suc, ◌-◌, Bool, ◌||◌, ◌&&◌, ◌==◌, nat_lt, if◌then◌else◌, List, length, Option, Some, None, option_map}
use Rattle.std.specs.Option.{option_or}
use Rattle.bus_frame.specs.declared.limits.TheConstants.{MOST_ARRAY_BYTES}
use Rattle.bus_frame.specs.Steps.{first_of}
use Rattle.fp_base.specs.Steps.{◌>>=◌}
use Rattle.bus_frame.specs.Types.{element_after, whole_type_after, is_one_type}
use Rattle.bus_frame.specs.Places.{Place, bytes_at, byte_at, aligned_at, number_at, long_text_at, short_text_at}

-- The number of bytes of a number or truth value, by the code of its type; 0 for other types
abbrev pub fixed_size : ℕ → ℕ
fixed_size c =
    if c == 121 then 1
    else (if c == 110 || c == 113 then 2
    else (if c == 105 || c == 117 || c == 104 || c == 98 then 4
    else (if c == 120 || c == 116 || c == 100 then 8
    else 0)))

-- The alignment of the values of a type, in bytes, by the first code of the type
abbrev pub alignment : ℕ → ℕ
alignment c =
    if c == 121 || c == 103 || c == 118 then 1
    else (if c == 110 || c == 113 then 2
    else (if c == 120 || c == 116 || c == 100 || c == 40 || c == 123 then 8
    else 4))

-- The position after a number of any value
unfoldable pub fixed_at : ℕ → Place → Option Place
fixed_at size p = do
  q ← aligned_at size p
  bytes ← bytes_at size q
  Some bytes.1

-- The position after a truth value, which is 0 or 1
unfoldable pub truth_at : Bool → Place → Option Place
truth_at little p = do
  n ← number_at little p
  if nat_lt 1 n.0 then None else Some n.1

-- The position after a value of a basic type
unfoldable pub basic_at : Bool → ℕ → Place → Option Place
basic_at little c p =
    if c == 115 || c == 111 then option_map (λ t. t.1) (long_text_at little p)
    else (if c == 103 then option_map (λ t. t.1) (short_text_at p)
    else (if c == 98 then truth_at little p
    else (if fixed_size c == 0 then None else fixed_at (fixed_size c) p)))

-- The types that are left, and the position after a value
abbrev pub Ended : Type 0
Ended = List ℕ × Place

-- The types after the closing bracket of a struct or a dictionary entry
abbrev pub closed : List ℕ → Option (List ℕ)
closed types = first_of types >>= λ c. if c.0 == 41 || c.0 == 125 then Some c.1 else None

-- Reads values one after another, up to the closing bracket
abbrev pub members_at : (List ℕ → Place → Option Ended) → ℕ → List ℕ → Place → Option Ended
members_at one zero types p = None
members_at one (suc n) types p = do
  r ← one types p
  option_or (option_map (λ rest. (rest, r.1)) (closed r.0)) (members_at one n r.0 r.1)

-- Reads elements one after another, up to the last byte; the types after the elements' type
abbrev pub elements_at : (List ℕ → Place → Option Ended) → ℕ → List ℕ → Place → Option (List ℕ)
elements_at one zero types p = None
elements_at one (suc n) types p = do
  r ← one types p
  if length r.1.rest == 0 then Some r.0 else elements_at one n types r.1

-- The types after the type of an array's elements, which are the bytes `body` at the offset `at`
abbrev pub array_type_after : (List ℕ → Place → Option Ended) → List ℕ → ℕ → List ℕ
    → Option (List ℕ)
array_type_after one types at body =
    if length body == 0 then element_after whole_type_after types
    else elements_at one (length body) types (record { at = at; rest = body })

-- The length of an array's elements in bytes, at most 64 MiB, and the position of the first element
unfoldable pub array_head_at : Bool → List ℕ → Place → Option (ℕ × Place)
array_head_at little types p = do
  n ← number_at little p
  code ← first_of types
  q ← aligned_at (alignment code.0) n.1
  if nat_lt MOST_ARRAY_BYTES n.0 then None else Some (n.0, q)

-- Reads an array; `one` reads an element
unfoldable pub array_at : Bool → (List ℕ → Place → Option Ended) → List ℕ → Place → Option Ended
array_at little one types p = do
  head ← array_head_at little types p
  body ← bytes_at head.0 head.1
  rest ← array_type_after one types head.1.at body.0
  Some (rest, body.1)

-- The type of a variant, which a zero byte follows, and the position of the variant's value
unfoldable pub variant_type_at : Place → Option (List ℕ × Place)
variant_type_at p = do
  n ← byte_at p
  types ← bytes_at n.0 n.1
  end ← byte_at types.1
  if end.0 == 0 && is_one_type types.0 then Some (types.0, end.1) else None

-- The position after a variant; `one` reads its value
unfoldable pub variant_at : (List ℕ → Place → Option Ended) → Place → Option Place
variant_at one p = do
  types ← variant_type_at p
  r ← one types.0 types.1
  Some r.1

-- Reads a struct or a dictionary entry; `one` reads a member
unfoldable pub struct_at : (List ℕ → Place → Option Ended) → List ℕ → Place → Option Ended
struct_at one types p = do
  q ← aligned_at 8 p
  members_at one (length types) types q

-- Reads a value, in which at most these numbers of containers nest; `inner` reads the values within
-- it
abbrev pub value_step : Bool → (all arrays structs : ℕ) → (ℕ → ℕ → List ℕ → Place → Option Ended)
    → List ℕ → Place → Option Ended
value_step little all arrays structs inner types p = do
  code ← first_of types
  if code.0 == 97 then (if all == 0 || arrays == 0 then None
      else array_at little (inner (arrays - 1) structs) code.1 p)
      else (if code.0 == 40 then (if all == 0 || structs == 0 then None
      else struct_at (inner arrays (structs - 1)) code.1 p)
      else (if code.0 == 123 then (if all == 0 then None
      else struct_at (inner arrays structs) code.1 p)
      else (if code.0 == 118 then (if all == 0 then None
      else option_map (λ q. (code.1, q)) (variant_at (inner arrays structs) p))
      else option_map (λ q. (code.1, q)) (basic_at little code.0 p))))

-- Reads a value, in which at most these numbers of containers, arrays and structs nest
unfoldable pub value_at : Bool → (all arrays structs : ℕ) → List ℕ → Place → Option Ended
value_at little zero arrays structs types p =
    value_step little 0 arrays structs (λ _ _ _ _. None) types p
value_at little (suc all) arrays structs types p =
    value_step little (suc all) arrays structs (value_at little all) types p
