-- Writing of messages (D-Bus specification, "Marshaling" and "Message Protocol").
use Rattle.std.specs.Prelude.{ℕ, ◌+◌, ◌-◌, Bool, if◌then◌else◌, List, [], ◌∷◌, ◌++◌, length, take, drop, replicate, Option, Some, None}
use Rattle.byteorder.specs.Endian.{little_bytes, big_bytes}
use Rattle.bus_frame.specs.declared.header.Header.{Header}
use Rattle.bus_frame.specs.declared.message.MessageType.{MessageType}
use Rattle.bus_frame.specs.declared.message.MessageType.TheVariants as type
use Rattle.bus_frame.specs.declared.message.Flags.{Flags}
use Rattle.bus_frame.specs.declared.message.TheConstants.Flags.{NO_REPLY_EXPECTED}
use Rattle.bus_frame.specs.declared.limits.TheConstants.{GREATEST_SERIAL}
use Rattle.bus_frame.specs.declared.names.TheConstants.{BUS_NAME}
use Rattle.bus_frame.specs.Messages.{type_code}
use Rattle.bus_frame.specs.Numbers.{padding}
use Rattle.bus_frame.specs.Fields.{Content, word, number, other, Field}

-- The four bytes of a number; the first argument selects little-endian
abbrev pub number_bytes : Bool → ℕ → List ℕ
number_bytes little n = if little then little_bytes 4 n else big_bytes 4 n

-- The zero bytes from the offset `at` up to the next multiple of n
abbrev pub zeros : ℕ → ℕ → List ℕ
zeros n at = replicate (padding n at) 0

-- A string without padding: its length as a 32-bit number, its bytes, and a zero byte
abbrev pub text_bytes : Bool → List ℕ → List ℕ
text_bytes little text = number_bytes little (length text) ++ text ++ 0 ∷ []

-- A field's variant of the type s or u, with its type before its value
abbrev pub content_bytes : Bool → Content → List ℕ
content_bytes little (word code text) = 1 ∷ code ∷ 0 ∷ text_bytes little text
content_bytes little (number n) = 1 ∷ 117 ∷ 0 ∷ number_bytes little n
content_bytes little other = []

-- Things that are written one after another, each by its offset
abbrev pub in_row : {A : Type 0} → (ℕ → A → List ℕ) → ℕ → List A → List ℕ
in_row one at [] = []
in_row one at (x ∷ xs) = one at x ++ in_row one (at + length (one at x)) xs

-- A field at an offset, with its padding
abbrev pub field_bytes : Bool → ℕ → Field → List ℕ
field_bytes little at f = zeros 8 at ++ f.code ∷ content_bytes little f.content

-- Fields one after another, from an offset on
abbrev pub fields_bytes : Bool → ℕ → List Field → List ℕ
fields_bytes little = in_row (field_bytes little)

-- The fixed part: byte order, message type, flags, version 1, and three numbers
abbrev pub fixed_bytes : Bool → MessageType → Flags → (body_len serial array_len : ℕ) → List ℕ
fixed_bytes little kind flags body_len serial array_len =
    (if little then 108 else 66) ∷ type_code kind ∷ flags.bits ∷ 1 ∷ number_bytes little body_len
    ++ number_bytes little serial ++ number_bytes little array_len

-- The field DESTINATION (6) with a receiver, if there is one
abbrev pub field_of_peer : Option (List ℕ) → List Field
field_of_peer None = []
field_of_peer (Some peer) = record { code = 6; content = word 115 peer } ∷ []

-- The fields of the reply to a refused call: the error's name, the call's serial, the caller if its
-- name is known, and the bus as the sender
abbrev pub error_fields : List ℕ → ℕ → Option (List ℕ) → List Field
error_fields name reply to =
    record { code = 4; content = word 115 name } ∷ record { code = 5; content = number reply }
    ∷ field_of_peer to
    ++ record { code = 7; content = word 115 BUS_NAME.now } ∷ []

-- A message with these fields and no body
abbrev pub bare_bytes : Bool → MessageType → Flags → ℕ → List Field → List ℕ
bare_bytes little kind flags serial fields =
    let array = fields_bytes little 16 fields in
    fixed_bytes little kind flags 0 serial (length array) ++ array ++ zeros 8 (16 + length array)

-- The reply to a refused call: an error that expects no reply and has the greatest serial
unfoldable pub error_bytes : Bool → List ℕ → ℕ → Option (List ℕ) → List ℕ
error_bytes little name reply to =
    bare_bytes little type.Error NO_REPLY_EXPECTED GREATEST_SERIAL (error_fields name reply to)

-- An element of an array of strings at an offset, with its padding
abbrev pub element_bytes : Bool → ℕ → List ℕ → List ℕ
element_bytes little at text = zeros 4 at ++ text_bytes little text

-- The elements of an array of strings, from an offset on
abbrev pub elements_bytes : Bool → ℕ → List (List ℕ) → List ℕ
elements_bytes little = in_row (element_bytes little)

-- An array of strings at a multiple of 4
unfoldable pub names_bytes : Bool → ℕ → List (List ℕ) → List ℕ
names_bytes little at names = number_bytes little (length (elements_bytes little (at + 4) names))
    ++ elements_bytes little (at + 4) names

-- The message with another body, and with that body's length in its fixed part
abbrev pub with_body : Header → List ℕ → List ℕ → List ℕ
with_body h message body = take 4 message ++ number_bytes h.little (length body)
    ++ take (h.body_at - 8) (drop 8 message) ++ body

-- The message with an array of these names as its body
unfoldable pub with_names_bytes : Header → List ℕ → List (List ℕ) → List ℕ
with_names_bytes h message names = with_body h message (names_bytes h.little h.body_at names)
