-- Reading of the message at the front of some bytes (D-Bus specification, "Message Protocol").
use Rattle.std.specs.Prelude.{◌≡◌, ℕ, ◌+◌, ◌-◌, Bool, true, false, ◌||◌, ◌&&◌, ◌==◌, not, nat_lt, if◌then◌else◌, List, [], length, take, drop, slice_index, Option, Some, None, is_none, option_map, unwrap_or, Result, Ok, Err}
use Rattle.bus_frame.specs.declared.limits.TheConstants.{MOST_ARRAY_BYTES, MOST_MESSAGE_BYTES}
use Rattle.fp_base.specs.declared.frame_rule.FrameRule.{FrameRule}
use Rattle.fp_base.specs.declared.frame_rule.FrameRule.TheVariants.{Order, ZeroType, Version, Serial, Length, Padding, Required, Body}
use Rattle.bus_frame.specs.declared.fixed.Fixed.{Fixed}
use Rattle.bus_frame.specs.declared.header.Header.{Header}
use Rattle.bus_frame.specs.declared.message.MessageType.{MessageType}
use Rattle.bus_frame.specs.declared.message.MessageType.TheVariants as type
use Rattle.bus_frame.specs.Messages.{message_type}
use Rattle.bus_frame.specs.Numbers.{padding, are_zero, number_from}
use Rattle.bus_frame.specs.Places.{Place}
use Rattle.bus_frame.specs.Fields.{Known, none_known, ◌>=>◌, fields_at}

-- Tests whether numbers are little-endian: the first byte is `l`
abbrev pub is_little : Fixed → Bool
is_little f = f.order == 108

-- The message type
abbrev pub type_of : Fixed → MessageType
type_of f = message_type f.kind

-- The fixed part, which is the first 16 bytes
unfoldable pub fixed_of : List ℕ → Fixed
fixed_of bytes =
    let little = slice_index bytes 0 == 108 in
    record {
      order = slice_index bytes 0;
      kind = slice_index bytes 1;
      flags = record { bits = slice_index bytes 2 };
      version = slice_index bytes 3;
      body_len = number_from little (take 4 (drop 4 bytes));
      serial = number_from little (take 4 (drop 8 bytes));
      array_len = number_from little (take 4 (drop 12 bytes));
    }

-- The offset at which the array of header fields ends
abbrev pub array_end : Fixed → ℕ
array_end f = 16 + f.array_len

-- The offset at which the body begins
abbrev pub body_start : Fixed → ℕ
body_start f = array_end f + padding 8 (array_end f)

-- The length of the message in bytes
abbrev pub message_len : Fixed → ℕ
message_len f = body_start f + f.body_len

-- The first rule that the fixed part breaks. `Length` limits the header fields to 64 MiB and the
-- message to 16 MiB.
unfoldable pub fixed_fault : Fixed → Option FrameRule
fixed_fault f =
    if not (f.order == 108 || f.order == 66) then Some Order
    else (if f.kind == 0 then Some ZeroType
    else (if not (f.version == 1) then Some Version
    else (if f.serial == 0 then Some Serial
    else (if nat_lt MOST_ARRAY_BYTES f.array_len || nat_lt MOST_MESSAGE_BYTES (message_len f)
    then Some Length
    else None))))

-- Tests whether a field that messages of a type require is missing
abbrev pub lacks_field : MessageType → Known → Bool
lacks_field type.MethodCall k = is_none k.path || is_none k.member
lacks_field type.MethodReturn k = is_none k.reply_serial
lacks_field type.Error k = is_none k.error_name || is_none k.reply_serial
lacks_field type.Signal k = is_none k.path || is_none k.interface || is_none k.member
lacks_field (type.Unknown n) k = false

-- The first broken rule of those that are checked after the fields; `zeros` is the padding before
-- the body
unfoldable pub end_fault : Fixed → Known → List ℕ → Option FrameRule
end_fault f k zeros =
    if not (are_zero zeros) then Some Padding
    else (if lacks_field (type_of f) k then Some Required
    else (if nat_lt 0 f.body_len && length (unwrap_or k.signature []) == 0 then Some Body
    else None))

-- The value if no rule is broken, else the rule
abbrev pub unless_broken : {A : Type 0} → Option FrameRule → A → Result A FrameRule
unless_broken None x = Ok x
unless_broken (Some rule) x = Err rule

-- The known fields of a whole message, or the first rule that it breaks after the fixed part
unfoldable pub known_in : Fixed → List ℕ → Result Known FrameRule
known_in f bytes =
    fields_at (is_little f) f.array_len none_known
    (record { at = 16; rest = take f.array_len (drop 16 bytes) })
    >=> λ k. unless_broken (end_fault f k
    (take (body_start f - array_end f) (drop (array_end f) bytes))) k

-- The header with this fixed part and these known fields
abbrev pub header_of : Fixed → Known → Header
header_of f k = record {
  little = is_little f;
  kind = type_of f;
  flags = f.flags;
  serial = f.serial;
  path = k.path;
  interface = k.interface;
  member = k.member;
  error_name = k.error_name;
  reply_serial = k.reply_serial;
  destination = k.destination;
  sender = k.sender;
  signature = k.signature;
  body_at = body_start f;
  body_len = f.body_len;
}

-- The message at the front of some bytes: it isn't whole and needs at least this number of bytes
-- more; it breaks a rule; or it is whole, with this header and this length in bytes
pub data Read : Type 0 where
  need : ℕ → Read
  bad : FrameRule → Read
  whole : Header → ℕ → Read

-- The message read, once its fields are read
abbrev pub read_known : Fixed → Result Known FrameRule → Read
read_known f (Ok k) = whole (header_of f k) (message_len f)
read_known f (Err rule) = bad rule

-- The message read, once the rules of its fixed part are checked
abbrev pub read_fixed : Fixed → Option FrameRule → List ℕ → Read
read_fixed f (Some rule) bytes = bad rule
read_fixed f None bytes = if nat_lt (length bytes) (message_len f)
    then need (message_len f - length bytes) else read_known f (known_in f bytes)

-- The message at the front of some bytes
unfoldable pub frame_of : List ℕ → Read
frame_of bytes =
    if nat_lt (length bytes) 16 then need (16 - length bytes)
    else read_fixed (fixed_of bytes) (fixed_fault (fixed_of bytes)) bytes
