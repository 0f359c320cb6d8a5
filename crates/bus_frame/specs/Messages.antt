-- The types and flags of messages (D-Bus specification, "Message Format").
use Rattle.std.specs.Prelude.{ℕ, ◌%◌, Bool, ◌==◌, if◌then◌else◌}
use Rattle.bus_frame.specs.declared.message.MessageType.{MessageType}
use Rattle.bus_frame.specs.declared.message.MessageType.TheVariants as type
use Rattle.bus_frame.specs.declared.message.Flags.{Flags}

-- The message type with a code
abbrev pub message_type : ℕ → MessageType
message_type n =
    if n == 1 then type.MethodCall
    else (if n == 2 then type.MethodReturn
    else (if n == 3 then type.Error
    else (if n == 4 then type.Signal
    else type.Unknown n)))

-- The code of a message type
abbrev pub type_code : MessageType → ℕ
type_code type.MethodCall = 1
type_code type.MethodReturn = 2
type_code type.Error = 3
type_code type.Signal = 4
type_code (type.Unknown n) = n

-- Tests whether the flag NO_REPLY_EXPECTED is set, which is the lowest bit
abbrev pub wants_no_reply : Flags → Bool
wants_no_reply f = f.bits % 2 == 1
