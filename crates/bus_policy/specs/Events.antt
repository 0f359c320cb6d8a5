-- The knowledge of names and calls from earlier events: the messages of both sides, each with its
-- verdict, the latest first.
use Rattle.std.specs.Prelude.{ℕ, ◌%◌, Bool, true, false, ◌||◌, ◌&&◌, ◌==◌, nat_le, not, if◌then◌else◌, List, [], ◌∷◌, ◌++◌, codes, Option, Some, None, is_some}
use Rattle.std.specs.Option.{option_map_or}
use Rattle.std.specs.List.{list_any, filter_map}
use Rattle.std.specs.Str.{bytes_eq}
use Rattle.bus_frame.specs.declared.header.Header.{Header}
use Rattle.bus_frame.specs.declared.message.MessageType.{MessageType}
use Rattle.bus_frame.specs.declared.message.MessageType.TheVariants as type
use Rattle.fp_base.specs.declared.side.Side.{Side}
use Rattle.fp_base.specs.declared.side.Side.TheVariants as side
use Rattle.bus_frame.specs.Bodies.{three_texts}
use Rattle.bus_frame.specs.Messages.{wants_no_reply as flags_want_none}
use Rattle.bus_rules.specs.Rules.{says}
use Rattle.bus_policy.specs.Driver.{driver, is_listing}
use Rattle.bus_policy.specs.declared.verdict.Verdict.{Verdict}
use Rattle.bus_policy.specs.declared.verdict.Verdict.TheVariants as verdict

-- A message that a side sent
pub record Event : Type 0 where
  pub side : Side
  pub header : Header
  pub bytes : List ℕ

-- An event and the verdict on it
pub record Judged : Type 0 where
  pub event : Event
  pub verdict : Verdict

-- Tests whether a side is the bus
abbrev pub is_bus_side : Side → Bool
is_bus_side side.Client = false
is_bus_side side.Bus = true

-- Tests whether a name begins with `:` and thus counts as unique, even if it isn't valid
abbrev pub is_unique_like : List ℕ → Bool
is_unique_like [] = false
is_unique_like (c ∷ cs) = c == 58

-- Tests whether a message type is a method call
abbrev pub is_call_type : MessageType → Bool
is_call_type type.MethodCall = true
is_call_type type.MethodReturn = false
is_call_type type.Error = false
is_call_type type.Signal = false
is_call_type (type.Unknown n) = false

-- Tests whether a message type is a method return
abbrev pub is_return_type : MessageType → Bool
is_return_type type.MethodCall = false
is_return_type type.MethodReturn = true
is_return_type type.Error = false
is_return_type type.Signal = false
is_return_type (type.Unknown n) = false

-- Tests whether a message type is a method return or an error
abbrev pub is_reply_type : MessageType → Bool
is_reply_type type.MethodCall = false
is_reply_type type.MethodReturn = true
is_reply_type type.Error = true
is_reply_type type.Signal = false
is_reply_type (type.Unknown n) = false

-- Tests whether a message type is a signal
abbrev pub is_signal_type : MessageType → Bool
is_signal_type type.MethodCall = false
is_signal_type type.MethodReturn = false
is_signal_type type.Error = false
is_signal_type type.Signal = true
is_signal_type (type.Unknown n) = false

-- Tests whether a message is a method call
abbrev pub is_call : Header → Bool
is_call h = is_call_type h.kind

-- Tests whether a message is a method return
abbrev pub is_return : Header → Bool
is_return h = is_return_type h.kind

-- Tests whether a message is a method return or an error
abbrev pub is_reply : Header → Bool
is_reply h = is_reply_type h.kind

-- Tests whether a message is a signal
abbrev pub is_signal : Header → Bool
is_signal h = is_signal_type h.kind

-- Tests whether the sender of a message expects no reply
abbrev pub wants_no_reply : Header → Bool
wants_no_reply h = flags_want_none h.flags

-- ---- owners of names

-- Tests whether a message is the bus's signal `NameOwnerChanged`, by its header fields
abbrev pub tells_owner : Header → Bool
tells_owner h =
    is_signal h && says h.sender driver && says h.interface driver
    && says h.member (codes "NameOwnerChanged")

-- The name and its new owner, if an event is a signal `NameOwnerChanged` with three strings as its
-- body
abbrev pub new_owner : Event → Option (List ℕ × List ℕ)
new_owner e =
    if is_bus_side e.side && tells_owner e.header
    then option_map_or (λ t. Some (t.0, t.2)) (three_texts e.header e.bytes) None
    else None

-- The name that an event gives to an owner, if it gives it one
abbrev pub name_given : List ℕ → Event → Option (List ℕ)
name_given owner e =
    option_map_or (λ given. if bytes_eq given.1 owner then Some given.0 else None)
    (new_owner e) None

-- The name in a row, if this owner has it
abbrev pub name_owned : List ℕ → List ℕ × List ℕ → Option (List ℕ)
name_owned owner row = if bytes_eq row.1 owner then Some row.0 else None

-- The names that a unique name had at the start or got since
abbrev pub names_of : List (List ℕ × List ℕ) → List Judged → List ℕ → List (List ℕ)
names_of owners noted owner =
    if is_unique_like owner then filter_map (λ j. name_given owner j.event) noted
    ++ filter_map (name_owned owner) owners
    else []

-- ---- who wrote

-- Tests whether an event is a message from a peer with a destination
abbrev pub is_addressed_by : List ℕ → Event → Bool
is_addressed_by peer e =
    is_bus_side e.side && says e.header.sender peer && is_some e.header.destination

-- Tests whether a peer with a unique name sent a message with a destination
abbrev pub has_written : List Judged → List ℕ → Bool
has_written noted peer = is_unique_like peer && list_any (λ j. is_addressed_by peer j.event) noted

-- ---- calls that wait for a reply

-- Tests whether a verdict forwards the message, unchanged or not
abbrev pub is_forwarded : Verdict → Bool
is_forwarded verdict.Pass = true
is_forwarded verdict.FilterNameList = true
is_forwarded verdict.Deny = false
is_forwarded verdict.Hide = false
is_forwarded verdict.Drop = false

-- Tests whether a reply serial is present and is this one
abbrev pub is_serial : Option ℕ → ℕ → Bool
is_serial None serial = false
is_serial (Some n) serial = n == serial

-- Tests whether an event is a forwarded call of the client
abbrev pub is_sent : Judged → Bool
is_sent j = not (is_bus_side j.event.side) && is_call j.event.header && is_forwarded j.verdict

-- Tests whether an event is a forwarded call of the client with this serial
abbrev pub is_sent_as : ℕ → Judged → Bool
is_sent_as serial j = is_sent j && j.event.header.serial == serial

-- Tests whether an event is a forwarded call of the client with this serial that expects a reply
abbrev pub is_client_call : ℕ → Judged → Bool
is_client_call serial j = is_sent_as serial j && not (wants_no_reply j.event.header)

-- Tests whether an event is a forwarded reply to the client's calls with this serial
abbrev pub is_bus_reply : ℕ → Judged → Bool
is_bus_reply serial j =
    is_bus_side j.event.side && is_reply j.event.header
    && is_serial j.event.header.reply_serial serial && is_forwarded j.verdict

-- Tests whether a call of the client with this serial or a higher one was forwarded before. If so,
-- a further call with this serial reuses it.
abbrev pub was_used : List Judged → ℕ → Bool
was_used before serial = list_any (λ j. is_sent j && nat_le serial j.event.header.serial) before

-- Tests whether `is_so` holds for an event, with those before it, since the last forwarded reply to
-- a serial
abbrev pub since_reply : ℕ → (List Judged → Judged → Bool) → List Judged → Bool
since_reply serial is_so [] = false
since_reply serial is_so (j ∷ before) =
    if is_bus_reply serial j then false
    else is_so before j || since_reply serial is_so before

-- Tests whether calls of the client with a serial wait. A forwarded reply ends all of them.
abbrev pub client_waits : List Judged → ℕ → Bool
client_waits noted serial = since_reply serial (λ before j. is_client_call serial j) noted

-- Tests whether one of the waiting calls of the client with a serial lists names
abbrev pub names_wait : List Judged → ℕ → Bool
names_wait noted serial =
    since_reply serial (λ before j. is_client_call serial j && is_listing j.event.header) noted

-- Tests whether one of the forwarded calls with a serial since the last reply reused it, including
-- calls that expect no reply
abbrev pub is_reused : List Judged → ℕ → Bool
is_reused noted serial =
    since_reply serial (λ before j. is_sent_as serial j && was_used before serial) noted

-- Tests whether an event is a forwarded call of a peer with this serial that expects a reply
abbrev pub is_bus_call : List ℕ → ℕ → Judged → Bool
is_bus_call peer serial j =
    is_bus_side j.event.side && is_call j.event.header && says j.event.header.sender peer
    && j.event.header.serial == serial
    && not (wants_no_reply j.event.header) && is_forwarded j.verdict

-- Tests whether an event is a forwarded reply of the client to a peer's call with this serial
abbrev pub is_client_reply : List ℕ → ℕ → Judged → Bool
is_client_reply peer serial j =
    not (is_bus_side j.event.side) && is_reply j.event.header
    && says j.event.header.destination peer
    && is_serial j.event.header.reply_serial serial && is_forwarded j.verdict

-- Tests whether a call of a peer with this serial waits
abbrev pub peer_waits : List Judged → List ℕ → ℕ → Bool
peer_waits [] peer serial = false
peer_waits (j ∷ before) peer serial =
    if is_bus_call peer serial j then true
    else (if is_client_reply peer serial j then false else peer_waits before peer serial)
