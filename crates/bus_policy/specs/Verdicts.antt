-- The verdict on a message, by the knowledge before it.
use Rattle.std.specs.Prelude.{ℕ, Bool, true, false, ◌||◌, ◌&&◌, nat_eq, if◌then◌else◌, List, [], ◌∷◌, codes, Option, Some, None, is_some, is_none}
use Rattle.std.specs.Option.{option_map_or}
use Rattle.std.specs.List.{starts_with}
use Rattle.std.specs.Str.{bytes_eq}
use Rattle.bus_frame.specs.declared.header.Header.{Header}
use Rattle.bus_frame.specs.declared.message.MessageType.{MessageType}
use Rattle.bus_frame.specs.declared.message.MessageType.TheVariants as type
use Rattle.bus_frame.specs.Bodies.{first_text, three_texts, names_in}
use Rattle.bus_policy.specs.declared.level.Level.{Level}
use Rattle.bus_policy.specs.declared.level.Level.TheVariants as level
use Rattle.bus_policy.specs.declared.policy.RuleKind.{RuleKind}
use Rattle.bus_policy.specs.declared.policy.RuleKind.TheVariants as kind
use Rattle.bus_policy.specs.declared.driver.Handler.{Handler}
use Rattle.bus_policy.specs.declared.driver.Handler.TheVariants as handler
use Rattle.bus_policy.specs.declared.calls.WaitingCalls.{WaitingCalls}
use Rattle.bus_policy.specs.declared.verdict.Verdict.{Verdict}
use Rattle.bus_policy.specs.declared.verdict.Verdict.TheVariants as verdict
use Rattle.bus_rules.specs.Rules.{says}
use Rattle.bus_policy.specs.Levels.{is_at_least}
use Rattle.bus_policy.specs.Driver.{driver, handler_of}
use Rattle.bus_policy.specs.Events.{Event, is_bus_side, is_return, wants_no_reply, tells_owner}

-- The knowledge before an event: the level of a name; whether a rule lets a call to a peer or a
-- broadcast of a peer pass; the client's waiting calls with a serial; and whether a peer's call
-- with a serial waits
pub record Sight : Type 0 where
  pub level_of : List ℕ → Level
  pub gives_leave : RuleKind → List ℕ → Header → Bool
  pub calls_waiting : ℕ → Option WaitingCalls
  pub peer_waits : List ℕ → ℕ → Bool

-- Tests whether a name has at least a level
abbrev pub has_level : Sight → Level → List ℕ → Bool
has_level sight wanted name = is_at_least wanted (sight.level_of name)

-- `Pass` if the message is allowed, else `Drop`
abbrev pub pass_if : Bool → Verdict
pass_if leave = if leave then verdict.Pass else verdict.Drop

-- The verdict on a refused call: dropped if it expects no reply, denied if the client may see the
-- name, and else the name is hidden
abbrev pub refused : Sight → Header → List ℕ → Verdict
refused sight header name =
    if wants_no_reply header then verdict.Drop
    else (if has_level sight level.See name then verdict.Deny
    else verdict.Hide)

-- ---- calls to the bus itself

-- Tests whether a text contains a word
abbrev pub holds_word : List ℕ → List ℕ → Bool
holds_word word [] = false
holds_word word (b ∷ bs) = starts_with nat_eq (b ∷ bs) word || holds_word word bs

-- The verdict on a call with a match rule, which must not contain `eavesdrop`
abbrev pub match_call : Sight → Header → Option (List ℕ) → Verdict
match_call sight header None = refused sight header driver
match_call sight header (Some rule) =
    if holds_word (codes "eavesdrop") rule then refused sight header driver else verdict.Pass

-- The verdict on a call about a name, which must have at least the level `wanted`
abbrev pub name_call : Sight → Header → Level → Option (List ℕ) → Verdict
name_call sight header wanted None = refused sight header driver
name_call sight header wanted (Some name) =
    if has_level sight wanted name then verdict.Pass else refused sight header name

-- The verdict on a call to the bus, by its decision and its first argument
abbrev pub driver_call : Sight → Header → Handler → Option (List ℕ) → Verdict
driver_call sight header handler.Pass argument = verdict.Pass
driver_call sight header handler.FilterNameListReply argument = verdict.Pass
driver_call sight header handler.ValidateMatch argument = match_call sight header argument
driver_call sight header (handler.Validate wanted) argument = name_call sight header wanted argument
driver_call sight header handler.Deny argument = refused sight header driver

-- ---- messages of the client

-- The verdict on a call to a peer
abbrev pub call_to : Sight → Header → List ℕ → Verdict
call_to sight header name =
    if has_level sight level.Talk name || sight.gives_leave kind.Call name header then verdict.Pass
    else refused sight header name

-- The verdict on a call of the client, by its destination
abbrev pub client_call : Sight → Event → Option (List ℕ) → Verdict
client_call sight e None =
    driver_call sight e.header (handler_of e.header) (first_text e.header e.bytes)
client_call sight e (Some name) =
    if bytes_eq name driver
    then driver_call sight e.header (handler_of e.header) (first_text e.header e.bytes)
    else call_to sight e.header name

-- Tests whether a reply of the client answers a waiting call of a peer
abbrev pub client_reply : Sight → Option (List ℕ) → Option ℕ → Bool
client_reply sight None reply = false
client_reply sight (Some peer) None = false
client_reply sight (Some peer) (Some serial) = sight.peer_waits peer serial

-- Tests whether a signal of the client passes: one without a destination, or to a name with the
-- level `Talk`
abbrev pub client_signal : Sight → Option (List ℕ) → Bool
client_signal sight None = true
client_signal sight (Some name) = has_level sight level.Talk name

-- The verdict on a message of the client, by its type
abbrev pub of_client : Sight → Event → MessageType → Verdict
of_client sight e type.MethodCall = client_call sight e e.header.destination
of_client sight e type.MethodReturn =
    pass_if (client_reply sight e.header.destination e.header.reply_serial)
of_client sight e type.Error =
    pass_if (client_reply sight e.header.destination e.header.reply_serial)
of_client sight e type.Signal = pass_if (client_signal sight e.header.destination)
of_client sight e (type.Unknown n) = verdict.Drop

-- ---- messages of the bus's side

-- Tests whether the bus itself sent a message: the sender is the bus's name or is missing
abbrev pub is_of_driver : Header → Bool
is_of_driver h = is_none h.sender || says h.sender driver

-- Tests whether a message has the signature of a list of names
abbrev pub is_list : Header → Bool
is_list h = says h.signature (codes "as")

-- Tests whether a return may have names of the bus: it is from the bus itself, and one of the calls
-- lists names; or it is a list, and the serial was reused, so that an earlier call with it may have
-- listed names
abbrev pub may_name : Header → WaitingCalls → Bool
may_name h calls =
    is_return h && is_of_driver h && (calls.list_names || (calls.reused && is_list h))

-- The verdict on a reply to waiting calls of the client
abbrev pub reply_to : Event → WaitingCalls → Verdict
reply_to e calls =
    if may_name e.header calls
    then (if is_some (names_in e.header e.bytes) then verdict.FilterNameList else verdict.Drop)
    else verdict.Pass

-- The verdict on a reply of the bus's side, by its reply serial
abbrev pub bus_reply : Sight → Event → Option ℕ → Verdict
bus_reply sight e None = verdict.Drop
bus_reply sight e (Some serial) =
    option_map_or (reply_to e) (sight.calls_waiting serial) verdict.Drop

-- Tests whether a signal `NameOwnerChanged` passes, by the three strings of its body
abbrev pub owner_signal : Sight → Option (List ℕ × List ℕ × List ℕ) → Bool
owner_signal sight None = false
owner_signal sight (Some texts) = has_level sight level.See texts.0

-- Tests whether a broadcast signal passes, by its sender
abbrev pub broadcast : Sight → Header → Option (List ℕ) → Bool
broadcast sight header None = false
broadcast sight header (Some peer) =
    has_level sight level.Talk peer || sight.gives_leave kind.Broadcast peer header

-- Tests whether a signal of the bus's side passes
abbrev pub bus_signal : Sight → Event → Bool
bus_signal sight e =
    if tells_owner e.header then owner_signal sight (three_texts e.header e.bytes)
    else is_some e.header.destination || broadcast sight e.header e.header.sender

-- The verdict on a message of the bus's side, by its type
abbrev pub of_bus : Sight → Event → MessageType → Verdict
of_bus sight e type.MethodCall = verdict.Pass
of_bus sight e type.MethodReturn = bus_reply sight e e.header.reply_serial
of_bus sight e type.Error = bus_reply sight e e.header.reply_serial
of_bus sight e type.Signal = pass_if (bus_signal sight e)
of_bus sight e (type.Unknown n) = verdict.Drop

-- The verdict on a message
unfoldable pub verdict_in : Sight → Event → Verdict
verdict_in sight e =
    if is_bus_side e.side then of_bus sight e e.header.kind else of_client sight e e.header.kind
