-- Worked examples: calls to the bus with the serial 1, and replies to them.
use Rattle.std.specs.Prelude.{◌≡◌, ℕ, Bool, true, List, [], codes, Option, Some, None, is_some}
use Rattle.fp_base.specs.declared.side.Side.TheVariants as side
use Rattle.bus_frame.specs.declared.header.Header.{Header}
use Rattle.bus_frame.specs.declared.message.MessageType.{MessageType}
use Rattle.bus_frame.specs.declared.message.MessageType.TheVariants as type
use Rattle.bus_frame.specs.Bodies.{names_in}
use Rattle.bus_policy.specs.declared.verdict.Verdict.{Verdict}
use Rattle.bus_policy.specs.Driver.{driver}
use Rattle.bus_policy.specs.Events.{Event}
use Rattle.bus_policy.specs.Watching.{verdict_after, judged}

-- The header of a call of a method of the bus
abbrev pub call_header : Option (List ℕ) → List ℕ → Header
call_header interface member = record {
  little = true;
  kind = type.MethodCall;
  flags = record { bits = 0 };
  serial = 1;
  path = Some (codes "/org/freedesktop/DBus");
  interface = interface;
  member = Some member;
  error_name = None;
  reply_serial = None;
  destination = Some driver;
  sender = None;
  signature = None;
  body_at = 0;
  body_len = 0;
}

-- A call of a method of the bus's own interface
abbrev pub call : List ℕ → Event
call member = record { side = side.Client; header = call_header (Some driver) member; bytes = [] }

-- A call of a method of the bus's own interface that expects no reply
abbrev pub silent_call : List ℕ → Event
silent_call member = record {
  side = side.Client;
  header = record (call_header (Some driver) member) { flags = record { bits = 1 } };
  bytes = [];
}

-- The header of a reply of the bus to the serial 1
abbrev pub reply_header : MessageType → Header
reply_header kind = record {
  little = true;
  kind = kind;
  flags = record { bits = 0 };
  serial = 1;
  path = None;
  interface = None;
  member = None;
  error_name = Some (codes "org.a.E");
  reply_serial = Some 1;
  destination = None;
  sender = Some driver;
  signature = Some (codes "as");
  body_at = 0;
  body_len = 0;
}

-- A reply of the bus to the serial 1
abbrev pub reply : MessageType → List ℕ → Event
reply kind bytes = record { side = side.Bus; header = reply_header kind; bytes = bytes }

-- A return of a peer to the serial 1
abbrev pub peer_reply : List ℕ → Event
peer_reply bytes = record {
  side = side.Bus;
  header = record (reply_header type.MethodReturn) { sender = Some (codes ":1.5") };
  bytes = bytes;
}

-- A return of the bus to the serial 1 whose signature is a string's
abbrev pub text_reply : List ℕ → Event
text_reply bytes = record {
  side = side.Bus;
  header = record (reply_header type.MethodReturn) { signature = Some (codes "s") };
  bytes = bytes;
}

-- The bytes are a return whose body is an array of names
abbrev pub HoldsNames : List ℕ → Type 0
HoldsNames bytes = is_some (names_in (reply_header type.MethodReturn) bytes) ≡ true

-- The verdict on a message after others, the latest first, under a policy without rules
abbrev pub verdict_on : List Event → Event → Verdict
verdict_on before e = verdict_after [] None [] (judged [] None [] before) e
