-- Worked examples: a call, the error that answers it if its name is hidden, and a list of names.
use Rattle.std.specs.Prelude.{ℕ, true, false, List, [], ◌∷◌, codes, Some, None}
use Rattle.fp_base.specs.declared.side.Side.TheVariants as side
use Rattle.bus_frame.specs.declared.header.Header.{Header}
use Rattle.bus_frame.specs.declared.message.MessageType.TheVariants as type
use Rattle.bus_policy.specs.declared.level.Level.{Level}
use Rattle.bus_policy.specs.declared.policy.Grant.TheVariants as grant
use Rattle.bus_policy.specs.Events.{Event}
use Rattle.bus_proxy.specs.Outs.{Setting}

-- The setting whose only rule gives `org.bar` this level
abbrev pub with_level : Level → Setting
with_level level = record {
  rules = record { pattern = codes "org.bar"; grant = grant.Level level } ∷ [];
  client = None;
  owners = [];
}

-- The bytes of a call of the method M at the path /a of `org.bar`, with the serial 1
abbrev pub call_bytes : List ℕ
call_bytes =
    108 ∷ 1 ∷ 0 ∷ 1 ∷ 0 ∷ 0 ∷ 0 ∷ 0 ∷ 1 ∷ 0 ∷ 0 ∷ 0 ∷ 48 ∷ 0 ∷ 0 ∷ 0 ∷ 1 ∷ 1 ∷ 111 ∷ 0 ∷ 2 ∷
    0 ∷ 0 ∷ 0 ∷ 47 ∷ 97 ∷ 0 ∷ 0 ∷ 0 ∷ 0 ∷ 0 ∷ 0 ∷ 3 ∷ 1 ∷ 115 ∷ 0 ∷ 1 ∷ 0 ∷ 0 ∷ 0 ∷ 77 ∷ 0 ∷
    0 ∷ 0 ∷ 0 ∷ 0 ∷ 0 ∷ 0 ∷ 6 ∷ 1 ∷ 115 ∷ 0 ∷ 7 ∷ 0 ∷ 0 ∷ 0 ∷ 111 ∷ 114 ∷ 103 ∷ 46 ∷ 98 ∷ 97 ∷
    114 ∷ 0 ∷ []

-- The call of the method M at the path /a of `org.bar`, with the serial 1
abbrev pub call : Event
call = record {
  side = side.Client;
  header = record {
    little = true;
    kind = type.MethodCall;
    flags = record { bits = 0 };
    serial = 1;
    path = Some (codes "/a");
    interface = None;
    member = Some (codes "M");
    error_name = None;
    reply_serial = None;
    destination = Some (codes "org.bar");
    sender = None;
    signature = None;
    body_at = 64;
    body_len = 0;
  };
  bytes = call_bytes;
}

-- The bytes of the error ServiceUnknown that answers the call with the serial 1
abbrev pub unknown_bytes : List ℕ
unknown_bytes =
    108 ∷ 3 ∷ 1 ∷ 1 ∷ 0 ∷ 0 ∷ 0 ∷ 0 ∷ 255 ∷ 255 ∷ 255 ∷ 255 ∷ 93 ∷ 0 ∷ 0 ∷ 0 ∷ 4 ∷ 1 ∷ 115 ∷
    0 ∷ 41 ∷ 0 ∷ 0 ∷ 0 ∷ 111 ∷ 114 ∷ 103 ∷ 46 ∷ 102 ∷ 114 ∷ 101 ∷ 101 ∷ 100 ∷ 101 ∷ 115 ∷ 107 ∷
    116 ∷ 111 ∷ 112 ∷ 46 ∷ 68 ∷ 66 ∷ 117 ∷ 115 ∷ 46 ∷ 69 ∷ 114 ∷ 114 ∷ 111 ∷ 114 ∷ 46 ∷ 83 ∷
    101 ∷ 114 ∷ 118 ∷ 105 ∷ 99 ∷ 101 ∷ 85 ∷ 110 ∷ 107 ∷ 110 ∷ 111 ∷ 119 ∷ 110 ∷ 0 ∷ 0 ∷ 0 ∷ 0 ∷
    0 ∷ 0 ∷ 0 ∷ 5 ∷ 1 ∷ 117 ∷ 0 ∷ 1 ∷ 0 ∷ 0 ∷ 0 ∷ 7 ∷ 1 ∷ 115 ∷ 0 ∷ 20 ∷ 0 ∷ 0 ∷ 0 ∷ 111 ∷
    114 ∷ 103 ∷ 46 ∷ 102 ∷ 114 ∷ 101 ∷ 101 ∷ 100 ∷ 101 ∷ 115 ∷ 107 ∷ 116 ∷ 111 ∷ 112 ∷ 46 ∷
    68 ∷ 66 ∷ 117 ∷ 115 ∷ 0 ∷ 0 ∷ 0 ∷ 0 ∷ []

-- The header of a big-endian return with the names `org.bar` and `:1.1`
abbrev pub names_header : Header
names_header = record {
  little = false;
  kind = type.MethodReturn;
  flags = record { bits = 0 };
  serial = 2;
  path = None;
  interface = None;
  member = None;
  error_name = None;
  reply_serial = Some 1;
  destination = None;
  sender = None;
  signature = Some (codes "as");
  body_at = 32;
  body_len = 25;
}

-- A big-endian return with the names `org.bar` and `:1.1`
abbrev pub names : Event
names = record {
  side = side.Bus;
  header = names_header;
  bytes =
      66 ∷ 2 ∷ 0 ∷ 1 ∷ 0 ∷ 0 ∷ 0 ∷ 25 ∷ 0 ∷ 0 ∷ 0 ∷ 2 ∷ 0 ∷ 0 ∷ 0 ∷ 16 ∷ 5 ∷ 1 ∷ 117 ∷ 0 ∷ 0 ∷
      0 ∷ 0 ∷ 1 ∷ 8 ∷ 1 ∷ 103 ∷ 0 ∷ 2 ∷ 97 ∷ 115 ∷ 0 ∷ 0 ∷ 0 ∷ 0 ∷ 21 ∷ 0 ∷ 0 ∷ 0 ∷ 7 ∷ 111 ∷
      114 ∷ 103 ∷ 46 ∷ 98 ∷ 97 ∷ 114 ∷ 0 ∷ 0 ∷ 0 ∷ 0 ∷ 4 ∷ 58 ∷ 49 ∷ 46 ∷ 49 ∷ 0 ∷ [];
}

-- The bytes of the big-endian return with only the name `org.bar`
abbrev pub fewer_names_bytes : List ℕ
fewer_names_bytes =
    66 ∷ 2 ∷ 0 ∷ 1 ∷ 0 ∷ 0 ∷ 0 ∷ 16 ∷ 0 ∷ 0 ∷ 0 ∷ 2 ∷ 0 ∷ 0 ∷ 0 ∷ 16 ∷ 5 ∷ 1 ∷ 117 ∷ 0 ∷ 0 ∷
    0 ∷ 0 ∷ 1 ∷ 8 ∷ 1 ∷ 103 ∷ 0 ∷ 2 ∷ 97 ∷ 115 ∷ 0 ∷ 0 ∷ 0 ∷ 0 ∷ 12 ∷ 0 ∷ 0 ∷ 0 ∷ 7 ∷ 111 ∷
    114 ∷ 103 ∷ 46 ∷ 98 ∷ 97 ∷ 114 ∷ 0 ∷ []
