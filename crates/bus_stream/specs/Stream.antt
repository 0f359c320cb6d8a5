-- A stream of bytes consists of its whole messages and the bytes that aren't taken yet, in whatever
-- pieces it arrives.
use Rattle.std.specs.Prelude.{◌≡◌, ℕ, zero, suc, List, [], ◌∷◌, ◌++◌, length, take, drop, Option, Some, None}
use Rattle.std.specs.List.{flat_map, AllByRecursion}
use Rattle.bus_frame.specs.declared.header.Header.{Header}
use Rattle.fp_base.specs.declared.frame_rule.FrameRule.{FrameRule}
use Rattle.bus_frame.specs.Reading.{Read, need, bad, whole, frame_of}
use Rattle.bus_frame.specs.Frame.{Frame, Breaks}

-- A message with its header
pub record Message : Type 0 where
  pub header : Header
  pub bytes : List ℕ

-- The bytes are one whole message with this header
abbrev pub IsMessage : Message → Type 0
IsMessage m = Frame m.bytes m.header

-- The bytes of messages, one after another
abbrev pub joined : List Message → List ℕ
joined = flat_map (λ m. m.bytes)

-- The bytes fed to a cutter are those of the messages that were taken from it, each of them one
-- whole message, and then the bytes that it still has
pub record CutterAt (cutter fed : List ℕ) (given : List Message) : Type 0 where
  pub each : AllByRecursion IsMessage given
  pub parts : fed ≡ joined given ++ cutter

-- No bytes at the front are a whole message, and none break a rule
pub record NothingYet (bytes : List ℕ) : Type 0 where
  pub no_message : (message rest : List ℕ) (header : Header) → bytes ≡ message ++ rest
      → Frame message header → ⊥
  pub no_broken : (message rest : List ℕ) (rule : FrameRule) → bytes ≡ message ++ rest
      → Breaks message rule → ⊥

-- The message at the front, if it is whole, and those that `others` reads after it
abbrev pub first_taken : Read → List ℕ → (List ℕ → List Message) → List Message
first_taken (need n) bytes others = []
first_taken (bad rule) bytes others = []
first_taken (whole header len) bytes others =
    record { header = header; bytes = take len bytes } ∷ others (drop len bytes)

-- The whole messages of a stream, in order, up to the first broken rule, n at most
abbrev pub taken_in : ℕ → List ℕ → List Message
taken_in zero bytes = []
taken_in (suc n) bytes = first_taken (frame_of bytes) bytes (taken_in n)

-- The whole messages of a stream, in order, up to the first broken rule. Each has at least one
-- byte, so the number of bytes bounds their number.
unfoldable pub messages_in : List ℕ → List Message
messages_in bytes = taken_in (length bytes) bytes

-- The rule that the message at the front breaks; if it is whole, the rule that `others` finds after
-- it
abbrev pub rule_remainder : Read → List ℕ → (List ℕ → Option FrameRule) → Option FrameRule
rule_remainder (need n) bytes others = None
rule_remainder (bad rule) bytes others = Some rule
rule_remainder (whole header len) bytes others = others (drop len bytes)

-- The rule that a stream breaks after its whole messages, of which there are fewer than n
abbrev pub broken_remainder : ℕ → List ℕ → Option FrameRule
broken_remainder zero bytes = None
broken_remainder (suc n) bytes = rule_remainder (frame_of bytes) bytes (broken_remainder n)

-- The rule that a stream breaks after its whole messages, if it breaks one
unfoldable pub broken_in : List ℕ → Option FrameRule
broken_in bytes = broken_remainder (length bytes) bytes
