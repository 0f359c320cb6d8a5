-- Two streams, at most one of which has whole messages that aren't taken.
use Rattle.std.specs.Prelude.{◌≡◌, ℕ, ◌+◌, ◌<◌, if◌then◌else◌, List, [], ◌∷◌, ◌++◌, length, Option, Some, None, Result, Ok, Err}
use Rattle.bus_frame.specs.declared.header.Header.{Header}
use Rattle.fp_base.specs.declared.side.Side.{Side}
use Rattle.fp_base.specs.declared.side.Side.TheVariants as side
use Rattle.bus_frame.specs.Reading.{whole, frame_of}
use Rattle.bus_stream.specs.Stream.{Message, CutterAt, messages_in, broken_in}
use Rattle.bus_policy.specs.Events.{Event}
use Rattle.bus_proxy.specs.declared.error.FilterError.{FilterError}
use Rattle.bus_proxy.specs.declared.error.FilterError.TheVariants.{Bad, NoMemory}
use Rattle.bus_proxy.specs.declared.stream.Stream.{Stream}
use Rattle.bus_proxy.specs.declared.stream.Arrival.{Arrival}
use Rattle.bus_proxy.specs.declared.stream.Arrival.TheVariants as arrival
use Rattle.bus_proxy.specs.declared.streams.Streams.{Streams}
use Rattle.bus_proxy.specs.Arrivals.{Pieces, other_side, same_side, bytes_of, event_of, arrived, counted, breach, broken_end, events}

-- ---- one stream

-- A message with its header
abbrev pub message : Header → List ℕ → Message
message header bytes = record { header = header; bytes = bytes }

-- No whole message waits in a stream
abbrev pub NoneWaits : Stream → Type 0
NoneWaits s = messages_in s.cutter ≡ []

-- These messages were taken from what was fed to a stream, and counted
pub record StreamAt (s : Stream) (fed : List ℕ) (given : List Message) : Type 0 where
  pub cut : CutterAt s.cutter fed given
  pub count : s.count ≡ counted (length given)

-- A message was taken off the front of a stream, and counted
pub record TookOne (old new : Stream) (header : Header) (bytes : List ℕ) : Type 0 where
  pub cut : CutterAt new.cutter old.cutter (message header bytes ∷ [])
  pub count : new.count ≡ counted (old.count + 1)

-- The result is what is at the front of a stream: a whole message, which is taken; no whole
-- message; or a broken rule. Memory may run out only if a whole message waits.
abbrev pub StreamGave : Result Arrival FilterError → Side → (old new : Stream) → Type 0
StreamGave (Ok (arrival.Message side header bytes)) of old new =
    (side ≡ of) × TookOne old new header bytes
StreamGave (Ok arrival.NotYet) of old new =
    (new ≡ old) × NoneWaits old × (broken_in old.cutter ≡ None)
StreamGave (Err (Bad side index rule)) of old new =
    (new ≡ old) × (side ≡ of) × (index ≡ old.count) × NoneWaits old
    × (broken_in old.cutter ≡ Some rule)
StreamGave (Err NoMemory) of old new = NoneWaits old → ⊥

-- ---- both streams

-- The stream of a side
abbrev pub stream_of : Streams → Side → Stream
stream_of s side.Client = s.client
stream_of s side.Bus = s.bus

-- The messages of a side, in order; the events have the latest first
abbrev pub messages_of : Side → List Event → List Message
messages_of side [] = []
messages_of side (e ∷ before) =
    messages_of side before ++ (if same_side side e.side then message e.header e.bytes ∷ [] else [])

-- The messages of each side among the events were taken from its stream. Whole messages wait only
-- in the stream that was fed last, and with the events taken they are the events of what was fed.
pub record StreamsAt (s : Streams) (fed : Pieces) (taken : List Event) : Type 0 where
  pub each : (side : Side)
      → StreamAt (stream_of s side) (bytes_of side fed) (messages_of side taken)
  pub waiting : events fed ≡ arrived s.latest (messages_in (stream_of s s.latest).cutter) ++ taken
  pub none_else : NoneWaits (stream_of s (other_side s.latest))
  pub broken : breach fed ≡ broken_end s.latest (bytes_of s.latest fed)

-- Only the stream that was fed last has changed
pub record Keeps (old new : Streams) : Type 0 where
  pub latest : new.latest ≡ old.latest
  pub other : stream_of new (other_side old.latest) ≡ stream_of old (other_side old.latest)

-- The stream that was fed last
abbrev pub latest_of : Streams → Stream
latest_of s = stream_of s s.latest

-- The result is what is at the front of the stream that was fed last
pub record StreamsGave (r : Result Arrival FilterError) (old new : Streams) : Type 0 where
  pub gave : StreamGave r old.latest (stream_of old old.latest) (stream_of new old.latest)
  pub keeps : Keeps old new

-- A piece was appended to a side's stream
pub record Fed (old new : Streams) (side : Side) (piece : List ℕ) : Type 0 where
  pub latest : new.latest ≡ side
  pub cutter : (stream_of new side).cutter ≡ (stream_of old side).cutter ++ piece
  pub count : (stream_of new side).count ≡ (stream_of old side).count
  pub other : stream_of new (other_side side) ≡ stream_of old (other_side side)

-- The result is the first side that has bytes left, and the number of its messages taken
abbrev pub FirstRest : Option (Side × ℕ) → Streams → Type 0
FirstRest None s = (length s.client.cutter ≡ 0) × (length s.bus.cutter ≡ 0)
FirstRest (Some (side.Client, n)) s = (0 < length s.client.cutter) × (n ≡ s.client.count)
FirstRest (Some (side.Bus, n)) s =
    (length s.client.cutter ≡ 0) × (0 < length s.bus.cutter) × (n ≡ s.bus.count)

-- P holds for the header and the bytes of a message, if one was taken
abbrev pub IfArrived : Result Arrival FilterError → (Header → List ℕ → Type 0) → Type 0
IfArrived (Ok (arrival.Message side header bytes)) P = P header bytes
IfArrived (Ok arrival.NotYet) P = Unit {0}
IfArrived (Err e) P = Unit {0}

-- The number of bytes that were fed and aren't taken yet
abbrev pub unread_bytes : Streams → ℕ
unread_bytes s = length s.client.cutter + length s.bus.cutter
