-- Results of taking messages from a stream.
use Rattle.std.specs.Prelude.{◌≡◌, ℕ, List, [], ◌∷◌, ◌++◌, length, Some, None, Result, Ok, Err}
use Rattle.bus_frame.specs.declared.error.FrameError.{FrameError}
use Rattle.bus_frame.specs.declared.error.FrameError.TheVariants.{Bad, NoMemory}
use Rattle.bus_frame.specs.Reading.{Read, need, bad, whole, frame_of}
use Rattle.bus_frame.specs.Answers.{IsWhole}
use Rattle.bus_stream.specs.declared.cutter.Cut.{Cut}
use Rattle.bus_stream.specs.declared.cutter.Cut.TheVariants as cut
use Rattle.bus_stream.specs.Stream.{Message, messages_in, broken_in}

-- The message at the front isn't whole, and no rule is broken yet
abbrev pub IsNeed : Read → Type 0
IsNeed (need n) = Unit {0}
IsNeed (bad rule) = ⊥
IsNeed (whole header len) = ⊥

-- The result is the message at the front of the bytes that aren't taken yet. A whole message is
-- removed from them; otherwise they stay unchanged.
abbrev pub AnswersCut : Result Cut FrameError → (old new : List ℕ) → Type 0
AnswersCut (Ok (cut.Message header message)) old new =
    (frame_of old ≡ whole header (length message)) × (old ≡ message ++ new)
AnswersCut (Ok cut.NotYet) old new = IsNeed (frame_of old) × (new ≡ old)
AnswersCut (Err (Bad rule)) old new = (frame_of old ≡ bad rule) × (new ≡ old)
AnswersCut (Err NoMemory) old new = IsWhole (frame_of old) × (new ≡ old)

-- The messages taken so far, and the one that the result contains
abbrev pub with_given : Result Cut FrameError → List Message → List Message
with_given (Ok (cut.Message header message)) given =
    given ++ record { header = header; bytes = message } ∷ []
with_given (Ok cut.NotYet) given = given
with_given (Err e) given = given

-- If the result is `NotYet` or a broken rule, the messages taken are all whole messages of the
-- stream, up to its first broken rule
abbrev pub AreAll : Result Cut FrameError → (fed : List ℕ) → List Message → Type 0
AreAll (Ok (cut.Message header message)) fed given = Unit {0}
AreAll (Ok cut.NotYet) fed given = (messages_in fed ≡ given) × (broken_in fed ≡ None)
AreAll (Err (Bad rule)) fed given = (messages_in fed ≡ given) × (broken_in fed ≡ Some rule)
AreAll (Err NoMemory) fed given = Unit {0}

-- The result is `NotYet`
abbrev pub IsNotYet : Result Cut FrameError → Type 0
IsNotYet (Ok (cut.Message header message)) = ⊥
IsNotYet (Ok cut.NotYet) = Unit {0}
IsNotYet (Err e) = ⊥
