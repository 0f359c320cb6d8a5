-- Results of reading a message.
use Rattle.std.specs.Prelude.{◌≡◌, ◌⊎◌, ℕ, ◌+◌, ◌<◌, ◌≤◌, List, ◌++◌, length, None, Result, Ok, Err}
use Rattle.fp_base.specs.declared.frame_rule.FrameRule.{FrameRule}
use Rattle.bus_frame.specs.declared.error.FrameError.{FrameError}
use Rattle.bus_frame.specs.declared.error.FrameError.TheVariants.{Bad, NoMemory}
use Rattle.bus_frame.specs.declared.header.Header.{Header}
use Rattle.bus_frame.specs.declared.header.ReadFrame.{ReadFrame}
use Rattle.bus_frame.specs.declared.header.ReadFrame.TheVariants.{Frame, Need}
use Rattle.bus_frame.specs.Reading.{fixed_of, message_len, fixed_fault, Read, need, bad, whole}
use Rattle.bus_frame.specs.Frame.{Breaks}

-- A whole message is at the front
abbrev pub IsWhole : Read → Type 0
IsWhole (need n) = ⊥
IsWhole (bad rule) = ⊥
IsWhole (whole header len) = Unit {0}

-- The result is what is read at the front; memory may run out only for a whole message
abbrev pub AnswersFrame : Result ReadFrame FrameError → Read → Type 0
AnswersFrame (Ok (Frame header len)) read = read ≡ whole header len
AnswersFrame (Ok (Need n)) read = read ≡ need n
AnswersFrame (Err (Bad rule)) read = read ≡ bad rule
AnswersFrame (Err NoMemory) read = IsWhole read

-- P holds for the header and the length, if a message was read
abbrev pub IfFrame : Result ReadFrame FrameError → (Header → ℕ → Type 0) → Type 0
IfFrame (Ok (Frame header len)) P = P header len
IfFrame (Ok (Need n)) P = Unit {0}
IfFrame (Err e) P = Unit {0}

-- P holds for the number of missing bytes, if the message isn't whole
abbrev pub IfNeed : Result ReadFrame FrameError → (ℕ → Type 0) → Type 0
IfNeed (Ok (Frame header len)) P = Unit {0}
IfNeed (Ok (Need n)) P = P n
IfNeed (Err e) P = Unit {0}

-- P holds for the broken rule, if one was reported
abbrev pub IfBad : Result ReadFrame FrameError → (FrameRule → Type 0) → Type 0
IfBad (Ok answer) P = Unit {0}
IfBad (Err (Bad rule)) P = P rule
IfBad (Err NoMemory) P = Unit {0}

-- Bytes at the front break this rule first; any bytes may follow them
abbrev pub BeginsBroken : List ℕ → FrameRule → Type 0
BeginsBroken bytes rule =
    (message : List ℕ) × (rest : List ℕ) × (bytes ≡ message ++ rest) × Breaks message rule

-- n bytes are missing, one or more: to the 16 of the fixed part, or to the length of the message,
-- whose fixed part breaks no rule
abbrev pub Lacks : List ℕ → ℕ → Type 0
Lacks bytes n =
    ((length bytes < 16) × (length bytes + n ≡ 16))
    ⊎ ((16 ≤ length bytes) × (fixed_fault (fixed_of bytes) ≡ None)
    × (length bytes < message_len (fixed_of bytes))
    × (length bytes + n ≡ message_len (fixed_of bytes)))
