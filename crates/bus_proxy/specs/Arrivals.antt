-- The messages that arrive in pieces of bytes, each of a side, the latest first.
use Rattle.std.specs.Prelude.{◌≡◌, ℕ, Bool, true, false, nat_lt, min, if◌then◌else◌, List, [], ◌∷◌, ◌++◌, map, reverse, length, drop, Option, Some, None, is_some, option_map}
use Rattle.std.specs.Option.{option_or}
use Rattle.fp_base.specs.declared.side.Side.{Side}
use Rattle.fp_base.specs.declared.side.Side.TheVariants as side
use Rattle.fp_base.specs.declared.frame_rule.FrameRule.{FrameRule}
use Rattle.fp_base.specs.declared.frame_rule.FrameRule.TheVariants.{Cut}
use Rattle.bus_stream.specs.Stream.{Message, joined, messages_in, broken_in}
use Rattle.bus_policy.specs.Events.{Event}

-- Pieces that were fed, each with its side, the latest first
abbrev pub Pieces : Type 0
Pieces = List (Side × List ℕ)

-- The other side
abbrev pub other_side : Side → Side
other_side side.Client = side.Bus
other_side side.Bus = side.Client

-- Tests whether two sides are the same
abbrev pub same_side : Side → Side → Bool
same_side side.Client side.Client = true
same_side side.Client side.Bus = false
same_side side.Bus side.Client = false
same_side side.Bus side.Bus = true

-- The bytes of a side, in order
abbrev pub bytes_of : Side → Pieces → List ℕ
bytes_of side [] = []
bytes_of side (piece ∷ before) =
    bytes_of side before ++ (if same_side side piece.0 then piece.1 else [])

-- The event of a message of a side
abbrev pub event_of : Side → Message → Event
event_of side m = record { side = side; header = m.header; bytes = m.bytes }

-- Messages of a side as events, the latest first
abbrev pub arrived : Side → List Message → List Event
arrived side messages = reverse (map (event_of side) messages)

-- ---- the end

-- A count that stays at 2^64 - 1 once it gets there
abbrev pub counted : ℕ → ℕ
counted n = min n 18446744073709551615

-- The end of events: the side, the number of its whole messages, and the rule that it breaks after
-- them
abbrev pub End : Type 0
End = Side × ℕ × FrameRule

-- The end of a side by a rule, with the number of its whole messages
abbrev pub end_at : Side → List ℕ → FrameRule → End
end_at side bytes rule = (side, counted (length (messages_in bytes)), rule)

-- The end of a side whose bytes break a rule, if they do
abbrev pub broken_end : Side → List ℕ → Option End
broken_end side bytes = option_map (end_at side bytes) (broken_in bytes)

-- The first rule that is broken, by whichever side
abbrev pub breach : Pieces → Option End
breach [] = None
breach (piece ∷ before) =
    option_or (breach before) (broken_end piece.0 (bytes_of piece.0 (piece ∷ before)))

-- ---- the events

-- The messages that are whole now and weren't before
abbrev pub news : (before now : List ℕ) → List Message
news before now = drop (length (messages_in before)) (messages_in now)

-- The events, the latest first. Each piece adds the messages of its side that are whole with it, in
-- order. After a broken rule nothing is added.
abbrev pub events : Pieces → List Event
events [] = []
events (piece ∷ before) =
    if is_some (breach before) then events before
    else arrived piece.0 (news (bytes_of piece.0 before) (bytes_of piece.0 (piece ∷ before)))
    ++ events before

-- Tests whether bytes follow the whole messages
abbrev pub has_rest : List ℕ → Bool
has_rest bytes = nat_lt (length (joined (messages_in bytes))) (length bytes)

-- The end of a side whose bytes end within a message, if they do
abbrev pub cut_end : Side → List ℕ → Option End
cut_end side bytes = if has_rest bytes then Some (end_at side bytes Cut) else None

-- The end of the events: by a broken rule, or within a message of the client or else of the bus;
-- none if they end cleanly
abbrev pub end_of : Pieces → Option End
end_of fed = option_or (breach fed)
    (option_or (cut_end side.Client (bytes_of side.Client fed))
    (cut_end side.Bus (bytes_of side.Bus fed)))

-- ---- bytes one by one

-- The bytes that were fed, each with its side, the latest first
abbrev pub bytes_fed : Pieces → List (Side × ℕ)
bytes_fed [] = []
bytes_fed (piece ∷ before) = reverse (map (λ b. (piece.0, b)) piece.1) ++ bytes_fed before

-- The events of two sequences of pieces are the same, and so are their ends
pub record Alike (fed other : Pieces) : Type 0 where
  pub events : events fed ≡ events other
  pub end : end_of fed ≡ end_of other
