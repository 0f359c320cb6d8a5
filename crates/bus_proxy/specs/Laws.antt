-- Laws of what a filter sends.
use Rattle.std.specs.Prelude.{◌≡◌, ◌⊎◌, ℕ, ◌-◌, true, List, [], ◌∷◌, take, drop, Option, Some, None}
use Rattle.std.specs.List.{AllByRecursion}
use Rattle.fp_base.specs.declared.side.Side.TheVariants as side
use Rattle.bus_frame.specs.Bodies.{names_in}
use Rattle.bus_frame.specs.Writing.{with_names_bytes}
use Rattle.bus_policy.specs.declared.level.Level.TheVariants as level
use Rattle.bus_policy.specs.declared.verdict.Verdict.{Verdict}
use Rattle.bus_policy.specs.declared.verdict.Verdict.TheVariants as verdict
use Rattle.bus_policy.specs.Levels.{is_at_least}
use Rattle.bus_policy.specs.Events.{Event, is_bus_side, is_forwarded}
use Rattle.bus_policy.specs.Watching.{verdict_after}
use Rattle.bus_policy.specs.Laws.{IsReturn, IsRefusedCall}
use Rattle.bus_proxy.specs.declared.out.Out.{Out}
use Rattle.bus_proxy.specs.Outs.{Setting, Levels, seen_names, reduced, judged_by, level_in, out_after, forwarded}

-- The verdict on an event, by the events before it
abbrev pub verdict_on : Setting → List Event → Event → Verdict
verdict_on s before e = verdict_after s.rules s.client s.owners (judged_by s before) e

-- A message to the client is sent for a forwarded message of the bus's side, or answers a refused
-- call of the client
abbrev pub ClientGets : Type 0
ClientGets = (s : Setting) (before : List Event) (e : Event) (out : Out)
    → out_after s before e ≡ Some out → out.to ≡ side.Client
    → (is_bus_side e.side ≡ true) × (is_forwarded (verdict_on s before e) ≡ true) ⊎ IsRefusedCall e

-- The client may see each name of a list
abbrev pub AreSeen : Levels → List (List ℕ) → Type 0
AreSeen level_of = AllByRecursion (λ name. is_at_least level.See (level_of name) ≡ true)

-- A reduced list is the message with an array of some names, each of which the client may see at
-- that time
abbrev pub LeftNamesAreSeen : Type 0
LeftNamesAreSeen = (s : Setting) (before : List Event) (e : Event) (bytes : List ℕ)
    → reduced (level_in s before) e ≡ Some bytes
    → (names : List (List ℕ)) × (bytes ≡ with_names_bytes e.header e.bytes names)
    × AreSeen (level_in s before) names

-- ---- names that the client may not see

-- An event with the bytes and the body's length of another one
abbrev pub with_body_of : Event → Event → Event
with_body_of f e =
    record e { header = record e.header { body_len = f.header.body_len }; bytes = f.bytes }

-- Two returns of the bus are lists that are reduced, and differ only in their bodies, which have
-- the same visible names
pub record DifferUnseen (s : Setting) (before : List Event) (e f : Event) : Type 0 where
  pub serial : ℕ
  pub is : IsReturn e serial
  pub reduced : verdict_on s before e ≡ verdict.FilterNameList
  pub same : f ≡ with_body_of f e
  pub start : take 4 f.bytes ≡ take 4 e.bytes
  pub fields : take (e.header.body_at - 8) (drop 8 f.bytes)
      ≡ take (e.header.body_at - 8) (drop 8 e.bytes)
  pub names : List (List ℕ)
  pub others : List (List ℕ)
  pub listed : names_in e.header e.bytes ≡ Some names
  pub relisted : names_in f.header f.bytes ≡ Some others
  pub seen : seen_names (level_in s before) others ≡ seen_names (level_in s before) names

-- Two sequences of events, the latest first, are the same except for hidden names in lists that are
-- reduced
abbrev pub AlikeButUnseen : Setting → List Event → List Event → Type 0
AlikeButUnseen s [] [] = Unit {0}
AlikeButUnseen s [] (f ∷ others) = ⊥
AlikeButUnseen s (e ∷ before) [] = ⊥
AlikeButUnseen s (e ∷ before) (f ∷ others) =
    ((e ≡ f) ⊎ DifferUnseen s before e f) × AlikeButUnseen s before others

-- Two sequences of events that differ only in hidden names of reduced lists send the same messages
abbrev pub UnseenNamesChangeNothing : Type 0
UnseenNamesChangeNothing = (s : Setting) (one other : List Event) → AlikeButUnseen s one other
    → forwarded s one ≡ forwarded s other
