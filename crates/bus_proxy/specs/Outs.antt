-- The messages that a filter sends for each event, by the events before it: the message itself, the
-- message with fewer names, or an error.
use Rattle.std.specs.Prelude.{ℕ, List, [], ◌∷◌, ◌++◌, Option, Some, None, option_map}
use Rattle.std.specs.Option.{option_to_list}
use Rattle.std.specs.List.{filter}
use Rattle.fp_base.specs.declared.side.Side.TheVariants as side
use Rattle.bus_frame.specs.declared.header.Header.{Header}
use Rattle.bus_frame.specs.Bodies.{names_in}
use Rattle.bus_frame.specs.Writing.{error_bytes, with_names_bytes}
use Rattle.bus_policy.specs.declared.level.Level.{Level}
use Rattle.bus_policy.specs.declared.level.Level.TheVariants as level
use Rattle.bus_policy.specs.declared.policy.PolicyRule.{PolicyRule}
use Rattle.bus_policy.specs.declared.verdict.Verdict.{Verdict}
use Rattle.bus_policy.specs.declared.verdict.Verdict.TheVariants as verdict
use Rattle.bus_policy.specs.Levels.{is_at_least}
use Rattle.bus_policy.specs.Events.{Event, Judged}
use Rattle.bus_policy.specs.Watching.{Owners, level_after, verdict_after, judged}
use Rattle.bus_proxy.specs.declared.judge.TheConstants.{DENIED, UNKNOWN}
use Rattle.bus_proxy.specs.declared.out.Out.{Out}
use Rattle.bus_proxy.specs.Arrivals.{other_side}

-- The setting of a filter: the rules, the client's name if it is known, and the owners of names
pub record Setting : Type 0 where
  pub rules : List PolicyRule
  pub client : Option (List ℕ)
  pub owners : Owners

-- The setting with these parts
abbrev pub setting : List PolicyRule → Option (List ℕ) → Owners → Setting
setting rules client owners = record { rules = rules; client = client; owners = owners }

-- The level of each name
abbrev pub Levels : Type 0
Levels = List ℕ → Level

-- The names that the client may see
abbrev pub seen_names : Levels → List (List ℕ) → List (List ℕ)
seen_names level_of = filter (λ name. is_at_least level.See (level_of name))

-- A list of names without those that the client may not see; nothing if the event isn't a list of
-- names
abbrev pub reduced : Levels → Event → Option (List ℕ)
reduced level_of e =
    option_map (λ names. with_names_bytes e.header e.bytes (seen_names level_of names))
    (names_in e.header e.bytes)

-- The filter's error that answers a call
abbrev pub refusal : List ℕ → Option (List ℕ) → Header → Out
refusal name client call =
    record { to = side.Client; bytes = error_bytes call.little name call.serial client }

-- The message that a verdict on an event sends, if any
abbrev pub out_by : Levels → Option (List ℕ) → Event → Verdict → Option Out
out_by level_of client e verdict.Pass = Some (record { to = other_side e.side; bytes = e.bytes })
out_by level_of client e verdict.FilterNameList =
    option_map (λ bytes. record { to = other_side e.side; bytes = bytes }) (reduced level_of e)
out_by level_of client e verdict.Deny =
    Some (refusal DENIED.now client e.header)
out_by level_of client e verdict.Hide =
    Some (refusal UNKNOWN.now client e.header)
out_by level_of client e verdict.Drop = None

-- The events with their verdicts, the latest first
abbrev pub judged_by : Setting → List Event → List Judged
judged_by s = judged s.rules s.client s.owners

-- The levels of names after events
abbrev pub level_in : Setting → List Event → Levels
level_in s before = level_after s.rules s.client s.owners (judged_by s before)

-- The message that is sent for an event, if any, by the events before it
abbrev pub out_after : Setting → List Event → Event → Option Out
out_after s before e =
    let noted = judged_by s before in
    out_by (level_after s.rules s.client s.owners noted) s.client e
    (verdict_after s.rules s.client s.owners noted e)

-- The messages that are sent for events, in order
abbrev pub forwarded : Setting → List Event → List Out
forwarded s [] = []
forwarded s (e ∷ before) = forwarded s before ++ option_to_list (out_after s before e)
