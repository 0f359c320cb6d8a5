-- The state of a filter, by what it was fed, the events that were taken, and what it sent.
use Rattle.std.specs.Prelude.{◌≡◌, ℕ, List, [], ◌∷◌, ◌++◌, Option, Some, None, option_map, Result, Ok, Err}
use Rattle.fp_base.specs.declared.side.Side.{Side}
use Rattle.bus_policy.specs.declared.verdict.Verdict.{Verdict}
use Rattle.bus_policy.specs.declared.verdict.Verdict.TheVariants as verdict
use Rattle.bus_policy.specs.Events.{Event, Judged}
use Rattle.bus_policy.specs.Watching.{Owners, WatchAt, rules_of, client_of, count_kept, level_after}
use Rattle.bus_proxy.specs.declared.out.Out.{Out}
use Rattle.bus_proxy.specs.declared.error.FilterError.{FilterError}
use Rattle.bus_proxy.specs.declared.error.FilterError.TheVariants.{Bad, NoMemory}
use Rattle.bus_proxy.specs.declared.judge.Judge.{Judge}
use Rattle.bus_proxy.specs.declared.proxy.Filter.{Filter}
use Rattle.bus_proxy.specs.declared.proxy.Next.{Next}
use Rattle.bus_proxy.specs.declared.proxy.Next.TheVariants as next
use Rattle.bus_proxy.specs.Arrivals.{Pieces, End, other_side, breach, events, end_of}
use Rattle.bus_proxy.specs.Outs.{Setting, judged_by, out_after, out_by, forwarded}
use Rattle.bus_proxy.specs.Streaming.{StreamsAt, unread_bytes}

-- A judge with this setting has the knowledge after these events
pub record JudgeAt {S H : Type 0} (j : Judge S H) (s : Setting) (taken : List Event) : Type 0 where
  pub watch : WatchAt j.watch s.owners (judged_by s taken)
  pub rules : rules_of j.watch ≡ s.rules
  pub client : client_of j.watch ≡ s.client
  pub named : option_map (λ name. name.text) j.client ≡ s.client

-- The message that is sent for another one, if any: itself if it passes, else `instead`
abbrev pub given_by : Verdict → Side → List ℕ → Option Out → Option Out
given_by verdict.Pass side bytes instead = Some (record { to = other_side side; bytes = bytes })
given_by verdict.FilterNameList side bytes instead = instead
given_by verdict.Deny side bytes instead = instead
given_by verdict.Hide side bytes instead = instead
given_by verdict.Drop side bytes instead = instead

-- The message that a verdict on an event sends, if any, by the knowledge of a judge whose watch is
-- that of these owners and events
abbrev pub out_now : {S H : Type 0} → Judge S H → Owners → List Judged → Event → Verdict
    → Option Out
out_now j owners noted e decided =
    out_by (level_after (rules_of j.watch) (client_of j.watch) owners noted)
    (option_map (λ name. name.text) j.client) e decided

-- The filter has this setting and was fed these pieces, of which these events were taken, both the
-- latest first; what it sent is what these events send
pub record FilterAt {S H : Type 0} (f : Filter S H) (s : Setting) (fed : Pieces)
    (taken : List Event) (given : List Out) : Type 0 where
  pub streams : StreamsAt f.streams fed taken
  pub judge : JudgeAt f.judge s taken
  pub gave : given ≡ forwarded s taken

-- Every event was taken, and no rule is broken
pub record AllTaken (fed : Pieces) (taken : List Event) : Type 0 where
  pub all : events fed ≡ taken
  pub sound : breach fed ≡ None

-- The result is what is sent for an event, and the judge has noted the event. Nothing is stated if
-- memory ran out.
abbrev pub Made : {S H : Type 0} → Result Next FilterError → Judge S H → Setting → List Event
    → Event → Type 0
Made (Ok (next.Out out)) j s before e = (out_after s before e ≡ Some out) × JudgeAt j s (e ∷ before)
Made (Ok next.Quiet) j s before e = (out_after s before e ≡ None) × JudgeAt j s (e ∷ before)
Made (Ok next.NotYet) j s before e = ⊥
Made (Err (Bad side index rule)) j s before e = ⊥
Made (Err NoMemory) j s before e = Unit {0}

-- One more event is taken, and the result is what is sent for it; or no event is left; or all
-- events are taken and then a rule is broken. Nothing is stated if memory ran out.
abbrev pub Gives : {S H : Type 0} → Result Next FilterError → Filter S H → Setting → Pieces
    → List Event → List Out → Type 0
Gives (Ok (next.Out out)) f s fed taken given =
    (e : Event) × (out_after s taken e ≡ Some out)
    × FilterAt f s fed (e ∷ taken) (given ++ out ∷ [])
Gives (Ok next.Quiet) f s fed taken given =
    (e : Event) × (out_after s taken e ≡ None) × FilterAt f s fed (e ∷ taken) given
Gives (Ok next.NotYet) f s fed taken given = FilterAt f s fed taken given × AllTaken fed taken
Gives (Err (Bad side index rule)) f s fed taken given =
    FilterAt f s fed taken given × (events fed ≡ taken) × (breach fed ≡ Some (side, index, rule))
Gives (Err NoMemory) f s fed taken given = Unit {0}

-- The result is `NotYet`
abbrev pub IsNotYet : Result Next FilterError → Type 0
IsNotYet (Ok (next.Out out)) = ⊥
IsNotYet (Ok next.Quiet) = ⊥
IsNotYet (Ok next.NotYet) = Unit {0}
IsNotYet (Err e) = ⊥

-- An event was taken
abbrev pub TookEvent : Result Next FilterError → Type 0
TookEvent (Ok (next.Out out)) = Unit {0}
TookEvent (Ok next.Quiet) = Unit {0}
TookEvent (Ok next.NotYet) = ⊥
TookEvent (Err e) = ⊥

-- The result is an error with this end; `Ok` if there is none
abbrev pub AnswersEnd : Result (Unit {0}) FilterError → Option End → Type 0
AnswersEnd (Ok u) end = end ≡ None
AnswersEnd (Err (Bad side index rule)) end = end ≡ Some (side, index, rule)
AnswersEnd (Err NoMemory) end = ⊥

-- The number of bytes that were fed and aren't taken yet
abbrev pub unread : {S H : Type 0} → Filter S H → ℕ
unread f = unread_bytes f.streams

-- The number of stored peers and of serials with waiting calls of the client
abbrev pub kept_by : {S H : Type 0} → Filter S H → ℕ
kept_by f = count_kept f.judge.watch
