-- Two recordings that differ in a hidden name: the application asks the bus for its names, and gets
-- a list. Two calls with rising serials.
use Rattle.std.specs.Prelude.{List, [], ◌∷◌, codes, None}
use Rattle.bus_policy.specs.declared.level.Level.TheVariants as level
use Rattle.bus_policy.specs.Events.{Event, Judged}
use Rattle.bus_policy.specs.Rows.{call}
use Rattle.bus_policy.specs.Watching.{judged}
use Rattle.bus_proxy.specs.Outs.{Setting}
use Rattle.bus_proxy.specs.Rows.{with_level, names}

-- The setting in which `org.bar` may be seen, and no other name
abbrev pub bar_seen : Setting
bar_seen = with_level level.See

-- The call of `ListNames`, with the serial 1
abbrev pub asked : Event
asked = call (codes "ListNames")

-- The return with the names `org.bar` and `:1.25`, instead of `org.bar` and `:1.1`
abbrev pub other_names : Event
other_names = record {
  side = names.side;
  header = record names.header { body_len = 26 };
  bytes =
      66 ∷ 2 ∷ 0 ∷ 1 ∷ 0 ∷ 0 ∷ 0 ∷ 26 ∷ 0 ∷ 0 ∷ 0 ∷ 2 ∷ 0 ∷ 0 ∷ 0 ∷ 16 ∷ 5 ∷ 1 ∷ 117 ∷ 0 ∷ 0 ∷
      0 ∷ 0 ∷ 1 ∷ 8 ∷ 1 ∷ 103 ∷ 0 ∷ 2 ∷ 97 ∷ 115 ∷ 0 ∷ 0 ∷ 0 ∷ 0 ∷ 22 ∷ 0 ∷ 0 ∷ 0 ∷ 7 ∷ 111 ∷
      114 ∷ 103 ∷ 46 ∷ 98 ∷ 97 ∷ 114 ∷ 0 ∷ 0 ∷ 0 ∷ 0 ∷ 5 ∷ 58 ∷ 49 ∷ 46 ∷ 50 ∷ 53 ∷ 0 ∷ [];
}

-- The call and its return, the latest first
abbrev pub one_recording : List Event
one_recording = names ∷ asked ∷ []

-- The call and its other return, the latest first
abbrev pub other_recording : List Event
other_recording = other_names ∷ asked ∷ []

-- The second call, with the serial 2
abbrev pub asked_again : Event
asked_again = record asked { header = record asked.header { serial = 2 } }

-- The two calls with their verdicts, if no rule grants anything
abbrev pub two_calls : List Judged
two_calls = judged [] None [] (asked_again ∷ asked ∷ [])
