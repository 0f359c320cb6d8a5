-- The layers of a launch's permissions, the earliest first.
use Rattle.std.specs.Prelude.{ℕ, List, [], ◌++◌, codes}
use Rattle.std.specs.List.{find}
use Rattle.std.specs.Option.{option_map_or}
use Rattle.std.specs.Str.{bytes_eq}
use Rattle.fp_small.specs.declared.state.State.{State}
use Rattle.fl_meta.specs.declared.meta.Meta.{Meta}
use Rattle.fl_meta.specs.declared.mentions.Source.TheVariants as sources
use Rattle.fl_meta.specs.declared.permission.Mention.{Mention}
use Rattle.fl_meta.specs.Mentions.{file_mentions}
use Rattle.fl_context.specs.Latest.{merged}

-- The mentions of the override with this name; none if there is no such override
unfoldable pub override_of : State → List ℕ → List Mention
override_of state name = option_map_or (λ row. file_mentions sources.Override row.file)
    (find (λ row. bytes_eq row.name name) state.overrides) []

-- The mentions of five layers, one layer after another
abbrev pub five : List Mention → List Mention → List Mention → List Mention → List Mention
    → List Mention
five runtime app global own words = runtime ++ (app ++ (global ++ (own ++ words)))

-- The mentions of a launch: the metadata of the runtime and of the application, the global
-- override, the application's override, and the options
abbrev pub all_mentions : State → List ℕ → Meta → Meta → List Mention → List Mention
all_mentions state id app runtime words = five runtime.mentions app.mentions
    (override_of state (codes "global")) (override_of state id) words

-- The last mention of each permission, which grants or denies it, ascending by the permissions;
-- `grants_are_the_last_mentions` characterises this list
abbrev pub granted_by : List Mention → List Mention
granted_by mentions = merged mentions
