-- Overrides that are changed by options.
use Rattle.std.specs.Prelude.{ℕ, List, [], ◌++◌, length, nat_le, Option, Some, None, if◌then◌else◌}
use Rattle.std.specs.Option.{option_map_or}
use Rattle.fp_base.specs.declared.what.What.TheVariants.{Override}
use Rattle.fp_keyfile.specs.declared.group.Group.{Group}
use Rattle.fp_keyfile.specs.KeyFile.{text_of}
use Rattle.fp_small.specs.declared.state.OverrideRow.{OverrideRow}
use Rattle.fp_small.specs.declared.refusal.Refusal.{Refusal}
use Rattle.fp_small.specs.declared.refusal.Refusal.TheVariants.{Limit}
use Rattle.dep_states.specs.Shown.{at_name, override_key, small_most}
use Rattle.fl_meta.specs.declared.mentions.Source.TheVariants as sources
use Rattle.fl_meta.specs.declared.permission.Mention.{Mention}
use Rattle.fl_meta.specs.Mentions.{file_mentions}
use Rattle.fl_context.specs.Latest.{merged}
use Rattle.fl_override.specs.Written.{file_with}
use Rattle.fl_options.specs.Options.{layer_of}

-- The groups of the override with this name; none if there is no such override
abbrev pub file_named : List OverrideRow → List ℕ → List Group
file_named rows name = option_map_or (λ row. row.file) (at_name override_key rows name) []

-- The mentions in the groups of an override, followed by those of the options
abbrev pub mentioned : List Group → List (List ℕ) → List Mention
mentioned file options = file_mentions sources.Override file ++ layer_of options

-- The groups of an override that has, of each permission, the last mention in the old groups
-- followed by the options
unfoldable pub changed_file : List Group → List (List ℕ) → List Group
changed_file file options = file_with (merged (mentioned file options))

-- The override with this name, changed by the options
abbrev pub changed_row : List OverrideRow → List ℕ → List (List ℕ) → OverrideRow
changed_row rows name options =
    record { name = name; file = changed_file (file_named rows name) options }

-- The refusal of an override whose text has more than 1 MiB
abbrev pub long_refusal : OverrideRow → Option Refusal
long_refusal row = if nat_le (length (text_of row.file)) small_most then None
    else Some (Limit Override (length (text_of row.file)))
