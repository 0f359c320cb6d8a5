-- The metadata that a launch needs: that of an application and of its runtime, in the directories
-- of their deployed commits.
use Rattle.std.specs.Prelude.{ℕ, List, Option, Some, None, Result, Ok, Err, IsSome}
use Rattle.std.specs.Option.{option_map_or}
use Rattle.fp_base.specs.declared.meta_rule.MetaRule.TheVariants as rules
use Rattle.fp_keyfile.specs.KeyFile.{file_of}
use Rattle.fp_name.specs.Refs.{Ref}
use Rattle.fp_small.specs.declared.refusal.Refusal.{Refusal}
use Rattle.fp_small.specs.declared.refusal.Refusal.TheVariants.{NotInstalled, RuntimeMissing}
use Rattle.fp_small.specs.declared.state.State.{State}
use Rattle.fl_meta.specs.declared.meta.Meta.{Meta}
use Rattle.fl_extension.specs.declared.point.Point.{Point}
use Rattle.fl_installed.specs.Deployed.{DeployedFiles}
use Rattle.fl_installed.specs.Described.{broken, by_lines}
use Rattle.fl_installed.specs.Metadata.{points_in}
use Rattle.fl_extension.specs.Found.{row_of}
use Rattle.fl_installed.specs.declared.parts.DeployedMeta.{DeployedMeta}
use Rattle.fl_installed.specs.declared.parts.LaunchParts.{LaunchParts}

-- The metadata with these extension points, unless it was refused
abbrev pub with_points : List Point → Result Meta Refusal → Result DeployedMeta Refusal
with_points points (Ok meta) = Ok (record { meta = meta; points = points })
with_points points (Err refusal) = Err refusal

-- The metadata of a ref with its extension points, as parsed from a file, or the refusal, also if
-- there is no file
abbrev pub said_by : Ref → Option (List ℕ) → Result DeployedMeta Refusal
said_by name None = Err (broken name rules.Absent)
said_by name (Some bytes) = with_points (points_in name bytes) (by_lines name (file_of bytes))

-- The metadata of a ref by the file of its deployed commit, or the refusal
abbrev pub deployed : DeployedFiles → Ref → List ℕ → Result DeployedMeta Refusal
deployed files name commit = said_by name (files name commit)

-- The metadata of an application, which has to be installed
unfoldable pub app_in : DeployedFiles → State → Ref → Result DeployedMeta Refusal
app_in files state name =
    option_map_or (λ row. deployed files name row.commit) (row_of state name)
    (Err (NotInstalled name))

-- The metadata of a runtime, which has to be installed
unfoldable pub runtime_in : DeployedFiles → State → Ref → Result DeployedMeta Refusal
runtime_in files state name = option_map_or (λ row. deployed files name row.commit)
    (row_of state name) (Err (RuntimeMissing name))

-- The metadata of the runtime that the application's metadata names, or the refusal; the metadata
-- of a runtime names none
unfoldable pub runtime_of : DeployedFiles → State → Ref → Meta → Result DeployedMeta Refusal
runtime_of files state name app =
    option_map_or (runtime_in files state) app.runtime (Err (broken name rules.Runtime))

-- An application with its runtime, unless the runtime was refused
abbrev pub with_runtime : DeployedMeta → Result DeployedMeta Refusal → Result LaunchParts Refusal
with_runtime app (Ok runtime) = Ok (record { app = app; runtime = runtime })
with_runtime app (Err refusal) = Err refusal

-- An application with the runtime that it names, unless either was refused
abbrev pub with_app : DeployedFiles → State → Ref → Result DeployedMeta Refusal
    → Result LaunchParts Refusal
with_app files state name (Ok app) = with_runtime app (runtime_of files state name app.meta)
with_app files state name (Err refusal) = Err refusal

-- The metadata of an application and its runtime, or the first refusal: of the application, then of
-- its runtime
unfoldable pub parts_in : DeployedFiles → State → Ref → Result LaunchParts Refusal
parts_in files state name = with_app files state name (app_in files state name)

-- ---- results of calls

-- A runtime is named, if the metadata wasn't refused
abbrev pub IsNamed : Option Ref → Result DeployedMeta Refusal → Type 0
IsNamed runtime (Ok said) = IsSome runtime
IsNamed runtime (Err refusal) = Unit {0}

-- The application names a runtime, if nothing was refused
abbrev pub NamesRuntime : Result LaunchParts Refusal → Type 0
NamesRuntime (Ok parts) = IsSome parts.app.meta.runtime
NamesRuntime (Err refusal) = Unit {0}
