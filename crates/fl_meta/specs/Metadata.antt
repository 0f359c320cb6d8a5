-- Metadata files of applications and runtimes: flatpak-metadata(5).
use Rattle.std.specs.Prelude.{◌≢◌, ◌≡◌, ℕ, Bool, List, [], ◌∷◌, ◌++◌, drop, Option, Some, None, option_and_then, Result, Ok, Err, codes, nat_eq, if◌then◌else◌}
use Rattle.std.specs.List.{flat_map, list_any, starts_with}
use Rattle.std.specs.Str.{bytes_eq}
use Rattle.fp_keyfile.specs.declared.group.Group.{Group}
use Rattle.fp_keyfile.specs.KeyFile.{value_at}
use Rattle.fp_name.specs.Refs.{Ref, ref_of}
use Rattle.fp_name.specs.Kinds.{kind_word}
use Rattle.fp_name.specs.declared.kind.RefKind.{RefKind}
use Rattle.fp_name.specs.declared.kind.RefKind.TheVariants as refs
use Rattle.fl_meta.specs.declared.meta.MetaKind.{MetaKind}
use Rattle.fl_meta.specs.declared.meta.MetaKind.TheVariants as kinds
use Rattle.fl_meta.specs.declared.meta.Meta.{Meta}
use Rattle.fp_base.specs.declared.meta_rule.MetaRule.{MetaRule}
use Rattle.fp_base.specs.declared.meta_rule.MetaRule.TheVariants as rules
use Rattle.fl_meta.specs.declared.fault.MetaError.{MetaError}
use Rattle.fl_meta.specs.declared.fault.MetaError.TheVariants as errors
use Rattle.fl_meta.specs.declared.mentions.Source.TheVariants as sources
use Rattle.fl_meta.specs.Entries.{is_empty}
use Rattle.fl_meta.specs.Mentions.{file_mentions}

-- The kind of metadata for a ref of this kind
abbrev pub meta_kind : RefKind → MetaKind
meta_kind refs.App = kinds.App
meta_kind refs.Runtime = kinds.Runtime

-- The name of the group that a file of this kind has
abbrev pub kind_group : MetaKind → List ℕ
kind_group kinds.App = codes "Application"
kind_group kinds.Runtime = codes "Runtime"

-- Tests whether the file has a group of this name
abbrev pub has_group : List Group → List ℕ → Bool
has_group file name = list_any (λ g. bytes_eq g.name name) file

-- The runtime's ref for a text `ID/ARCH/BRANCH`; nothing for any other text
abbrev pub runtime_of : List ℕ → Option Ref
runtime_of text = ref_of (kind_word refs.Runtime ++ 47 ∷ text)

-- The name, if it isn't empty
abbrev pub name_remainder : List ℕ → List (List ℕ)
name_remainder name = if is_empty name then [] else name ∷ []

-- The NAME of a group `Extension NAME`, if it isn't empty
abbrev pub extension_of : Group → List (List ℕ)
extension_of g =
    if starts_with nat_eq g.name (codes "Extension ") then name_remainder (drop 10 g.name) else []

-- The names of the groups `Extension NAME`, in the order of the file
unfoldable pub extensions_of : List Group → List (List ℕ)
extensions_of file = flat_map extension_of file

-- The metadata with this kind, runtime and command, and with the file's mentions and extensions
abbrev pub meta_with : List Group → MetaKind → Option Ref → Option (List ℕ) → Meta
meta_with file kind runtime command = record {
  kind = kind;
  runtime = runtime;
  command = command;
  mentions = file_mentions sources.Metadata file;
  extensions = extensions_of file;
}

-- The runtime of an application, if the file has one that is a ref
unfoldable pub runtime_in : List Group → Option Ref
runtime_in file = option_and_then runtime_of (value_at file (codes "Application") (codes "runtime"))

-- The command of an application, if the file has one
unfoldable pub command_in : List Group → Option (List ℕ)
command_in file = value_at file (codes "Application") (codes "command")

-- The metadata of an application with this runtime; an error if there is none
abbrev pub app_of : List Group → Option Ref → Result Meta MetaRule
app_of file None = Err rules.Runtime
app_of file (Some runtime) = Ok (meta_with file kinds.App (Some runtime) (command_in file))

-- The metadata of a runtime
abbrev pub runtime_meta : List Group → Meta
runtime_meta file = meta_with file kinds.Runtime None None

-- The metadata of this kind, for a file that has the group of the kind
abbrev pub meta_in : MetaKind → List Group → Result Meta MetaRule
meta_in kinds.App file = app_of file (runtime_in file)
meta_in kinds.Runtime file = Ok (runtime_meta file)

-- The metadata of this kind that a key file is, or the first rule that it breaks
unfoldable pub meta_of : MetaKind → List Group → Result Meta MetaRule
meta_of kind file = if has_group file (kind_group kind) then meta_in kind file else Err rules.Group

-- No rule is broken
abbrev pub IsGood : Result Meta MetaRule → Type 0
IsGood (Ok meta) = Unit {0}
IsGood (Err rule) = ⊥

-- The cause of an error: memory runs out only if no rule is broken
abbrev pub Fails : MetaError → Result Meta MetaRule → Type 0
Fails errors.NoMemory read = IsGood read
Fails (errors.Rule rule) read = read ≡ Err rule

-- The result of reading metadata is this, or memory ran out and no rule is broken
abbrev pub Gives : Result Meta MetaError → Result Meta MetaRule → Type 0
Gives (Ok meta) read = read ≡ Ok meta
Gives (Err e) read = Fails e read

-- The cause of an error: the rule `Runtime` is broken if there is no runtime; memory runs out only
-- if there is one
abbrev pub NoRuntime : MetaError → Option Ref → Type 0
NoRuntime errors.NoMemory read = read ≢ None
NoRuntime (errors.Rule rules.Runtime) read = read ≡ None
NoRuntime (errors.Rule rules.Group) read = ⊥
NoRuntime (errors.Rule rules.Absent) read = ⊥

-- The result of reading a runtime is this, or memory ran out and there is one
abbrev pub GivesRuntime : Result Ref MetaError → Option Ref → Type 0
GivesRuntime (Ok runtime) read = read ≡ Some runtime
GivesRuntime (Err e) read = NoRuntime e read
