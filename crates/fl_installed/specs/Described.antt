-- The description of a ref's commit by its metadata, or the refusal.
use Rattle.std.specs.Prelude.{◌≡◌, ℕ, List, true, Option, Some, None, Result, Ok, Err}
use Rattle.fp_base.specs.declared.meta_rule.MetaRule.{MetaRule}
use Rattle.fp_base.specs.declared.meta_rule.MetaRule.TheVariants as rules
use Rattle.fp_base.specs.declared.meta_rule.MetadataRule.TheVariants as metadata_rules
use Rattle.fp_keyfile.specs.declared.group.Group.{Group}
use Rattle.fp_keyfile.specs.declared.fault.KeyFault.{KeyFault}
use Rattle.fp_keyfile.specs.KeyFile.{are_distinct, file_of}
use Rattle.fp_name.specs.Refs.{Ref}
use Rattle.fp_small.specs.Order.{sorted_by}
use Rattle.fp_small.specs.declared.refusal.Refusal.{Refusal}
use Rattle.fp_small.specs.declared.refusal.Refusal.TheVariants as refusals
use Rattle.fl_meta.specs.declared.meta.Meta.{Meta}
use Rattle.fl_meta.specs.Metadata.{meta_of, meta_kind}
use Rattle.ost_model.specs.Objects.{Have}
use Rattle.fl_installed.specs.Deployed.{DeployedFiles}
use Rattle.fl_installed.specs.Files.{metadata_file}
use Rattle.fl_installed.specs.declared.info.Info.{Info}

-- The refusal of metadata that breaks a rule, with line 0
abbrev pub broken : Ref → MetaRule → Refusal
broken name rule = refusals.BadMetadata name 0 (metadata_rules.Meta rule)

-- The metadata, or the refusal with the rule that it breaks
abbrev pub by_rules : Ref → Result Meta MetaRule → Result Meta Refusal
by_rules name (Ok meta) = Ok meta
by_rules name (Err rule) = Err (broken name rule)

-- The metadata in a parsed key file, or the refusal, with the line if it didn't parse
abbrev pub by_lines : Ref → Result (List Group) KeyFault → Result Meta Refusal
by_lines name (Ok file) = by_rules name (meta_of (meta_kind name.kind) file)
by_lines name (Err fault) =
    Err (refusals.BadMetadata name fault.line (metadata_rules.Key fault.rule))

-- The metadata in the file of a ref's commit, or the refusal: the file is missing, isn't a key
-- file, or isn't valid metadata of the ref's kind
abbrev pub by_file : Ref → Option (List ℕ) → Result Meta Refusal
by_file name None = Err (broken name rules.Absent)
by_file name (Some bytes) = by_lines name (file_of bytes)

-- The metadata of a ref's commit in a store, or the refusal
unfoldable pub described : Have → Ref → List ℕ → Result Meta Refusal
described have name commit = by_file name (metadata_file have commit)

-- No extension occurs twice in the metadata, if it wasn't refused
abbrev pub NamesOnce : Result Meta Refusal → Type 0
NamesOnce (Ok meta) = are_distinct meta.extensions ≡ true
NamesOnce (Err refusal) = Unit {0}

-- ---- the description

-- The description of a ref with this metadata: its runtime, and the names of its extensions,
-- ascending
abbrev pub info_of : Meta → Info
info_of meta =
    record { runtime = meta.runtime; extensions = sorted_by (λ name. name) meta.extensions }

-- The description, unless the metadata was refused
abbrev pub as_info : Result Meta Refusal → Result Info Refusal
as_info (Ok meta) = Ok (info_of meta)
as_info (Err refusal) = Err refusal

-- The description of a ref by the file `metadata` of its deployed commit, or the refusal
abbrev pub info_in : DeployedFiles → Ref → List ℕ → Result Info Refusal
info_in files name commit = as_info (by_file name (files name commit))
