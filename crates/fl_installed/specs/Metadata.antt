-- Parsing of a file `metadata`.
use Rattle.std.specs.Prelude.{ℕ, List, [], Option, Some, None, Result, Ok, Err}
use Rattle.fp_keyfile.specs.declared.group.Group.{Group}
use Rattle.fp_keyfile.specs.declared.fault.KeyFault.{KeyFault}
use Rattle.fp_keyfile.specs.KeyFile.{file_of}
use Rattle.fp_name.specs.Refs.{Ref}
use Rattle.fp_base.specs.declared.meta_rule.MetaRule.{MetaRule}
use Rattle.fl_meta.specs.declared.meta.Meta.{Meta}
use Rattle.fl_meta.specs.Metadata.{meta_of, meta_kind}
use Rattle.fl_extension.specs.declared.point.Point.{Point}
use Rattle.fl_extension.specs.Points.{points_of}

-- The groups of a parsed key file; none if it didn't parse
abbrev pub groups_in : Result (List Group) KeyFault → List Group
groups_in (Ok file) = file
groups_in (Err fault) = []

-- The metadata, unless it breaks a rule
abbrev pub if_meta : Result Meta MetaRule → Option Meta
if_meta (Ok meta) = Some meta
if_meta (Err rule) = None

-- The metadata of a ref, if the bytes are valid metadata of its kind
unfoldable pub meta_said : Ref → List ℕ → Option Meta
meta_said name bytes = if_meta (meta_of (meta_kind name.kind) (groups_in (file_of bytes)))

-- The runtime that the metadata names, unless it breaks a rule
abbrev pub runtime_in : Result Meta MetaRule → Option Ref
runtime_in (Ok meta) = meta.runtime
runtime_in (Err rule) = None

-- The runtime that an application's metadata names; a runtime's metadata names none
unfoldable pub runtime_named : Ref → List ℕ → Option Ref
runtime_named name bytes = runtime_in (meta_of (meta_kind name.kind) (groups_in (file_of bytes)))

-- The extension points in the metadata of a ref
unfoldable pub points_in : Ref → List ℕ → List Point
points_in name bytes = points_of (groups_in (file_of bytes)) name
