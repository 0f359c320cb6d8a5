-- The head of a ref: its commit, checked as far as an installation needs to know it.
use Rattle.std.specs.Prelude.{◌≡◌, ℕ, Bool, true, false, List, [], ◌∷◌, length, codes, leb, Option, Some, None, Result, Ok, Err, if◌then◌else◌}
use Rattle.std.specs.Option.{option_or}
use Rattle.std.specs.List.{list_any}
use Rattle.std.specs.Str.{bytes_eq}
use Rattle.fp_base.specs.declared.object.ObjKind.TheVariants as kinds
use Rattle.fp_base.specs.declared.what.What.TheVariants as whats
use Rattle.fp_base.specs.declared.meta_rule.MetaRule.{MetaRule}
use Rattle.fp_base.specs.declared.meta_rule.MetaRule.TheVariants as meta_rules
use Rattle.fp_base.specs.declared.meta_rule.MetadataRule.TheVariants as metadata_rules
use Rattle.fp_keyfile.specs.declared.group.Group.{Group}
use Rattle.fp_keyfile.specs.declared.fault.KeyFault.{KeyFault}
use Rattle.fp_keyfile.specs.KeyFile.{file_of}
use Rattle.fp_name.specs.Refs.{Ref, ref_text}
use Rattle.fl_meta.specs.declared.meta.Meta.{Meta}
use Rattle.fl_meta.specs.Metadata.{meta_of, meta_kind}
use Rattle.fp_small.specs.declared.refusal.Refusal.{Refusal}
use Rattle.fp_small.specs.declared.refusal.Refusal.TheVariants as refusals
use Rattle.ost_model.specs.declared.limits.TheConstants.{MOST_METADATA_FILE_BYTES}
use Rattle.ost_model.specs.declared.object.Object.{Object}
use Rattle.ost_model.specs.declared.object.Object.TheVariants as objects
use Rattle.ost_model.specs.Fields.{CommitView, TreeView}
use Rattle.ost_model.specs.Objects.{Have}
use Rattle.ost_model.specs.Order.{commit_at, tree_at}
use Rattle.ost_model.specs.Look.{Found, nothing, directory, file_at, entry_in}
use Rattle.ost_model.specs.Binding.{binding_in}
use Rattle.ost_walk.specs.Refusals.{object_refused}
use Rattle.ost_head.specs.declared.head.Head.{Head}

-- ---- the commit

-- Tests whether a name is among the names
abbrev pub lists : List (List ℕ) → List ℕ → Bool
lists names name = list_any (λ n. bytes_eq n name) names

-- The refusal of a commit that has a ref binding without the ref
abbrev pub binding_refused : Ref → Option (List (List ℕ)) → Option Refusal
binding_refused name None = None
binding_refused name (Some names) =
    if lists names (ref_text name) then None else Some (refusals.RefBinding name)

-- The refusal of a commit that is older than the deployed one
abbrev pub age_refused : Ref → Option ℕ → ℕ → Option Refusal
age_refused name None offered = None
age_refused name (Some have) offered =
    if leb have offered then None else Some (refusals.Older name have offered)

-- The refusal of a commit for its ref binding, or else for its time
abbrev pub commit_refused : Ref → Option ℕ → CommitView → Option Refusal
commit_refused name since c =
    option_or (binding_refused name (binding_in c.metadata)) (age_refused name since c.timestamp)

-- ---- the root

-- Tests whether nothing was found
abbrev pub is_nothing : Found → Bool
is_nothing nothing = true
is_nothing (directory e) = false
is_nothing (file_at d) = false

-- The refusal of a commit whose root has an entry `deploy`
abbrev pub root_refused : List ℕ → TreeView → Option Refusal
root_refused commit v = if is_nothing (entry_in (codes "deploy") (Some v)) then None
    else Some (refusals.ReservedName commit)

-- ---- the file `metadata`

-- The refusal of a ref whose commit has no regular file `metadata`
abbrev pub no_metadata : Ref → Refusal
no_metadata name = refusals.BadMetadata name 0 (metadata_rules.Meta meta_rules.Absent)

-- The refusal of a ref by the result of reading its groups and keys
abbrev pub meta_refused : Ref → Result Meta MetaRule → Option Refusal
meta_refused name (Ok meta) = None
meta_refused name (Err rule) = Some (refusals.BadMetadata name 0 (metadata_rules.Meta rule))

-- The refusal of a ref by the result of parsing its file `metadata`
abbrev pub lines_refused : Ref → Result (List Group) KeyFault → Option Refusal
lines_refused name (Ok file) = meta_refused name (meta_of (meta_kind name.kind) file)
lines_refused name (Err fault) =
    Some (refusals.BadMetadata name fault.line (metadata_rules.Key fault.rule))

-- The refusal of a ref for its file `metadata`: it has more than 1 MiB, is no key file, or lacks
-- something that the metadata of an application or a runtime must have
abbrev pub metadata_refused : Ref → List ℕ → Option Refusal
metadata_refused name bytes = if leb (length bytes) MOST_METADATA_FILE_BYTES
    then lines_refused name (file_of bytes)
    else Some (refusals.Limit whats.MetadataFile (length bytes))

-- ---- the head

-- The refusal if there is one, and otherwise the answer
abbrev pub unless_refused : {A : Type 0} → Option Refusal → Result A Refusal → Result A Refusal
unless_refused (Some r) answer = Err r
unless_refused None answer = answer

-- The content of a regular file
abbrev pub content_in : Option Object → Option (List ℕ)
content_in None = None
content_in (Some (objects.File mode bytes)) = Some bytes
content_in (Some (objects.Link text)) = None
content_in (Some (objects.Meta bytes)) = None

-- The head with this content of the file `metadata`, or its refusal
abbrev pub with_content : Ref → List ℕ → ℕ → Option (List ℕ) → Result Head Refusal
with_content name commit time None = Err (no_metadata name)
with_content name commit time (Some bytes) = unless_refused (metadata_refused name bytes)
    (Ok (record { commit = commit; timestamp = time; metadata = bytes }))

-- The head whose entry `metadata` was found, or its refusal
abbrev pub metadata_at : Have → Ref → List ℕ → ℕ → Found → Result Head Refusal
metadata_at have name commit time (file_at d) = unless_refused (object_refused have d kinds.File)
    (with_content name commit time (content_in (have d kinds.File)))
metadata_at have name commit time (directory e) = Err (no_metadata name)
metadata_at have name commit time nothing = Err (no_metadata name)

-- The head of a commit with this root, or its refusal
abbrev pub head_in : Have → Ref → List ℕ → Option ℕ → CommitView → TreeView → Result Head Refusal
head_in have name commit since c v = unless_refused
    (option_or (commit_refused name since c) (root_refused commit v))
    (metadata_at have name commit c.timestamp (entry_in (codes "metadata") (Some v)))

-- The head of a commit whose root has this dirtree, or its refusal
abbrev pub with_tree : Have → Ref → List ℕ → Option ℕ → CommitView → Option TreeView
    → Result Head Refusal
with_tree have name commit since c None = Err (refusals.MissingObject c.tree kinds.DirTree)
with_tree have name commit since c (Some v) =
    unless_refused (object_refused have c.meta kinds.DirMeta) (head_in have name commit since c v)

-- The head of this commit, or its refusal
abbrev pub with_commit : Have → Ref → List ℕ → Option ℕ → Option CommitView → Result Head Refusal
with_commit have name commit since None = Err (refusals.MissingObject commit kinds.Commit)
with_commit have name commit since (Some c) = unless_refused
    (object_refused have c.tree kinds.DirTree)
    (with_tree have name commit since c (tree_at have c.tree))

-- The head of a ref with this commit, if a commit of the time `since` is deployed, or none is. The
-- refusals are, in order: the commit as an object; the root's dirtree and dirmeta as objects; the
-- ref binding; the time; an entry `deploy` in the root; the file `metadata` as an object, and its
-- content.
abbrev pub head_of : Have → Ref → List ℕ → Option ℕ → Result Head Refusal
head_of have name commit since = unless_refused (object_refused have commit kinds.Commit)
    (with_commit have name commit since (commit_at have commit))
