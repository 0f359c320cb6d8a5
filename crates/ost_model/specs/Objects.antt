-- The objects of a store, and the faults of an object.
use Rattle.std.specs.Prelude.{◌≡◌, ℕ, List, ◌∷◌, ◌++◌, ◌%◌, length, take, drop, Bool, true, false, not, leb, if◌then◌else◌, Option, Some, None, codes}
use Rattle.std.specs.Option.{option_or}
use Rattle.std.specs.Str.{bytes_eq}
use Rattle.fp_name.specs.Hex.{hex}
use Rattle.fp_host.specs.Paths.{Elements, is_link_text}
use Rattle.fp_host.specs.Outcome.{Spot, gone, folder, holds, points, Disk}
use Rattle.fp_base.specs.Objects.{kind_text}
use Rattle.fp_base.specs.declared.object.ObjKind.{ObjKind}
use Rattle.fp_base.specs.declared.object.ObjKind.TheVariants as kinds
use Rattle.ost_model.specs.declared.limits.TheConstants.{LOWEST_TYPE_BIT, MOST_METADATA_OBJECT_BYTES, MOST_FILE_BYTES}
use Rattle.ost_model.specs.declared.object.Object.{Object}
use Rattle.ost_model.specs.declared.object.Object.TheVariants as objects
use Rattle.fp_base.specs.declared.rule.Rule.{Rule}
use Rattle.ost_model.specs.Contents.{is_permission, file_digest, link_digest, meta_digest}
use Rattle.ost_model.specs.Fields.{MetaView}
use Rattle.ost_model.specs.Readers.{meta_of, broken_rule}

-- A source of objects: the object of each digest and kind, if there is one
abbrev pub Have : Type 0
Have = List ℕ → ObjKind → Option Object

-- The path of an object in the store at `root`: `objects/XX/REST.KIND`, where XX is the first two
-- hexadecimal digits of the digest
abbrev pub object_path : Elements → List ℕ → ObjKind → Elements
object_path root d kind =
    (drop 2 (hex d) ++ (codes "." ++ kind_text kind)) ∷ (take 2 (hex d) ∷ (codes "objects" ∷ root))

-- Tests whether an object of this kind may be a symlink
abbrev pub may_be_link : ObjKind → Bool
may_be_link kinds.File = true
may_be_link kinds.Commit = false
may_be_link kinds.DirTree = false
may_be_link kinds.DirMeta = false

-- Tests whether an object is of the kind: a regular file or a symlink for `File`, else the bytes of
-- a metadata object
abbrev pub is_of_kind : ObjKind → Object → Bool
is_of_kind kind (objects.Meta bytes) = not (may_be_link kind)
is_of_kind kind (objects.File mode bytes) = may_be_link kind
is_of_kind kind (objects.Link text) = may_be_link kind

-- The node as an object of the kind, if it is one
abbrev pub object_at : ObjKind → Spot → Option Object
object_at kind gone = None
object_at kind folder = None
object_at kinds.File (holds id mode bytes) = Some (objects.File mode bytes)
object_at kinds.Commit (holds id mode bytes) = Some (objects.Meta bytes)
object_at kinds.DirTree (holds id mode bytes) = Some (objects.Meta bytes)
object_at kinds.DirMeta (holds id mode bytes) = Some (objects.Meta bytes)
object_at kinds.File (points text) = if is_link_text text then Some (objects.Link text) else None
object_at kinds.Commit (points text) = None
object_at kinds.DirTree (points text) = None
object_at kinds.DirMeta (points text) = None

-- The objects of the store at `root`, whether or not they match their names
abbrev pub store : Elements → Disk → Have
store root disk d kind = object_at kind (disk (object_path root d kind))

-- A fault of an object in a commit: too many objects come before it, it is too deep, it is missing,
-- its length in bytes is above the limit, its mode is refused, it has another digest, or it breaks
-- a rule
pub data Fault : Type 0 where
  too_many : Fault
  too_deep : Fault
  missing : Fault
  too_long : ℕ → Fault
  refused_mode : ℕ → Fault
  corrupt : List ℕ → Fault
  malformed : Rule → Fault

-- The objects of a store and a remote together: the store's object if it has one, else the remote's
abbrev pub supply : Have → Have → Have
supply own remote d kind = option_or (own d kind) (remote d kind)

-- The fault, unless the test holds
abbrev pub unless : Bool → Fault → Option Fault
unless true f = None
unless false f = Some f

-- The fault of an object's length: a metadata object has at most 16 MiB, a file at most 1 GiB
abbrev pub length_fault : Object → Option Fault
length_fault (objects.Meta bytes) =
    unless (leb (length bytes) MOST_METADATA_OBJECT_BYTES) (too_long (length bytes))
length_fault (objects.File mode bytes) =
    unless (leb (length bytes) MOST_FILE_BYTES) (too_long (length bytes))
length_fault (objects.Link text) = None

-- The fault of a file's permission bits, which must be within 0775 (octal)
abbrev pub mode_fault : Object → Option Fault
mode_fault (objects.Meta bytes) = None
mode_fault (objects.File mode bytes) = unless (is_permission mode) (refused_mode mode)
mode_fault (objects.Link text) = None

-- The digest of an object
abbrev pub digest_of : Object → List ℕ
digest_of (objects.Meta bytes) = meta_digest bytes
digest_of (objects.File mode bytes) = file_digest mode bytes
digest_of (objects.Link text) = link_digest text

-- The fault of an object that has another digest than `d`
abbrev pub digest_fault : List ℕ → Object → Option Fault
digest_fault d object = unless (bytes_eq (digest_of object) d) (corrupt (digest_of object))

-- The fault of a broken rule
abbrev pub as_malformed : Option Rule → Option Fault
as_malformed None = None
as_malformed (Some rule) = Some (malformed rule)

-- The fault of a metadata object that breaks a rule of its kind
abbrev pub rule_fault : ObjKind → Object → Option Fault
rule_fault kind (objects.Meta bytes) = as_malformed (broken_rule kind bytes)
rule_fault kind (objects.File mode bytes) = None
rule_fault kind (objects.Link text) = None

-- The fault of an object of another kind, which counts as missing
abbrev pub kind_fault : ObjKind → Object → Option Fault
kind_fault kind object = unless (is_of_kind kind object) missing

-- The first fault of an object's content under a digest: in its length, its mode, its digest, and
-- the rules of its kind
abbrev pub content_fault : List ℕ → ObjKind → Object → Option Fault
content_fault d kind object = option_or (length_fault object)
    (option_or (mode_fault object) (option_or (digest_fault d object) (rule_fault kind object)))

-- The first fault of an object under a name: it is missing or of another kind, or it has a fault of
-- its content
abbrev pub name_fault : List ℕ → ObjKind → Option Object → Option Fault
name_fault d kind None = Some missing
name_fault d kind (Some object) = option_or (kind_fault kind object) (content_fault d kind object)

-- The fault of a directory's permission bits, which must be within 0775 (octal)
abbrev pub dir_bits : Option MetaView → Option Fault
dir_bits None = None
dir_bits (Some m) = unless (is_permission (m.mode % LOWEST_TYPE_BIT)) (refused_mode m.mode)

-- The fault of the permission bits in a dirmeta; no other object has one
abbrev pub dir_mode_fault : ObjKind → Option Object → Option Fault
dir_mode_fault kinds.DirMeta (Some (objects.Meta bytes)) = dir_bits (meta_of bytes)
dir_mode_fault kind object = None

-- The first fault of an object that is to be used: one under its name, or one of a directory's
-- permission bits
abbrev pub object_fault : List ℕ → ObjKind → Option Object → Option Fault
object_fault d kind object = option_or (name_fault d kind object) (dir_mode_fault kind object)

-- Tests whether a file's permission bits are within 0775 (octal); any other node passes
abbrev pub has_good_bits : Spot → Bool
has_good_bits (holds id mode bytes) = is_permission mode
has_good_bits gone = true
has_good_bits folder = true
has_good_bits (points text) = true

-- The node is the object of this digest and kind, and its permission bits are good
pub record Named (d : List ℕ) (kind : ObjKind) (spot : Spot) : Type 0 where
  pub bits : has_good_bits spot ≡ true
  pub good : name_fault d kind (object_at kind spot) ≡ None
