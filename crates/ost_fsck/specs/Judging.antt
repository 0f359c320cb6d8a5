-- The check of one path below `objects`.
use Rattle.std.specs.Prelude.{◌≡◌, ◌&&◌, ℕ, List, Bool, true, not, is_some, if◌then◌else◌, Option, Some, None}
use Rattle.fp_host.specs.Paths.{Elements}
use Rattle.fp_host.specs.View.{View}
use Rattle.fp_host.specs.Outcome.{Spot, Disk, shows}
use Rattle.fp_host.specs.declared.host.Stat.{Stat}
use Rattle.fp_host.specs.declared.host.Stat.TheVariants.{Absent, Dir, File as StatFile, Link}
use Rattle.fp_name.specs.Hex.{is_digest}
use Rattle.fp_base.specs.declared.object.ObjKind.{ObjKind}
use Rattle.ost_model.specs.declared.limits.TheConstants.{MOST_METADATA_OBJECT_BYTES}
use Rattle.ost_model.specs.declared.object.Object.{Object}
use Rattle.ost_model.specs.Contents.{is_permission}
use Rattle.ost_model.specs.Objects.{object_path, object_at, store, name_fault, has_good_bits}
use Rattle.ost_model.specs.Readers.{broken_rule}
use Rattle.ost_fsck.specs.declared.report.Finding.{Finding}
use Rattle.ost_fsck.specs.declared.report.Finding.TheVariants as findings
use Rattle.ost_fsck.specs.Report.{IsNameless}
use Rattle.ost_store.specs.Names.{name_in}

-- The maximum size of a metadata object, in bytes
abbrev pub meta_most : ℕ
meta_most = MOST_METADATA_OBJECT_BYTES

-- Tests whether the bytes break no rule of their kind
abbrev pub keeps_rules : ObjKind → List ℕ → Bool
keeps_rules kind bytes = not (is_some (broken_rule kind bytes))

-- Tests whether an object is that of the digest and the kind
abbrev pub is_true : List ℕ → ObjKind → Option Object → Bool
is_true d kind object = not (is_some (name_fault d kind object))

-- Tests whether a file's permission bits are within 0775 (octal); anything else passes
abbrev pub has_bits : Stat → Bool
has_bits Absent = true
has_bits Dir = true
has_bits Link = true
has_bits (StatFile id mode size) = is_permission mode

-- Tests whether the node is the object of the digest and the kind, with good permission bits
abbrev pub is_named : List ℕ → ObjKind → Spot → Bool
is_named d kind spot = has_good_bits spot && is_true d kind (object_at kind spot)

-- `is` is whether the store at `root` has the object of the digest and the kind
pub record IsTrueAt (root : Elements) (d : List ℕ) (kind : ObjKind) (v : View) (is : Bool) : Type 0
  where
    pub same : is ≡ is_true d kind (store root (shows v) d kind)

-- `are` is whether the permission bits of the path are within 0775 (octal); true if it is no file
pub record AreBitsAt (path : Elements) (v : View) (are : Bool) : Type 0 where
  pub same : are ≡ has_good_bits (shows v path)

-- `is` is whether the store at `root` has the object of the digest and the kind, with good
-- permission bits
pub record IsNamedAt (root : Elements) (d : List ℕ) (kind : ObjKind) (v : View)
    (is : Bool) : Type 0 where
  pub same : is ≡ is_named d kind (shows v (object_path root d kind))

-- A finding that the object is bad, unless the test holds
abbrev pub bad_unless : Bool → List ℕ → ObjKind → Option Finding
bad_unless is d kind = if is then None else Some (findings.Bad d kind)

-- The path of an object was checked; `finding` is its fault, if it has one
pub record LooksAt (root : Elements) (d : List ℕ) (kind : ObjKind) (v : View) (is_object : Bool)
    (finding : Option Finding) : Type 0 where
  pub is : is_object ≡ true
  pub found : finding ≡ bad_unless (is_named d kind (shows v (object_path root d kind))) d kind

-- The path is that of this object, or of none
abbrev pub IsNameOf : Elements → Elements → Option (List ℕ × ObjKind) → Type 0
IsNameOf root path (Some object) = (is_digest object.0 ≡ true) × (path ≡ name_in root object)
IsNameOf root path None = IsNameless root path

-- The finding at a path, by the object whose path it is
abbrev pub finding_at : Elements → Option (List ℕ × ObjKind) → Disk → Option Finding
finding_at path None disk = Some (findings.Stray path)
finding_at path (Some object) disk =
    bad_unless (is_named object.0 object.1 (disk path)) object.0 object.1

-- The path was checked: whether it is that of an object, and the fault there
pub record Looks (root path : Elements) (v : View) (is_object : Bool)
    (finding : Option Finding) : Type 0 where
  pub object : Option (List ℕ × ObjKind)
  pub name : IsNameOf root path object
  pub is : is_object ≡ is_some object
  pub found : finding ≡ finding_at path object (shows v)
