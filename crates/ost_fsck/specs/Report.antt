-- The report of checking a store.
use Rattle.std.specs.Prelude.{◌≡◌, ◌≢◌, ◌↔◌, ℕ, List, length, map, true, Contains}
use Rattle.fp_host.specs.Paths.{Elements, path_text, IsAbove}
use Rattle.fp_host.specs.Outcome.{Spot, gone, folder, holds, points, Disk, IsLeafSpot}
use Rattle.fp_host.specs.Reads.{is_ascending}
use Rattle.fp_name.specs.Hex.{is_digest}
use Rattle.fp_base.specs.declared.object.ObjKind.{ObjKind}
use Rattle.ost_model.specs.Objects.{object_path, Named}
use Rattle.ost_model.specs.Stores.{objects_folder}
use Rattle.ost_store.specs.Names.{name_in, name_text}
use Rattle.ost_fsck.specs.declared.report.Finding.{Finding}
use Rattle.ost_fsck.specs.declared.report.Finding.TheVariants as findings
use Rattle.ost_fsck.specs.declared.report.Report.{Report}

-- A file or symlink is at the path of this object
pub record IsEntry (root : Elements) (disk : Disk) (object : List ℕ × ObjKind) : Type 0 where
  pub digits : is_digest object.0 ≡ true
  pub there : IsLeafSpot (disk (name_in root object))

-- A file or symlink is at the path of this object, but isn't that object
pub record IsBad (root : Elements) (disk : Disk) (object : List ℕ × ObjKind) : Type 0 where
  pub entry : IsEntry root disk object
  pub untrue : Named object.0 object.1 (disk (name_in root object)) → ⊥

-- The path is that of no object
abbrev pub IsNameless : Elements → Elements → Type 0
IsNameless root path =
    (object : List ℕ × ObjKind) → is_digest object.0 ≡ true → path ≢ name_in root object

-- The path is a file or symlink below `objects`, and is that of no object
pub record IsStray (root : Elements) (disk : Disk) (path : Elements) : Type 0 where
  pub below : IsAbove (objects_folder root) path
  pub there : IsLeafSpot (disk path)
  pub nameless : IsNameless root path

-- The finding is right
abbrev pub IsSo : Elements → Disk → Finding → Type 0
IsSo root disk (findings.Bad d kind) = IsBad root disk (d, kind)
IsSo root disk (findings.Stray path) = IsStray root disk path

-- The path of a finding
abbrev pub path_in : Elements → Finding → Elements
path_in root (findings.Bad d kind) = object_path root d kind
path_in root (findings.Stray path) = path

-- The text of a finding's path
abbrev pub text_in : Elements → Finding → List ℕ
text_in root finding = path_text (path_in root finding)

-- The report of the store at `root`. It has exactly the findings that are right, ascending by the
-- bytes of their paths. Each file or symlink at the path of an object is counted once, good or bad.
pub record Reports (root : Elements) (disk : Disk) (report : Report) : Type 0 where
  pub each : (finding : Finding) → Contains report.findings finding ↔ IsSo root disk finding
  pub ascending : is_ascending (map (text_in root) report.findings) ≡ true
  pub objects : List (List ℕ × ObjKind)
  pub entries : (object : List ℕ × ObjKind) → Contains objects object ↔ IsEntry root disk object
  pub once : is_ascending (map (name_text root) objects) ≡ true
  pub count : report.objects ≡ length objects
