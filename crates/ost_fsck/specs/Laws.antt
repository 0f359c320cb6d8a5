-- The laws of reports, and the report of a small disk.
use Rattle.std.specs.Prelude.{◌≡◌, ◌||◌, ℕ, List, [], ◌∷◌, Bool, codes, if◌then◌else◌}
use Rattle.fp_host.specs.Paths.{Elements, path_eq}
use Rattle.fp_host.specs.Outcome.{Spot, gone, folder, holds, Disk}
use Rattle.fp_base.specs.declared.object.ObjKind.TheVariants as kinds
use Rattle.ost_model.specs.Objects.{object_path}
use Rattle.ost_model.specs.Stores.{objects_folder}
use Rattle.ost_fsck.specs.declared.report.Finding.TheVariants as findings
use Rattle.ost_fsck.specs.declared.report.Report.{Report}
use Rattle.ost_fsck.specs.Report.{Reports}

-- A disk has at most one report
abbrev pub OneReport : Type 0
OneReport = (root : Elements) (disk : Disk) (one two : Report) → Reports root disk one
    → Reports root disk two → one ≡ two

-- ---- a small store

-- A dirmeta with the mode 040755 (octal)
abbrev pub meta_bytes : List ℕ
meta_bytes = 0 ∷ 0 ∷ 0 ∷ 0 ∷ 0 ∷ 0 ∷ 0 ∷ 0 ∷ 0 ∷ 0 ∷ 65 ∷ 237 ∷ []

-- The digest of `meta_bytes`
abbrev pub meta : List ℕ
meta = 68 ∷ 106 ∷ 14 ∷ 241 ∷ 27 ∷ 124 ∷ 193 ∷ 103 ∷ 243 ∷ 182 ∷ 3 ∷ 229 ∷ 133 ∷ 199 ∷ 238 ∷ 238 ∷
    182 ∷ 117 ∷ 250 ∷ 164 ∷ 18 ∷ 213 ∷ 236 ∷ 115 ∷ 246 ∷ 41 ∷ 136 ∷ 235 ∷ 11 ∷ 108 ∷ 84 ∷ 136 ∷ []

-- The store's directory
abbrev pub root : Elements
root = codes "repo" ∷ []

-- The path of the dirmeta
abbrev pub good_name : Elements
good_name = object_path root meta kinds.DirMeta

-- The path of a dirtree at which an empty file is
abbrev pub bad_name : Elements
bad_name = object_path root meta kinds.DirTree

-- The path of a file that is no object's
abbrev pub stray_name : Elements
stray_name = codes "xx" ∷ objects_folder root

-- Tests whether the path is a directory
abbrev pub is_folder : Elements → Bool
is_folder path = path_eq path (codes "44" ∷ objects_folder root)
    || (path_eq path (objects_folder root) || (path_eq path root || path_eq path []))

-- The node at a path, by which path it is; all files have the permission bits 0644
abbrev pub spot_by : Bool → Bool → Bool → Bool → Spot
spot_by good bad stray above =
    if good then holds 1 0x1A4 meta_bytes
    else (if bad then holds 2 0x1A4 []
    else (if stray then holds 3 0x1A4 []
    else (if above then folder else gone)))

-- The disk with the good, the bad and the stray file
abbrev pub small_disk : Disk
small_disk path = spot_by (path_eq path good_name) (path_eq path bad_name)
    (path_eq path stray_name) (is_folder path)

-- The report of the small disk: the bad and the stray file, and two paths of objects
abbrev pub small_report : Report
small_report = record {
  findings = findings.Bad meta kinds.DirTree ∷ findings.Stray stray_name
      ∷ [];
  objects = 2;
}

-- The report of the small disk is `small_report`
abbrev pub SmallReport : Type 0
SmallReport = Reports root small_disk small_report
