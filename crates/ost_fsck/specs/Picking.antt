-- Findings path by path.
use Rattle.std.specs.Prelude.{◌≡◌, ◌↔◌, ℕ, List, length, map, true, Contains}
use Rattle.fp_host.specs.Paths.{Elements, path_text}
use Rattle.fp_host.specs.Reads.{is_ascending}
use Rattle.fp_host.specs.View.{View}
use Rattle.fp_host.specs.Outcome.{Disk, shows}
use Rattle.fp_name.specs.Hex.{is_digest}
use Rattle.fp_base.specs.declared.object.ObjKind.{ObjKind}
use Rattle.ost_model.specs.Objects.{object_path, Named}
use Rattle.ost_fsck.specs.declared.report.Finding.{Finding}
use Rattle.ost_fsck.specs.declared.report.Finding.TheVariants as findings
use Rattle.ost_fsck.specs.declared.report.Report.{Report}
use Rattle.ost_fsck.specs.Report.{path_in, IsNameless}
use Rattle.ost_store.specs.Names.{name_in}

-- The picked elements are exactly those with `Is` whose paths are in the list. If the paths in the
-- list ascend, so do theirs.
pub record Picks {A : Type 0} (Is : A → Type 0) (at : A → Elements) (paths : List Elements)
    (picked : List A) : Type 0 where
  pub each : (a : A) → Contains picked a ↔ (Is a × Contains paths (at a))
  pub ascending : is_ascending (map path_text paths) ≡ true
      → is_ascending (map (λ a. path_text (at a)) picked) ≡ true

-- The finding is right, if a file or symlink below `objects` is at its path
abbrev pub IsOff : Elements → Disk → Finding → Type 0
IsOff root disk (findings.Bad d kind) =
    (is_digest d ≡ true) × (Named d kind (disk (object_path root d kind)) → ⊥)
IsOff root disk (findings.Stray path) = IsNameless root path

-- The object has a valid digest
abbrev pub IsObject : List ℕ × ObjKind → Type 0
IsObject object = is_digest object.0 ≡ true

-- The report is that of checking these paths
pub record Checks (root : Elements) (paths : List Elements) (v : View) (report : Report) : Type 0
  where
    pub findings : Picks (IsOff root (shows v)) (path_in root) paths report.findings
    pub objects : List (List ℕ × ObjKind)
    pub entries : Picks IsObject (name_in root) paths objects
    pub count : report.objects ≡ length objects
