-- The files and symlinks below the directory `exports`.
use Rattle.std.specs.Prelude.{◌≡◌, ◌==◌, ◌&&◌, ℕ, Bool, false, List, [], ◌∷◌, ◌++◌, map, codes, Contains}
use Rattle.std.specs.Str.{bytes_eq}
use Rattle.fp_host.specs.Paths.{Elements}
use Rattle.fp_host.specs.Outcome.{Spot, gone, folder, holds, points, Disk, IsLeafSpot}
use Rattle.fp_small.specs.Clear.{IsWithin}
use Rattle.fp_small.specs.Move.{IsNew}
use Rattle.fp_small.specs.declared.limits.TheConstants.{FILE_MODE}
use Rattle.fl_export.specs.declared.rows.ExportRow.{ExportRow}
use Rattle.fl_export.specs.declared.rows.ExportWhat.{ExportWhat}
use Rattle.fl_export.specs.declared.rows.ExportWhat.TheVariants as what

-- The path of the directory `exports`
abbrev pub exports : Elements
exports = codes "exports" ∷ []

-- The path of a row below `exports`
abbrev pub place_of : ExportRow → Elements
place_of row = row.path ++ exports

-- The paths of these rows below `exports`
abbrev pub places_of : List ExportRow → List Elements
places_of rows = map place_of rows

-- The node is the export: the file, with the permission bits 0644, or the symlink
abbrev pub IsExported : ExportWhat → Spot → Type 0
IsExported (what.Text bytes) spot = IsNew bytes spot
IsExported (what.Link text) spot = spot ≡ points text

-- The files and symlinks at or below `exports` are exactly these exports: each is at its path, and
-- no other path is a file or symlink
pub record ExportsAre (rows : List ExportRow) (disk : Disk) : Type 0 where
  pub each : (row : ExportRow) → Contains rows row → IsExported row.what (disk (place_of row))
  pub only : (q : Elements) → IsWithin exports q → (Contains (places_of rows) q → ⊥)
      → IsLeafSpot (disk q) → ⊥

-- ---- tests of nodes

-- Tests whether the node is a file with the permission bits 0644
abbrev pub has_bits : Spot → Bool
has_bits (holds id mode bytes) = mode == FILE_MODE
has_bits gone = false
has_bits folder = false
has_bits (points text) = false

-- Tests whether the node is a file with these bytes
abbrev pub has_bytes : List ℕ → Spot → Bool
has_bytes bytes (holds id mode found) = bytes_eq found bytes
has_bytes bytes gone = false
has_bytes bytes folder = false
has_bytes bytes (points text) = false

-- Tests whether the node is a file with these bytes and the permission bits 0644
abbrev pub is_text : List ℕ → Spot → Bool
is_text bytes spot = has_bits spot && has_bytes bytes spot

-- Tests whether the node is a symlink with this text
abbrev pub is_link : List ℕ → Spot → Bool
is_link text (points found) = bytes_eq found text
is_link text gone = false
is_link text folder = false
is_link text (holds id mode bytes) = false

-- Tests whether the node is the export
abbrev pub is_exported : ExportWhat → Spot → Bool
is_exported (what.Text bytes) spot = is_text bytes spot
is_exported (what.Link text) spot = is_link text spot
