-- The view of a host that has exactly these rows, and keeps them after every crash.
use Rattle.std.specs.Prelude.{◌==◌, ℕ, false, List, [], ◌∷◌, map, Option, Some, None, if◌then◌else◌}
use Rattle.fp_host.specs.Paths.{Elements, Slot, absent, dir, file, link}
use Rattle.fp_host.specs.Outcome.{Spot, gone, folder, holds, points}
use Rattle.fp_host.specs.View.{View, Inode}
use Rattle.dep_states.specs.Samples.{rows_at}
use Rattle.fl_samples.specs.Image.{whole_rows}

-- The directory entry for a node
abbrev pub slot_of : Spot → Slot
slot_of gone = absent
slot_of folder = dir
slot_of (holds id mode bytes) = file id
slot_of (points text) = link text

-- A file with these permission bits and bytes
abbrev pub inode : ℕ → List ℕ → Inode
inode mode bytes = record { mode = mode; bytes = bytes }

-- The file with this id, if it is this node, else `rest`
abbrev pub file_in : ℕ → Spot → Option Inode → Option Inode
file_in id (holds own mode bytes) rest =
    if id == own then Some (inode mode bytes) else rest
file_in id gone rest = rest
file_in id folder rest = rest
file_in id (points text) rest = rest

-- The first file with this id in the rows
abbrev pub file_among : List (Elements × Spot) → ℕ → Option Inode
file_among [] id = None
file_among (row ∷ rows) id = file_in id row.1 (file_among rows id)

-- The remembered entry for a row
abbrev pub put_of : Elements × Spot → Elements × Slot
put_of row = (row.0, slot_of row.1)

-- The view with exactly these rows, of which nothing waits for a sync
abbrev pub view_of : List (Elements × Spot) → View
view_of rows = record {
  names = λ p. slot_of (rows_at rows p);
  files = file_among rows;
  earlier = λ p. [];
  dirty = λ id. false;
  printed = [];
  stood = map put_of rows;
}

-- The view of the sample installation
abbrev pub whole_view : View
whole_view = view_of whole_rows
