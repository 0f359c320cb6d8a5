-- Disks that a crash may leave, with a choice for one name or one file.
use Rattle.std.specs.Prelude.{ℕ, ◌∷◌, [], Some, codes}
use Rattle.fp_host.specs.Paths.{Elements, Slot, set_at, at}
use Rattle.fp_host.specs.View.{View, Inode}
use Rattle.fp_host.specs.Calls.{set_file}
use Rattle.fp_host.specs.Outcome.{Disk, spot_of}

-- The path `a`, directly below the root
abbrev pub first : Elements
first = codes "a" ∷ []

-- The path `b`, directly below the root
abbrev pub second : Elements
second = codes "b" ∷ []

-- The disk of the present content, but with this entry at one name
abbrev pub with_entry : View → Elements → Slot → Disk
with_entry v p e q = spot_of v.files (at (set_at v.names p e) q)

-- The disk of the present content, but with this mode and these bytes in one file
abbrev pub with_row : View → ℕ → Inode → Disk
with_row v id f q = spot_of (set_file v.files id (Some f)) (at v.names q)
