-- The disks that a crash may leave, as they are seen when they are opened again.
use Rattle.std.specs.Prelude.{◌≡◌, ◌⊎◌, ℕ, List, true, Option, Some, None, [], false}
use Rattle.fp_host.specs.Paths.{Elements, Slot, absent, dir, file, link, at}
use Rattle.fp_host.specs.View.{View, Inode, MayBe}
use Rattle.fp_host.specs.Calls.{Change, makes_dir, creates, appends, links, makes_link, renames, unlinks, removes_dir, syncs, says}

-- The node at a path of a disk: nothing, a directory, a file with its id, mode and bytes, or a
-- symlink with its text
pub data Spot : Type 0 where
  gone : Spot
  folder : Spot
  holds : ℕ → ℕ → List ℕ → Spot
  points : List ℕ → Spot

-- The node is a file or a symlink
abbrev pub IsLeafSpot : Spot → Type 0
IsLeafSpot (holds id mode bytes) = Unit {0}
IsLeafSpot (points text) = Unit {0}
IsLeafSpot gone = ⊥
IsLeafSpot folder = ⊥

-- A disk: the node at each path
abbrev pub Disk : Type 0
Disk = Elements → Spot

-- The node of a file with this id; `gone` if there is no such file
abbrev pub holding : ℕ → Option Inode → Spot
holding id None = gone
holding id (Some f) = holds id f.mode f.bytes

-- The node that a directory entry refers to
abbrev pub spot_of : (ℕ → Option Inode) → Slot → Spot
spot_of files absent = gone
spot_of files dir = folder
spot_of files (link text) = points text
spot_of files (file id) = holding id (files id)

-- Two rows of a file with equal modes and any bytes, or both absent
abbrev pub IsSameMode : Option Inode → Option Inode → Type 0
IsSameMode None None = Unit {0}
IsSameMode (Some f) (Some g) = f.mode ≡ g.mode
IsSameMode None (Some g) = ⊥
IsSameMode (Some f) None = ⊥

-- A crash may leave the file `id` with this mode and these bytes
abbrev pub MayHold : View → ℕ → Option Inode → Type 0
MayHold v id row = (row ≡ v.files id) ⊎ ((v.dirty id ≡ true) × IsSameMode (v.files id) row)

-- A crash may leave this disk. Each name by itself has its present entry or an earlier one. A file
-- created since the last sync may have any bytes.
pub record Leaves (v : View) (disk : Disk) : Type 0 where
  pub names : Elements → Slot
  pub files : ℕ → Option Inode
  pub may_be : (p : Elements) → MayBe v p (names p)
  pub rows : (id : ℕ) → MayHold v id (files id)
  pub seen : (p : Elements) → disk p ≡ spot_of files (at names p)

-- Each disk that a crash may leave of `new` agrees with one that a crash may leave of `old`, except
-- at the paths where `G` allows the node there
pub record Follows (G : Elements → Spot → Type 0) (old new : View) : Type 0 where
  pub from : (disk : Disk) → Leaves new disk → (before : Disk) × Leaves old before
      × ((p : Elements) → (disk p ≡ before p) ⊎ G p (disk p))

-- The path `q` is `p`, and a crash may show the node there if the name has the entry `e`
abbrev pub Gives : View → Elements → Slot → Elements → Spot → Type 0
Gives v p e q spot = (q ≡ p)
    × ((files : ℕ → Option Inode) × ((id : ℕ) → MayHold v id (files id)) × (spot ≡ spot_of files e))

-- No node is allowed at any path
abbrev pub Nothing : Elements → Spot → Type 0
Nothing q spot = ⊥

-- A crash may show the node at the path `q` once the call was done or failed
abbrev pub GivesOf : Change → View → Elements → Spot → Type 0
GivesOf (makes_dir p) v q spot = (q ≡ p) × (spot ≡ folder)
GivesOf (creates p mode id) v q spot = (q ≡ p) × ((bytes : List ℕ) × (spot ≡ holds id mode bytes))
GivesOf (appends p bytes) v q spot = ⊥
GivesOf (links from to) v q spot = Gives v to (v.names from) q spot
GivesOf (makes_link text p) v q spot = (q ≡ p) × (spot ≡ points text)
GivesOf (renames from to) v q spot = Gives v to (v.names from) q spot ⊎ ((q ≡ from) × (spot ≡ gone))
GivesOf (unlinks p) v q spot = (q ≡ p) × (spot ≡ gone)
GivesOf (removes_dir p) v q spot = (q ≡ p) × (spot ≡ gone)
GivesOf syncs v q spot = ⊥
GivesOf (says piece) v q spot = ⊥

-- Every crash leaves exactly the present content: nothing waits for a sync
pub record IsSettled (v : View) : Type 0 where
  pub earlier : (q : Elements) → v.earlier q ≡ []
  pub dirty : (id : ℕ) → v.dirty id ≡ false

-- The disk of the view's present content
abbrev pub shows : View → Disk
shows v q = spot_of v.files (at v.names q)
