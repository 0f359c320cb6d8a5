-- The content of the generated remotes.
use Rattle.std.specs.Prelude.{◌≡◌, ℕ, List, Option, Some, None, if◌then◌else◌}
use Rattle.std.specs.Str.{bytes_eq}
use Rattle.fp_host.specs.Paths.{Elements}
use Rattle.fp_host.specs.Outcome.{gone, Disk}
use Rattle.fp_host.specs.Remote.{Holdings}
use Rattle.ost_export.specs.Remotes.{held_of}
use Rattle.fl_gen.specs.declared.remotes.GenRemotes.{GenRemotes}
use Rattle.fl_gen.specs.declared.remotes.TheConstants.{FIRST_URL, SECOND_URL}
use Rattle.fl_gen.specs.Made.{wares}
use Rattle.fl_gen.specs.Stores.{IsStoreOf}
use Rattle.fl_gen.specs.Keeping.{disk_of_rows}

-- The URL of the store with the first version
abbrev pub first_url : List ℕ
first_url = FIRST_URL.now

-- The URL of the store with the second version
abbrev pub second_url : List ℕ
second_url = SECOND_URL.now

-- The first at the first URL, the second at the second, and nothing at others
abbrev pub at_urls : {A : Type 0} → A → A → List ℕ → Option A
at_urls first second url = if bytes_eq url first_url then Some first
    else (if bytes_eq url second_url then Some second else None)

-- The disk, or one with nothing if there is none
abbrev pub disk_by : Option Disk → Disk
disk_by None q = gone
disk_by (Some disk) q = disk q

-- The content of the remotes, given the disks of the two stores
abbrev pub held_by : Disk → Disk → Holdings
held_by first second url q = held_of (disk_by (at_urls first second url) q)

-- The content of the generated remotes
abbrev pub holdings_of : GenRemotes → Holdings
holdings_of g = held_by (disk_of_rows g.first.rows.items) (disk_of_rows g.second.rows.items)

-- The remotes hold what the generator makes for this number of applications: the stores of its two
-- versions, and nothing at other URLs
pub record IsGenerated (apps : ℕ) (held : Holdings) : Type 0 where
  pub first : Disk
  pub second : Disk
  pub first_is : IsStoreOf 1 (wares 1 apps) first
  pub second_is : IsStoreOf 2 (wares 2 apps) second
  pub holds : (url : List ℕ) (q : Elements) → held url q ≡ held_by first second url q
