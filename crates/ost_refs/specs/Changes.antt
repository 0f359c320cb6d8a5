-- Writing and removing refs.
use Rattle.std.specs.Prelude.{◌≡◌}
use Rattle.fp_host.specs.Paths.{Elements, absent}
use Rattle.fp_host.specs.View.{View}
use Rattle.fp_host.specs.Outcome.{gone, Disk, Leaves, IsSettled}
use Rattle.fp_small.specs.Places.{tmp}
use Rattle.fp_small.specs.Folders.{AreFree}
use Rattle.fp_small.specs.Replace.{folders_of, IsFreeFile}
use Rattle.fp_small.specs.Clear.{IsWithin}
use Rattle.ost_refs.specs.Places.{place_path}
use Rattle.ost_refs.specs.declared.place.RefPlace.{RefPlace}

-- The ref can be written: nothing or a file is at its place; the directories above it, `repo` and
-- `repo/tmp` are absent or directories; and the store is neither `repo/tmp` nor below it
pub record CanWrite (root : Elements) (place : RefPlace) (v : View) : Type 0 where
  pub entry : IsFreeFile (place_path root place) v
  pub folders : AreFree (folders_of (place_path root place)) v
  pub no_work : IsWithin tmp root → ⊥

-- Nothing is at the path, and every crash leaves exactly the present content
pub record WasDropped (p : Elements) (v : View) : Type 0 where
  pub name : v.names p ≡ absent
  pub gone : (disk : Disk) → Leaves v disk → disk p ≡ gone
  pub settled : IsSettled v
