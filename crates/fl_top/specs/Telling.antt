-- Commands that only print, whatever the installation.
use Rattle.std.specs.Prelude.{◌≡◌, ◌⊎◌, ℕ, Result, Ok, Err}
use Rattle.fp_host.specs.Paths.{Elements}
use Rattle.fp_host.specs.View.{View}
use Rattle.fp_host.specs.Outcome.{Disk}
use Rattle.fp_small.specs.declared.refusal.Refusal.{Refusal}
use Rattle.fp_small.specs.declared.refusal.Refusal.TheVariants.{BadRecord}
use Rattle.bus_stream.specs.declared.recording.Recording.{Recording}
use Rattle.fl_change.specs.World.{World}
use Rattle.fl_change.specs.Answer.{Answer}
use Rattle.fl_change.specs.Changes.{IsUntouched}
use Rattle.fl_change.specs.declared.end.RunEnd.{RunEnd}
use Rattle.fl_change.specs.declared.end.RunEnd.TheVariants.{Refused, Fault, RemoteFault, NoMemory}
use Rattle.fl_filter.specs.declared.end.FilterEnd.{FilterEnd}
use Rattle.fl_filter.specs.declared.end.FilterEnd.TheVariants as filter
use Rattle.fl_top.specs.Answer.{GivesWorld}
use Rattle.fl_top.specs.Moment.{Runs}

-- The first pieces of the answer were printed, and nothing else changed
pub record Tells (a : Answer) (u w : View) : Type 0 where
  pub runs : Runs a u w
  pub untouched : IsUntouched u w

-- The `RunEnd` that a `FilterEnd` is converted to
abbrev pub end_of_filter : FilterEnd → RunEnd
end_of_filter (filter.Refused refusal) = Refused refusal
end_of_filter filter.Fault = Fault
end_of_filter filter.NoMemory = NoMemory

-- The result is the recording that was read, or the refusal of its first bad line
abbrev pub IsRecording : Result Recording ℕ → Result Recording RunEnd → Type 0
IsRecording read (Ok recording) = read ≡ Ok recording
IsRecording read (Err (Refused refusal)) =
    (line : ℕ) × (read ≡ Err line) × (refusal ≡ BadRecord line)
IsRecording read (Err Fault) = ⊥
IsRecording read (Err RemoteFault) = ⊥
IsRecording read (Err NoMemory) = Unit {0}

-- ---- over what the image gives

-- `found` is what `by` gives over a result that the image gives, or over every result
abbrev pub IsFound : {A : Type 0} → (Result World Elements → A) → A → Disk → Type 0
IsFound by found disk = ((shown : Result World Elements) × GivesWorld disk shown
    × (by shown ≡ found)) ⊎ ((shown : Result World Elements) → by shown ≡ found)

-- The result is what was found, or the refusal, over what the image gives. If the host failed or
-- memory ran out, nothing is promised.
abbrev pub Finds : {A : Type 0} → (Result World Elements → Result A Refusal) → Result A RunEnd
    → Disk → Type 0
Finds by (Ok found) disk = IsFound by (Ok found) disk
Finds by (Err (Refused refusal)) disk = IsFound by (Err refusal) disk
Finds by (Err Fault) disk = Unit {0}
Finds by (Err RemoteFault) disk = ⊥
Finds by (Err NoMemory) disk = Unit {0}
