use Rattle.std.proofs.Common.{◌≡◌, ◌==◌, ◌+◌, ◌≤◌, length}
use Rattle.std.specs.List.{slice_split}
use Rattle.bus_stream.specs.Recordings.{said, Knows, with_lines, recording_of}
use Rattle.bus_stream.proofs.recording.read_recording.Given as goal

abbrev pub invariant-loop-line : goal.invariant-loop-line
invariant-loop-line l =
    Knows l.draft × (recording_of l.bytes ≡ with_lines l.number (said l.draft) (slice_split (λ b. b == 10) l.rest)) × (l.number + length l.rest ≤ length l.bytes + 1)

abbrev pub decreases-loop-line : goal.decreases-loop-line
decreases-loop-line l = length l.rest
