use Rattle.std.proofs.Common.{◌≢◌, ◌<◌, ◌≤◌, ℕ, length, None}
use Rattle.fp_memhost.specs.Files.{file_at}
use Rattle.fp_memhost.proofs.files.fresh_id.Given as goal

abbrev pub invariant-loop-id : goal.invariant-loop-id
invariant-loop-id l = (l.id ≤ length l.files) × ((k : ℕ) → l.id < k → k ≤ length l.files → file_at l.files k ≢ None)

abbrev pub decreases-loop-id : goal.decreases-loop-id
decreases-loop-id l = l.id
