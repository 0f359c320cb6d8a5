use Rattle.std.proofs.Common.{◌≡◌, drop}
use Rattle.fp_memhost.specs.Story.{fails_at}
use Rattle.fp_memhost.proofs.mem.MemHost.verdict.Given as goal

abbrev pub invariant-loop-number : goal.invariant-loop-number
invariant-loop-number l = fails_at (drop l.number-index l.number-items) l.call ≡ fails_at l.number-items l.call
