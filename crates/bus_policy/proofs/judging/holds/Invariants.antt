use Rattle.std.proofs.Common.{◌≡◌, length}
use Rattle.bus_policy.specs.Verdicts.{holds_word}
use Rattle.bus_policy.proofs.judging.holds.Given as goal

abbrev pub invariant-loop-rest : goal.invariant-loop-rest
invariant-loop-rest l = holds_word l.word l.text ≡ holds_word l.word l.rest

abbrev pub decreases-loop-rest : goal.decreases-loop-rest
decreases-loop-rest l = length l.rest
