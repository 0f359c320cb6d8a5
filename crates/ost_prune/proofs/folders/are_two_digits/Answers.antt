use Rattle.std.proofs.Common.{arith}
use Rattle.ost_prune.proofs.Prefixes.{two_digits}
use Rattle.ost_prune.proofs.folders.are_two_digits.Goals as goal

pub returns-then-digits-eq2 : goal.returns-then-digits-eq2
returns-then-digits-eq2 c = two_digits c.args.digits.now c.are_digits.result (omega (arith, c.if-digits-eq2.true)) c.are_digits.ensures
