use Rattle.gv_decode.specs.Stepped.{IsOpen}
use Rattle.gv_tests.proofs.stepping.are_left.Given as goal

abbrev pub invariant-loop-each : goal.invariant-loop-each
invariant-loop-each l = IsOpen l.left
