use Rattle.std.proofs.Common.{◌≡◌, drop, map}
use Rattle.fl_lines.specs.Advice.{said_in, refusals_said, said_by, advice_of}
use Rattle.fl_lines.proofs.advice.advice_on.Given as goal

abbrev pub invariant-loop-saying : goal.invariant-loop-saying
invariant-loop-saying l = advice_of l.line ≡ said_by (map said_in (drop l.saying-index l.saying-items)) l.line
