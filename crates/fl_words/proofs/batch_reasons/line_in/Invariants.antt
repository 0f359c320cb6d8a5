use Rattle.std.proofs.Common.{◌≡◌, ◌+◌, ◌-◌, ◌≤◌, [], length, get_or}
use Rattle.fp_keyfile.specs.Lines.{lines_of}
use Rattle.fl_words.proofs.batch_reasons.line_in.Given as goal

abbrev pub invariant-loop-rest : goal.invariant-loop-rest
invariant-loop-rest l = record {
  counted : l.before + length l.rest ≤ length l.bytes + 1;
  there : get_or (lines_of l.rest) (l.number - l.before) [] ≡ get_or (lines_of l.bytes) (l.number - 1) [];
}

abbrev pub decreases-loop-rest : goal.decreases-loop-rest
decreases-loop-rest l = length l.rest
