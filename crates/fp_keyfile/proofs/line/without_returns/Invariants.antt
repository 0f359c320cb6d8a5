use Rattle.std.proofs.Common.{◌≡◌, ◌≤◌, length, take}
use Rattle.fp_keyfile.specs.Grammar.{is_return}
use Rattle.fp_keyfile.specs.Lines.{trimmed_end}
use Rattle.fp_keyfile.proofs.line.without_returns.Given as goal

abbrev pub invariant-loop-end : goal.invariant-loop-end
invariant-loop-end l = record {
  within : l.end ≤ length l.line;
  rest : trimmed_end is_return (take l.end l.line) ≡ trimmed_end is_return l.line;
}

abbrev pub decreases-loop-end : goal.decreases-loop-end
decreases-loop-end l = l.end
