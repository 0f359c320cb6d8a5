use Rattle.std.proofs.Common.{◌≡◌, ◌-◌, length, drop}
use Rattle.std.specs.Str.{IsCharBoundary}
use Rattle.fp_keyfile.specs.Grammar.{is_blank}
use Rattle.fp_keyfile.specs.Lines.{trimmed_front}
use Rattle.fp_keyfile.proofs.line.trim_front.Given as goal

abbrev pub invariant-loop-start : goal.invariant-loop-start
invariant-loop-start l = record {
  boundary : IsCharBoundary l.bytes l.start;
  rest : trimmed_front is_blank (drop l.start l.bytes) ≡ trimmed_front is_blank l.bytes;
}

abbrev pub decreases-loop-start : goal.decreases-loop-start
decreases-loop-start l = length l.bytes - l.start
