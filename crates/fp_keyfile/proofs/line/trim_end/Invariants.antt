use Rattle.std.proofs.Common.{◌≡◌, take}
use Rattle.std.specs.Str.{IsCharBoundary}
use Rattle.fp_keyfile.specs.Grammar.{is_blank}
use Rattle.fp_keyfile.specs.Lines.{trimmed_end}
use Rattle.fp_keyfile.proofs.line.trim_end.Given as goal

abbrev pub invariant-loop-end : goal.invariant-loop-end
invariant-loop-end l = record {
  boundary : IsCharBoundary l.bytes l.end;
  rest : trimmed_end is_blank (take l.end l.bytes) ≡ trimmed_end is_blank l.bytes;
}

abbrev pub decreases-loop-end : goal.decreases-loop-end
decreases-loop-end l = l.end
