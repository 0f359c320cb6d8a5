use Rattle.std.proofs.Common.{◌≡◌, ◌++◌, true, length}
use Rattle.std.specs.List.{list_all}
use Rattle.fp_name.specs.Pins.{is_pin}
use Rattle.fp_keyfile.specs.Lines.{lines_of}
use Rattle.fp_small.proofs.old_pins.patterns_of.Given as goal

-- the patterns so far, and the lines that are left
abbrev pub invariant-loop-rest : goal.invariant-loop-rest
invariant-loop-rest l = record {
  lines : lines_of l.bytes ≡ l.pins.items ++ lines_of l.rest;
  good : list_all is_pin l.pins.items ≡ true;
}

abbrev pub decreases-loop-rest : goal.decreases-loop-rest
decreases-loop-rest l = length l.rest
