use Rattle.std.proofs.Common.{◌≤◌, ◌<◌, ◌-◌, length}
use Rattle.fl_top.specs.Input.{input_most}
use Rattle.fl_top.proofs.Reading.{Reads}
use Rattle.fl_top.proofs.input.read_input.Given as goal

abbrev pub invariant-loop-bytes : goal.invariant-loop-bytes
invariant-loop-bytes g l = record {
  room : 0 < l.buffer.len;
  few : length l.bytes.items ≤ input_most;
  reads : Reads (g.I.Source.left l.initial.input) (g.I.Source.left l.input) l.bytes.items;
  later : g.I.Source.faults l.initial.input ≤ g.I.Source.faults l.input;
}

abbrev pub decreases-loop-bytes : goal.decreases-loop-bytes
decreases-loop-bytes g l = input_most - length l.bytes.items
