use Rattle.std.proofs.Common.{◌≡◌, ◌+◌, ◌≤◌, ◌++◌, length}
use Rattle.ost_description.specs.Descriptions.{pieces, rows_in, unformed_in}
use Rattle.ost_description.proofs.reading.lines_of.Given as goal

abbrev pub invariant-loop-line : goal.invariant-loop-line
invariant-loop-line l = record {
  rows : rows_in (pieces l.bytes) ≡ l.rows.items ++ rows_in (pieces l.rest);
  unformed : unformed_in 3 (pieces l.bytes) ≡ unformed_in l.number (pieces l.rest);
  few : length l.rows.items + length l.rest ≤ length l.bytes;
  number : l.number + length l.rest ≤ length l.bytes + 3;
}

abbrev pub decreases-loop-line : goal.decreases-loop-line
decreases-loop-line l = length l.rest
