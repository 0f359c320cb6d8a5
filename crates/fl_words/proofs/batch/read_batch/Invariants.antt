use Rattle.std.proofs.Common.{◌≡◌, ◌+◌, ◌≤◌, length}
use Rattle.fp_keyfile.specs.Lines.{lines_of}
use Rattle.fl_words.specs.Batch.{batch_of}
use Rattle.fl_words.proofs.Batches.{going_on}
use Rattle.fl_words.proofs.batch.read_batch.Given as goal

abbrev pub invariant-loop-rest : goal.invariant-loop-rest
invariant-loop-rest l = record {
  counted : l.number + length l.rest ≤ length l.bytes;
  reads : going_on l.changes.items l.number (lines_of l.rest) ≡ batch_of l.bytes;
}

abbrev pub decreases-loop-rest : goal.decreases-loop-rest
decreases-loop-rest l = length l.rest
