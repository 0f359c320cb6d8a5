use Rattle.std.proofs.Common.{◌≡◌, suc, ◌+◌, ◌≤◌, length}
use Rattle.fp_keyfile.specs.Lines.{lines_of}
use Rattle.fp_keyfile.specs.KeyFile.{file_from, file_of}
use Rattle.fp_keyfile.specs.Draft.{reading, IsIndexed}
use Rattle.fp_keyfile.proofs.parsing.read_groups.Given as goal

abbrev pub invariant-loop-rest : goal.invariant-loop-rest
invariant-loop-rest l = record {
  counted : l.number + length l.rest ≤ length l.bytes;
  indexed : IsIndexed l.draft;
  reads : file_from (suc l.number) (reading l.draft) (lines_of l.rest) ≡ file_of l.bytes;
}

abbrev pub decreases-loop-rest : goal.decreases-loop-rest
decreases-loop-rest l = length l.rest
