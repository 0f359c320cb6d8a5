use Rattle.std.proofs.Common.{◌≡◌, drop}
use Rattle.fp_memhost.specs.Soundness.{are_good_rows}
use Rattle.fp_memhost.proofs.image.Image.are_good_files.Given as goal

abbrev pub invariant-loop-file : goal.invariant-loop-file
invariant-loop-file l = are_good_rows l.self (drop l.file-index l.file-items) ≡ are_good_rows l.self l.file-items
