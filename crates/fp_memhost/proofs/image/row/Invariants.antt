use Rattle.std.proofs.Common.{◌≡◌, drop}
use Rattle.fp_memhost.specs.Images.{rows_of}
use Rattle.fp_memhost.proofs.image.row.Given as goal

abbrev pub invariant-loop-file : goal.invariant-loop-file
invariant-loop-file l = rows_of (drop l.file-index l.files) l.id ≡ rows_of l.files l.id
