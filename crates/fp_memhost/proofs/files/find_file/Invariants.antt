use Rattle.std.proofs.Common.{◌≡◌, take, None}
use Rattle.fp_memhost.specs.Files.{file_at}
use Rattle.fp_memhost.proofs.files.find_file.Given as goal

abbrev pub invariant-loop-i : goal.invariant-loop-i
invariant-loop-i l = file_at (take l.i l.files) l.id ≡ None
