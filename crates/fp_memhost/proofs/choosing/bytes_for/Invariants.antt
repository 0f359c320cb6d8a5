use Rattle.std.proofs.Common.{◌≡◌, drop}
use Rattle.fp_memhost.specs.Images.{bytes_for}
use Rattle.fp_memhost.proofs.choosing.bytes_for.Given as goal

abbrev pub invariant-loop-listed : goal.invariant-loop-listed
invariant-loop-listed l = bytes_for (drop l.listed-index l.chosen) l.id ≡ bytes_for l.chosen l.id
