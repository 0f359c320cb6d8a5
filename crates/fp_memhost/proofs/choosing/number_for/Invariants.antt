use Rattle.std.proofs.Common.{◌≡◌, drop}
use Rattle.fp_memhost.specs.Images.{number_for}
use Rattle.fp_memhost.proofs.choosing.number_for.Given as goal

abbrev pub invariant-loop-listed : goal.invariant-loop-listed
invariant-loop-listed l = number_for (drop l.listed-index l.numbers) l.path ≡ number_for l.numbers l.path
