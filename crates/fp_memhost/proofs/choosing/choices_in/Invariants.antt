use Rattle.std.proofs.Common.{◌≡◌, ◌++◌, drop}
use Rattle.fp_memhost.specs.Choosing.{choices_in}
use Rattle.fp_memhost.proofs.choosing.choices_in.Given as goal

abbrev pub invariant-loop-name : goal.invariant-loop-name
invariant-loop-name l = l.found.items ++ choices_in (drop l.name-index l.names) ≡ choices_in l.names
