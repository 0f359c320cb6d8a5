use Rattle.fp_memhost.proofs.Chosen.{NamesTo}
use Rattle.fp_memhost.proofs.choosing.choose_names.Given as goal

abbrev pub invariant-loop-name : goal.invariant-loop-name
invariant-loop-name l = NamesTo l.name-index l.scene.names.items l.numbers l.chosen.items
