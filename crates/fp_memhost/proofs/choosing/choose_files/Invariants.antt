use Rattle.fp_memhost.proofs.Chosen.{ChosenTo}
use Rattle.fp_memhost.proofs.choosing.choose_files.Given as goal

abbrev pub invariant-loop-file : goal.invariant-loop-file
invariant-loop-file l = ChosenTo l.file-index l.files l.bytes l.chosen.items
