use Rattle.fp_memhost.proofs.Filing.{SettledFirst}
use Rattle.fp_memhost.proofs.files.settle.Given as goal

abbrev pub invariant-loop-file : goal.invariant-loop-file
invariant-loop-file l = SettledFirst l.file-index l.initial.file-items l.file-items
