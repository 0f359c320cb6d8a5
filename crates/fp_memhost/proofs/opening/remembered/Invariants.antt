use Rattle.fp_memhost.proofs.Opened.{StoodFrom}
use Rattle.fp_memhost.proofs.opening.remembered.Given as goal

abbrev pub invariant-loop-path : goal.invariant-loop-path
invariant-loop-path l = StoodFrom l.path-index l.names l.stood.items
