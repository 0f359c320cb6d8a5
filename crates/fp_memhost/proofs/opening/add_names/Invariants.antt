use Rattle.fp_memhost.specs.Names.{IsAscending}
use Rattle.fp_memhost.proofs.Opened.{BuiltFrom}
use Rattle.fp_memhost.proofs.opening.add_names.Given as goal

abbrev pub invariant-loop-left : goal.invariant-loop-left
invariant-loop-left l = IsAscending l.opened.items × BuiltFrom l.left l.names l.initial.opened.items l.opened.items

abbrev pub decreases-loop-left : goal.decreases-loop-left
decreases-loop-left l = l.left
