use Rattle.std.proofs.Common.{take}
use Rattle.ost_walk.specs.UsedList.{PutsAll}
use Rattle.ost_walk.proofs.gathering.put_objects.Given as goal

abbrev pub invariant-loop-object : goal.invariant-loop-object
invariant-loop-object l = PutsAll (take l.object-index l.objects) l.fn.found.entries l.found.entries
