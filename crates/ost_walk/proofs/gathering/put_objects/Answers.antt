use Rattle.ost_walk.proofs.Kept.{next_put}
use Rattle.ost_walk.proofs.gathering.put_objects.Goals as goal

pub loop-object-preserved : goal.loop-object-preserved
loop-object-preserved c = next_put c.args.objects.now c.loop-object.object-index c.object-item.result c.args.found.now.entries c.loop-object.found.entries c.put_object.new.found.entries c.loop-object-test.true c.object-item.is c.loop-object.invariant c.in_ok-put_object.ensures
