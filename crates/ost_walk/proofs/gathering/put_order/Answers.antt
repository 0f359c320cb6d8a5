use Rattle.std.proofs.Common.{subst, List, ℕ}
use Rattle.fp_base.specs.declared.object.ObjKind.{ObjKind}
use Rattle.ost_walk.specs.UsedList.{PutsAll}
use Rattle.ost_walk.proofs.Quiet.{stored}
use Rattle.ost_walk.proofs.gathering.put_order.Goals as goal

pub returns-in-Ok-put_objects-clause-tells : goal.returns-in-Ok-put_objects-clause-tells
returns-in-Ok-put_objects-clause-tells g c have s = record {
  objects = c.in-Ok.objects;
  order = c.in-Ok.ensures.tells have (stored c.requires s);
  all = subst (λ (l : List (List ℕ × ObjKind)). PutsAll l c.args.found.now.entries c.put_objects.new.found.entries) c.as_slice.ensures c.in-Ok-put_objects.ensures;
}

pub returns-clause-tells : goal.returns-clause-tells
returns-clause-tells g c have s = c.in-Err.ensures.tells have (stored c.requires s)
