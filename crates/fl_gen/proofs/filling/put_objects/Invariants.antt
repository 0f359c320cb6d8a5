use Rattle.std.proofs.Common.{take, map}
use Rattle.std.specs.List.{AllByRecursion}
use Rattle.fl_gen.specs.Stores.{Reads, object_entry}
use Rattle.fl_gen.specs.Keeping.{Adds}
use Rattle.fl_gen.proofs.filling.put_objects.Given as goal

abbrev pub invariant-loop-object : goal.invariant-loop-object
invariant-loop-object l = record {
  put : Adds (map object_entry (take l.object-index l.objects)) l.fn.store.rows.items l.store.rows.items;
  reads : AllByRecursion Reads (take l.object-index l.objects);
}
