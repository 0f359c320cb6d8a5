use Rattle.fl_gen.specs.Made.{each_of, runtime_ware}
use Rattle.fl_gen.specs.Keeping.{Brings}
use Rattle.fl_gen.proofs.filling.offer_runtimes.Given as goal

abbrev pub invariant-loop-number : goal.invariant-loop-number
invariant-loop-number g l = Brings l.version (each_of (runtime_ware l.version) l.number) l.fn.store.rows.items l.store.rows.items
