use Rattle.ost_store.specs.Walks.{AreKeyed}
use Rattle.ost_store.proofs.listing.by_text.Given as goal

abbrev pub invariant-loop-path : goal.invariant-loop-path
invariant-loop-path l = AreKeyed l.yielded l.keyed.entries
