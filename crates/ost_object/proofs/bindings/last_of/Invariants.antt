use Rattle.std.proofs.Common.{◌≡◌, None, drop}
use Rattle.ost_model.specs.Binding.{last_named, binding_name}
use Rattle.gv_decode.specs.Decoded.{slices}
use Rattle.ost_object.specs.Entries.{entry_trees, AreEntries}
use Rattle.ost_object.proofs.Bound.{settled}
use Rattle.ost_object.proofs.bindings.last_of.Given as goal

abbrev pub invariant-loop-entry : goal.invariant-loop-entry
invariant-loop-entry l = AreEntries (slices (drop l.entry-index l.entries))
    × (settled (last_named binding_name (entry_trees (slices (drop l.entry-index l.entries)))) l.found ≡ settled (last_named binding_name (entry_trees (slices l.entries))) None)
