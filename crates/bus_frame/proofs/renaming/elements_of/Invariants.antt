use Rattle.std.proofs.Common.{◌≡◌, take}
use Rattle.bus_frame.specs.Writing.{elements_bytes}
use Rattle.bus_frame.proofs.renaming.elements_of.Given as goal

abbrev pub invariant-loop-name : goal.invariant-loop-name
invariant-loop-name l = l.out.items ≡ elements_bytes l.little l.at (take l.name-index l.names)
