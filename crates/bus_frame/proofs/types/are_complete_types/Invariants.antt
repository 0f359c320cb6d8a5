use Rattle.std.proofs.Common.{◌≡◌, ◌-◌, length}
use Rattle.bus_frame.specs.Types.{are_types_text}
use Rattle.bus_frame.proofs.types.are_complete_types.Given as goal

abbrev pub invariant-loop : goal.invariant-loop
invariant-loop l = are_types_text (l.end - l.counter) l.rest ≡ are_types_text (length l.types) l.types
