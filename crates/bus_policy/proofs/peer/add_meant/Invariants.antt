use Rattle.std.proofs.Common.{◌≡◌, take}
use Rattle.bus_policy.specs.Levels.{pattern_matches}
use Rattle.bus_policy.specs.Watching.{or_each}
use Rattle.bus_policy.proofs.peer.add_meant.Given as goal

abbrev pub invariant-loop-i : goal.invariant-loop-i
invariant-loop-i l = l.meant.items ≡ or_each (λ rule. pattern_matches rule.pattern l.name) (take l.i l.rules) l.fn.meant.items
