use Rattle.std.proofs.Common.{◌≡◌, drop}
use Rattle.bus_policy.specs.Watching.{speaks_of}
use Rattle.bus_policy.proofs.peer.is_spoken_of.Given as goal

abbrev pub invariant-loop-rule : goal.invariant-loop-rule
invariant-loop-rule l = speaks_of (drop l.rule-index l.rules) l.name ≡ speaks_of l.rules l.name
