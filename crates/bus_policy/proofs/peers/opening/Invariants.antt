use Rattle.std.proofs.Common.{◌≡◌, ℕ, List, [], take}
use Rattle.indexmap.specs.IndexMap.{get_by_text}
use Rattle.bus_policy.specs.Watching.{KeepsKnown, known_of, known_after}
use Rattle.bus_policy.proofs.peers.opening.Given as goal

abbrev pub invariant-loop-name : goal.invariant-loop-name
invariant-loop-name g l = record {
  known : (q : List ℕ) → known_of l.rules (get_by_text l.peers q) ≡ known_after l.rules (take l.name-index l.owners) [] q;
  kept : KeepsKnown l.rules (get_by_text l.peers);
}
