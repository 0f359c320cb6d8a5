use Rattle.std.proofs.Common.{◌≡◌, ◌≤◌, ℕ, Bool, List, length}
use Rattle.bus_frame.specs.Writing.{elements_bytes}
use Rattle.bus_policy.specs.Events.{Judged}
use Rattle.bus_policy.specs.Watching.{Owners, WatchAt, rules_of, client_of, level_after}
use Rattle.bus_proxy.specs.Outs.{seen_names}
use Rattle.bus_proxy.proofs.reducing.seen.Given as goal

abbrev pub invariant-loop-name : goal.invariant-loop-name
invariant-loop-name g l = record {
  names : (owners : Owners) (noted : List Judged) → WatchAt l.watch owners noted → l.seen.items ≡ seen_names (level_after (rules_of l.watch) (client_of l.watch) owners noted) l.yielded;
  shorter : (little : Bool) (at : ℕ) → length (elements_bytes little at l.seen.items) ≤ length (elements_bytes little at l.yielded);
}
