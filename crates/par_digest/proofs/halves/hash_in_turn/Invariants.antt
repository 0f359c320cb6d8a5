use Rattle.std.proofs.Common.{◌≡◌, ◌≤◌, length, take}
use Rattle.par_digest.specs.Digests.{item_digests}
use Rattle.par_digest.proofs.halves.hash_in_turn.Given as goal

abbrev pub invariant-loop-at : goal.invariant-loop-at
invariant-loop-at l =
    (l.at ≤ length l.items)
    × (length l.all ≡ length l.items)
    × (take l.at l.all ≡ item_digests (take l.at l.items))
