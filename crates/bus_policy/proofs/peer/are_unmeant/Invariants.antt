use Rattle.std.proofs.Common.{◌≡◌, ◌<◌, ℕ, true, false, get_or}
use Rattle.bus_policy.proofs.peer.are_unmeant.Given as goal

abbrev pub invariant-loop-flag : goal.invariant-loop-flag
invariant-loop-flag l = (i : ℕ) → i < l.flag-index → get_or l.flags i true ≡ false
