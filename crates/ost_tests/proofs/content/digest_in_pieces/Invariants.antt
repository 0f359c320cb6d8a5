use Rattle.std.proofs.Common.{◌≡◌, List, ℕ, ◌++◌, length}
use Rattle.ost_content.specs.Taken.{HasTaken}
use Rattle.ost_tests.proofs.content.digest_in_pieces.Given as goal

abbrev pub invariant-pieces : goal.invariant-pieces
invariant-pieces l = (taken : List ℕ) × HasTaken l.hasher l.mode taken × (taken ++ l.rest ≡ l.bytes)

abbrev pub decreases-pieces : goal.decreases-pieces
decreases-pieces l = length l.rest
