-- Counts that rose.
use Rattle.std.proofs.Common.{ℕ, arith, ◌≡◌, ◌≤◌}

pub at_most : {m n : ℕ} → n ≡ m → m ≤ n
at_most e = omega arith
