-- Content that is hashed in pieces.
use Rattle.std.specs.Prelude.{ℕ, List, ◌++◌}
use Rattle.sha2.specs.declared.Sha256.{Sha256}
use Rattle.ost_content.specs.Taken.{HasTaken}

-- These bytes were added to the hasher, after the bytes that it had, whatever these are
pub record TakesIn (bytes : List ℕ) (before after : Sha256) : Type 0 where
  pub more : (mode : ℕ) (had : List ℕ) → HasTaken before mode had
      → HasTaken after mode (had ++ bytes)
