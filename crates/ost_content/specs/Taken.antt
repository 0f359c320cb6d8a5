-- The content that a hasher was given.
use Rattle.std.specs.Prelude.{ℕ, List, ◌++◌}
use Rattle.sha2.specs.declared.Sha256.{Sha256}
use Rattle.sha2.specs.Hashers.{Holds256}
use Rattle.ost_model.specs.Contents.{header}

-- The hasher was made for a file with these permission bits, and was given these bytes of its
-- content so far
unfoldable pub HasTaken : Sha256 → ℕ → List ℕ → Type 0
HasTaken state bits bytes = Holds256 state (header bits ++ bytes)
