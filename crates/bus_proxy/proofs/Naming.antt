-- A unique name is short.
use Rattle.std.proofs.Common.{◌≡◌, ℕ, ◌≤◌, true, false, List, [], ◌∷◌, length}
use Rattle.std.specs.Prelude.{IsTrue}
use Rattle.std.proofs.lemmas.Bool.{and_parts, leb-true}
use Rattle.bus_frame.specs.declared.limits.TheConstants.{MOST_NAME_BYTES}
use Rattle.bus_frame.specs.Names.{is_unique}

short : (name : List ℕ) → is_unique name ≡ true → length name ≤ MOST_NAME_BYTES
unfolding is_unique
short [] e = absurd cc
short (c ∷ name) e = leb-true _ _ (and_parts _ _ (and_parts _ _ e).0).1

pub unique_len : (name : List ℕ) → IsTrue (is_unique name) → length name ≤ MOST_NAME_BYTES
unique_len name e = short name e
