-- The choice of a free name.
use Rattle.std.specs.Prelude.{◌≡◌, ◌≢◌, ◌<◌, ◌↔◌, ◌∷◌, ℕ, List, Contains}
use Rattle.fp_host.specs.Paths.{Elements, absent}
use Rattle.fp_host.specs.View.{View}
use Rattle.fp_small.specs.Places.{new_name}

-- `name` is the first of the names `new0`, `new1` and so on that isn't in the list
pub record IsFirstFree (names : List (List ℕ)) (name : List ℕ) : Type 0 where
  pub number : ℕ
  pub is : name ≡ new_name number
  pub free : Contains names name → ⊥
  pub first : (k : ℕ) → k < number → Contains names (new_name k)

-- The names are those directly in the directory `p`
pub record ListsIn (p : Elements) (v : View) (names : List (List ℕ)) : Type 0 where
  pub each : (x : List ℕ) → Contains names x ↔ (v.names (x ∷ p) ≢ absent)
