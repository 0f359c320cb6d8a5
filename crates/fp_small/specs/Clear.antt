-- Removal of names, alone or with everything below them.
use Rattle.std.specs.Prelude.{◌≡◌, ◌≢◌, ◌⊎◌, ◌≤◌, ◌+◌, ℕ, [], length}
use Rattle.fp_host.specs.Paths.{Elements, Slot, absent, IsAbove}
use Rattle.fp_host.specs.View.{View}
use Rattle.fp_host.specs.Outcome.{Spot, gone}
use Rattle.fp_small.specs.declared.limits.TheConstants.{MOST_ELEMENTS}

-- A crash may leave nothing at the path `p`
abbrev pub GoneAt : Elements → Elements → Spot → Type 0
GoneAt p q spot = (q ≡ p) × (spot ≡ gone)

-- The name `p` may become absent
abbrev pub AbsentAt : Elements → Elements → Slot → Type 0
AbsentAt p q e = (q ≡ p) × (e ≡ absent)

-- `q` is the path `p`, or a path below it
abbrev pub IsWithin : Elements → Elements → Type 0
IsWithin p q = (q ≡ p) ⊎ IsAbove p q

-- A crash may leave nothing at `p` and at each path below it
abbrev pub GoneWithin : Elements → Elements → Spot → Type 0
GoneWithin p q spot = IsWithin p q × (spot ≡ gone)

-- The name `p` and each name below it may become absent
abbrev pub AbsentWithin : Elements → Elements → Slot → Type 0
AbsentWithin p q e = IsWithin p q × (e ≡ absent)

-- A crash may leave nothing at each path below `p`
abbrev pub GoneBelow : Elements → Elements → Spot → Type 0
GoneBelow p q spot = IsAbove p q × (spot ≡ gone)

-- Each name below `p` may become absent
abbrev pub AbsentBelow : Elements → Elements → Slot → Type 0
AbsentBelow p q e = IsAbove p q × (e ≡ absent)

-- The path and each path below it are absent
pub record IsCleared (p : Elements) (v : View) : Type 0 where
  pub gone : (q : Elements) → IsWithin p q → v.names q ≡ absent

-- Each path below `p` is absent
pub record IsEmptied (p : Elements) (v : View) : Type 0 where
  pub gone : (q : Elements) → IsAbove p q → v.names q ≡ absent

-- No path below `p` has more than 128 elements
pub record CanEmpty (p : Elements) (v : View) : Type 0 where
  pub short : (q : Elements) → IsAbove p q → (v.names q ≡ absent) ⊎ (length q ≤ MOST_ELEMENTS)

-- The path isn't the root, and no path below it has more than 128 elements
pub record CanClear (p : Elements) (v : View) : Type 0 where
  pub no_root : p ≢ []
  pub below : CanEmpty p v

-- Everything below the path is at most `depth` levels below it
pub record Reaches (p : Elements) (depth : ℕ) (v : View) : Type 0 where
  pub far : (q : Elements) → IsAbove p q → (v.names q ≡ absent) ⊎ (length q ≤ length p + depth)

-- The path isn't the root, and everything below it is at most `depth` levels below it
pub record ReachesDown (p : Elements) (depth : ℕ) (v : View) : Type 0 where
  pub no_root : p ≢ []
  pub below : Reaches p depth v
