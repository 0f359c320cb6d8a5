-- The paths at one depth below a directory.
use Rattle.std.specs.Prelude.{◌↔◌, ℕ, List, Contains}
use Rattle.fp_host.specs.Paths.{Elements}
use Rattle.fp_host.specs.View.{View}
use Rattle.fp_small.specs.Walks.{IsBelow, IsLevel}

-- The paths are those directly in the directories
pub record AreBelow (folders : List Elements) (v : View) (paths : List Elements) : Type 0 where
  pub each : (q : Elements) → Contains paths q ↔ IsBelow folders v q

-- The paths are those that exist and have `n` more elements than that of the directory
pub record AreLevel (n : ℕ) (folder : Elements) (v : View) (paths : List Elements) : Type 0 where
  pub each : (q : Elements) → Contains paths q ↔ IsLevel n folder v q
