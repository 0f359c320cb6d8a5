-- Walks below a directory, level by level, and the order of the paths that they find.
use Rattle.std.specs.Prelude.{◌≡◌, ◌⊎◌, ◌↔◌, List, [], ◌∷◌, map, true, Contains, String, string_bytes}
use Rattle.std.specs.List.{AllByRecursion}
use Rattle.std.specs.Map.{values_of}
use Rattle.fp_host.specs.Paths.{Elements, IsAbove, path_text}
use Rattle.fp_host.specs.View.{View}
use Rattle.fp_host.specs.Reads.{is_ascending}
use Rattle.fp_host.specs.Calls.{IsLeaf}
use Rattle.fp_small.specs.Clear.{IsWithin}
use Rattle.fp_small.specs.Walks.{IsBelow, IsTextOf}

-- One path was visited: it was added to those found if it is a file or symlink, and the paths
-- directly in it to the next ones if it is a directory
pub record Visits (p : Elements) (v : View) (found next found' next' : List Elements) : Type 0 where
  pub leaves : (q : Elements) → Contains found' q
      ↔ (Contains found q ⊎ ((q ≡ p) × IsLeaf (v.names q)))
  pub below : (q : Elements) → Contains next' q ↔ (Contains next q ⊎ IsBelow (p ∷ []) v q)

-- Each of these paths was visited
pub record VisitsAll (paths : List Elements) (v : View)
    (found found' next : List Elements) : Type 0 where
  pub leaves : (q : Elements) → Contains found' q
      ↔ (Contains found q ⊎ (Contains paths q × IsLeaf (v.names q)))
  pub below : (q : Elements) → Contains next q ↔ IsBelow paths v q

-- The paths are those of the files and symlinks at the directory's path and below it
pub record AreLeavesWithin (folder : Elements) (v : View) (found : List Elements) : Type 0 where
  pub each : (q : Elements) → Contains found q ↔ (IsWithin folder q × IsLeaf (v.names q))

-- The paths are those of the files and symlinks below the directory
pub record AreLeavesBelow (folder : Elements) (v : View) (found : List Elements) : Type 0 where
  pub each : (q : Elements) → Contains found q ↔ (IsAbove folder q × IsLeaf (v.names q))

-- The map has these paths by their texts
pub record AreKeyed {Z : Type 0} (paths : List Elements) (es : List (String Z × Elements)) : Type 0
  where
    pub keyed : AllByRecursion (λ e. IsTextOf (string_bytes e.0) e.1) es
    pub each : (q : Elements) → Contains (values_of es) q ↔ Contains paths q

-- The list has these paths in ascending order of their texts
pub record IsInOrder (paths ordered : List Elements) : Type 0 where
  pub each : (q : Elements) → Contains ordered q ↔ Contains paths q
  pub ascending : is_ascending (map path_text ordered) ≡ true
