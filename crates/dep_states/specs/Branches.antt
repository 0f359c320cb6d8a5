-- The paths of branch directories in an installation.
use Rattle.std.specs.Prelude.{◌≡◌, ◌⊎◌, ◌↔◌, ◌∷◌, List, [], true, Option, Some, None, Contains, codes}
use Rattle.fp_host.specs.Paths.{Elements, path_text}
use Rattle.fp_host.specs.View.{View}
use Rattle.fp_name.specs.Refs.{Ref, is_ref, ref_of}
use Rattle.fp_small.specs.Walks.{IsLevel}
use Rattle.dep_states.specs.Names.{branch_dir}

-- The paths are exactly those three levels below `app` or `runtime`
pub record AreBranches (v : View) (paths : List Elements) : Type 0 where
  pub each : (q : Elements) → Contains paths q
      ↔ (IsLevel 3 (codes "app" ∷ []) v q ⊎ IsLevel 3 (codes "runtime" ∷ []) v q)

-- The ref of a branch directory with this path; nothing if no ref has it
abbrev pub IsRefAt : Elements → Option Ref → Type 0
IsRefAt p None = ref_of (path_text p) ≡ None
IsRefAt p (Some name) = (p ≡ branch_dir name) × (is_ref name ≡ true)
