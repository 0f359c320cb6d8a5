-- The versions that were seen, as the code keeps them.
use Rattle.std.specs.Prelude.{ℕ, Bool, List, [], if◌then◌else◌}
use Rattle.std.specs.List.{list_any}
use Rattle.std.specs.Str.{bytes_eq}
use Rattle.std.specs.BTreeSet.{BTreeSet}
use denote.Ref.{Bor}
use Rattle.fp_name.specs.Refs.{Ref}
use Rattle.fl_extension.specs.Points.{candidate_of}

-- Tests whether a version was seen
abbrev pub has_seen : BTreeSet (Bor (List ℕ)) → List ℕ → Bool
has_seen seen text = list_any (λ key. bytes_eq text key.now) seen.keys

-- The ref of a version, if it is a branch and wasn't seen before
abbrev pub new_candidates : List ℕ → List ℕ → BTreeSet (Bor (List ℕ)) → List ℕ → List Ref
new_candidates name arch seen version =
    if has_seen seen version then [] else candidate_of name arch version
