-- The children of directories.
use Rattle.std.specs.Prelude.{ℕ, Bool, false, ◌&&◌, ◌||◌, List, [], ◌∷◌, is_some, if◌then◌else◌}
use Rattle.fp_host.specs.Paths.{Elements, path_eq}
use Rattle.fp_memhost.specs.declared.names.Name.{Name}

-- Tests whether a path is directly in the directory `p`
abbrev pub child_in : Elements → Elements → Bool
child_in p [] = false
child_in p (x ∷ up) = path_eq up p

-- Tests whether the first path is a proper ancestor of the second
abbrev pub is_above : Elements → Elements → Bool
is_above p [] = false
is_above p (x ∷ up) = path_eq up p || is_above p up

-- The last element of a path; the empty text for the root
abbrev pub last_of : Elements → List ℕ
last_of [] = []
last_of (x ∷ up) = x

-- Tests whether a name exists directly in the directory `p`
abbrev pub is_child : Elements → Name → Bool
is_child p name = is_some name.entry && child_in p name.path

-- The last elements of the names that exist directly in the directory `p`, in the order of the list
abbrev pub children_of : List Name → Elements → List (List ℕ)
children_of [] p = []
children_of (name ∷ names) p =
    if is_child p name then last_of name.path ∷ children_of names p else children_of names p
