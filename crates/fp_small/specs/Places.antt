-- The paths of an installation's store and of its temporary files.
use Rattle.std.specs.Prelude.{◌≡◌, ℕ, List, [], ◌∷◌, ◌++◌, codes}
use Rattle.std.specs.Fmt.{decimal}
use Rattle.fp_host.specs.Paths.{Elements, absent, dir}
use Rattle.fp_host.specs.View.{View}

-- The path of the store, `repo`
abbrev pub repo : Elements
repo = codes "repo" ∷ []

-- The path of the directory for temporary files, `repo/tmp`
abbrev pub tmp : Elements
tmp = codes "tmp" ∷ repo

-- The names of staged files, `new0`, `new1` and so on
abbrev pub new_name : ℕ → List ℕ
new_name k = codes "new" ++ decimal k

-- The path is one of `repo/tmp/new0`, `repo/tmp/new1` and so on
pub record IsWorkName (t : Elements) : Type 0 where
  pub number : ℕ
  pub is : t ≡ new_name number ∷ tmp

-- Nothing exists but the root
pub record IsBare (v : View) : Type 0 where
  pub root : v.names [] ≡ dir
  pub none : (x : List ℕ) (up : Elements) → v.names (x ∷ up) ≡ absent
