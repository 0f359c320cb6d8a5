-- The files in commits' directories.
use Rattle.std.specs.Prelude.{◌≡◌, ◌⊎◌, ℕ, List, Contains}
use Rattle.fp_host.specs.Paths.{Elements, file, IsAbove}
use Rattle.fp_host.specs.View.{View}
use Rattle.fp_name.specs.Refs.{Ref}
use Rattle.fp_small.specs.Places.{repo}
use Rattle.ost_model.specs.Stores.{objects_folder}
use Rattle.dep_states.specs.Names.{commit_dir, deploy}

-- The file was put at a path below the store's objects
pub record WasStored (id : ℕ) (v : View) : Type 0 where
  pub at : Elements
  pub below : IsAbove (objects_folder repo) at
  pub put : Contains v.stood (at, file id)

-- Each file in a commit's directory was there at `u`, or is the commit's `deploy`, or was put below
-- the store's objects
pub record Links (u w : View) : Type 0 where
  pub each : (name : Ref) (commit : List ℕ) (q : Elements) (id : ℕ)
      → IsAbove (commit_dir name commit) q → w.names q ≡ file id
      → (u.names q ≡ file id) ⊎ ((q ≡ deploy (commit_dir name commit)) ⊎ WasStored id w)
