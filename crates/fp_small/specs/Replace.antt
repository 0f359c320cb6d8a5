-- Atomic replacement of a small file.
use Rattle.std.specs.Prelude.{◌≡◌, ◌≢◌, ◌⊎◌, ◌<◌, ℕ, List, ◌∷◌, ◌++◌, [], Contains}
use Rattle.fp_host.specs.Paths.{Elements, Slot, absent, dir, IsAbove}
use Rattle.fp_host.specs.View.{View}
use Rattle.fp_host.specs.Calls.{IsFile}
use Rattle.fp_host.specs.Outcome.{Spot, folder, IsSettled}
use Rattle.fp_host.specs.Frame.{Keeps}
use Rattle.fp_small.specs.Places.{repo, tmp, new_name}
use Rattle.fp_small.specs.Folders.{ancestors, AreFree}
use Rattle.fp_small.specs.Files.{KeepsFiles, MakesFile}
use Rattle.fp_small.specs.Move.{IsNew, HasNew}

-- The path is the first of `repo/tmp/new0`, `repo/tmp/new1` and so on that is absent
pub record IsStaging (v : View) (q : Elements) : Type 0 where
  pub number : ℕ
  pub is : q ≡ new_name number ∷ tmp
  pub free : v.names q ≡ absent
  pub first : (k : ℕ) → k < number → v.names (new_name k ∷ tmp) ≢ absent

-- The directories that a replacement needs: the ancestors of the path, `repo` and `repo/tmp`
abbrev pub folders_of : Elements → List Elements
folders_of p = ancestors p ++ repo ∷ tmp ∷ []

-- The nodes that a crash may newly show, compared to the view at the entry: the new file at the
-- path, directories at its ancestors, `repo` and `repo/tmp`, and anything at the staging path
abbrev pub ReplacesAt : Elements → List ℕ → View → Elements → Spot → Type 0
ReplacesAt p bytes u q spot =
    ((q ≡ p) × IsNew bytes spot) ⊎ ((Contains (folders_of p) q × (spot ≡ folder)) ⊎ IsStaging u q)

-- The entries that names may get in the present view: a file at the path, directories at its
-- ancestors, `repo` and `repo/tmp`, and anything at the staging path
abbrev pub ReplacesName : Elements → View → Elements → Slot → Type 0
ReplacesName p u q e =
    ((q ≡ p) × IsFile e) ⊎ ((Contains (folders_of p) q × (e ≡ dir)) ⊎ IsStaging u q)

-- The replacement at each moment: only the names of `ReplacesName` change, and only the file at the
-- staging path, which is new, is given bytes. Each file that was there keeps its mode and its
-- bytes, also the one that is replaced.
pub record Replaces (p : Elements) (bytes : List ℕ) (u w : View) : Type 0 where
  pub keeps : Keeps (ReplacesAt p bytes u) (ReplacesName p u) (IsStaging u) u w
  pub files : KeepsFiles u w

-- The replacement succeeded: every crash leaves the new file and exactly the present content, the
-- staging path is absent again, and the file at the path is the only one that was created.
pub record WasReplaced (p : Elements) (bytes : List ℕ) (u w : View) : Type 0 where
  pub new : HasNew p bytes w
  pub settled : IsSettled w
  pub work : (q : Elements) → IsStaging u q → w.names q ≡ absent
  pub made : MakesFile p bytes u w

-- The path is absent or a file
abbrev pub IsFreeFile : Elements → View → Type 0
IsFreeFile p v = (v.names p ≡ absent) ⊎ IsFile (v.names p)

-- The file at the path can be replaced or created: the path is absent or a file, the directories
-- that are needed are absent or directories, and the path is none of the root, `repo`, `repo/tmp`
-- and the paths below that
pub record CanReplace (p : Elements) (v : View) : Type 0 where
  pub entry : IsFreeFile p v
  pub folders : AreFree (folders_of p) v
  pub no_root : p ≢ []
  pub no_repo : p ≢ repo
  pub no_tmp : p ≢ tmp
  pub no_work : IsAbove tmp p → ⊥
