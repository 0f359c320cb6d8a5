-- The directories of deployed commits in a sound installation.
use Rattle.std.specs.Prelude.{◌≡◌, ℕ, List, true, Some}
use Rattle.fp_host.specs.Outcome.{Disk}
use Rattle.fp_name.specs.Refs.{Ref, is_ref}
use Rattle.fp_small.specs.Places.{repo}
use Rattle.fp_small.specs.declared.state.RefRow.{RefRow}
use Rattle.fp_small.specs.declared.state.State.{State}
use Rattle.ost_model.specs.Objects.{store}
use Rattle.dep_states.specs.After.{row_at}
use Rattle.dep_states.specs.Shown.{Shows}
use Rattle.dep_states.specs.Sound.{Sound}
use Rattle.fl_installed.specs.Deployed.{deployed_files, stored_files}
use Rattle.fl_installed.specs.Launching.{launch_in}
use Rattle.fl_change.specs.World.{World}
use Rattle.fl_top.specs.Answer.{known_of}

-- In a sound installation, the `metadata` file of each deployed ref is the one of its commit in the
-- store
abbrev pub FilesAreStored : Type 0
FilesAreStored = (disk : Disk) (s : State) → Sound disk → Shows disk s → (name : Ref) (row : RefRow)
    → is_ref name ≡ true → row_at s name ≡ Some row
    → deployed_files disk name row.commit ≡ stored_files (store repo disk) name row.commit

-- In a sound installation, `info` of a ref answers the same from the deployed files as from the
-- store's objects
abbrev pub KnownIsStored : Type 0
KnownIsStored = (disk : Disk) (x : World) → Sound disk → Shows disk x.state → (name : Ref)
    → is_ref name ≡ true
    → known_of (deployed_files disk) name x ≡ known_of (stored_files (store repo disk)) name x

-- In a sound installation, `launch` of a ref gives the same result from the deployed files as from
-- the store's objects
abbrev pub LaunchIsStored : Type 0
LaunchIsStored = (disk : Disk) (s : State) → Sound disk → Shows disk s → (name : Ref)
    (options : List (List ℕ)) → is_ref name ≡ true → launch_in (deployed_files disk) s name options
    ≡ launch_in (stored_files (store repo disk)) s name options
