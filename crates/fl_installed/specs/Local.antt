-- The files on which a launch depends.
use Rattle.std.specs.Prelude.{◌≡◌, ℕ, List, true, Some}
use Rattle.fp_name.specs.Refs.{Ref, is_ref}
use Rattle.fp_small.specs.declared.state.RefRow.{RefRow}
use Rattle.fp_small.specs.declared.state.State.{State}
use Rattle.fl_installed.specs.Deployed.{DeployedFiles}
use Rattle.fl_extension.specs.Found.{row_of}
use Rattle.fl_installed.specs.Launching.{launch_in}

-- The deployed commits of the state have the same files `metadata` in `i` and `j`
abbrev pub SayAlike : DeployedFiles → DeployedFiles → State → Type 0
SayAlike i j state = (name : Ref) (row : RefRow) → is_ref name ≡ true
    → row_of state name ≡ Some row → j name row.commit ≡ i name row.commit

-- A launch depends only on the state and on the files `metadata` of the deployed commits
abbrev pub LaunchIsLocal : Type 0
LaunchIsLocal = (i j : DeployedFiles) (state : State) (name : Ref) (options : List (List ℕ))
    → is_ref name ≡ true → SayAlike i j state
    → launch_in j state name options ≡ launch_in i state name options
