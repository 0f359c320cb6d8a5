-- The refusals of a launch.
use Rattle.std.specs.Prelude.{◌≡◌, ℕ, List, Err}
use Rattle.fp_name.specs.Refs.{Ref}
use Rattle.fp_small.specs.declared.refusal.Refusal.{Refusal}
use Rattle.fp_small.specs.declared.refusal.Refusal.TheVariants.{NotInstalled, RuntimeMissing, BadMetadata}
use Rattle.fp_small.specs.declared.state.State.{State}
use Rattle.fl_installed.specs.Deployed.{DeployedFiles}
use Rattle.fl_installed.specs.Launching.{launch_in}

-- A launch may be refused with this refusal
abbrev pub MayRefuse : Refusal → Type 0
MayRefuse (NotInstalled name) = Unit {0}
MayRefuse (RuntimeMissing name) = Unit {0}
MayRefuse (BadMetadata name line rule) = Unit {0}
MayRefuse refusal = ⊥

-- A launch has no other refusals than those of `MayRefuse`
abbrev pub LaunchRefuses : Type 0
LaunchRefuses = (files : DeployedFiles) (state : State) (name : Ref) (options : List (List ℕ))
    (refusal : Refusal) → launch_in files state name options ≡ Err refusal → MayRefuse refusal
