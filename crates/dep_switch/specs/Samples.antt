-- A sample image in which a commit is checked out whose ref isn't deployed.
use Rattle.std.specs.Prelude.{[], if◌then◌else◌}
use Rattle.fp_host.specs.Paths.{path_eq}
use Rattle.fp_host.specs.Outcome.{gone, Disk}
use Rattle.fp_small.specs.declared.state.State.{State}
use Rattle.dep_states.specs.Names.{active}
use Rattle.dep_states.specs.Deployed.{platform, deployed_disk, deployed_state}

-- The image with one deployed ref, but without its `active`
abbrev pub undeployed_disk : Disk
undeployed_disk p = if path_eq p (active platform) then gone else deployed_disk p

-- The state that the image shows: it has no ref
abbrev pub undeployed_state : State
undeployed_state = record deployed_state { refs = [] }
