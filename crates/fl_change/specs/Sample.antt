-- A sample: a remote that offers a runtime with all its objects, and an installation without it.
use Rattle.std.specs.Prelude.{ℕ, ◌++◌, [], ◌∷◌, Some, None, codes}
use Rattle.fp_host.specs.Outcome.{Spot, gone, folder, holds, points}
use Rattle.fp_host.specs.Remote.{Held, Holdings, nothing, directory, contents, target}
use Rattle.fp_small.specs.Places.{repo}
use Rattle.fp_small.specs.declared.op.Op.TheVariants.{Install, Update, Uninstall}
use Rattle.fp_small.specs.declared.state.State.{State}
use Rattle.dep_states.specs.After.{Done, plain}
use Rattle.dep_states.specs.Deployed.{platform, commit, deployed_disk, deployed_row}
use Rattle.fl_plan.specs.Offered as shop
use Rattle.fl_change.specs.World.{World, world_after}

-- The node of a remote for the node of an image
abbrev pub as_held : Spot → Held
as_held gone = nothing
as_held folder = directory
as_held (holds id mode bytes) = contents mode bytes
as_held (points text) = target text

-- The first node if it is a file or a symlink, else the second one
abbrev pub or_held : Held → Held → Held
or_held nothing other = other
or_held directory other = directory
or_held (contents mode bytes) other = contents mode bytes
or_held (target text) other = target text

-- The content of the remote: its `config` and the ref's file, and a store with the runtime's
-- objects
abbrev pub holdings : Holdings
holdings url path = or_held (shop.holdings url path) (as_held (deployed_disk (path ++ repo)))

-- The world with the remote and without any ref
abbrev pub fresh : World
fresh = record { state = shop.with_rows []; have = λ d kind. None }

-- The install of the runtime at a commit with the timestamp 7
abbrev pub install : Done
install = record { op = Install platform (codes "hub") commit; timestamp = 7 }

-- The world after the install
abbrev pub installed : World
installed = world_after holdings fresh install

-- The world after the install and an uninstall
abbrev pub uninstalled : World
uninstalled = world_after holdings installed (plain (Uninstall platform))

-- The world with the runtime deployed at another commit with this timestamp, and without objects
abbrev pub world_since : ℕ → World
world_since time =
    record { state = shop.with_rows (shop.row_since time ∷ []); have = λ d kind. None }

-- The update of the runtime to a commit with the timestamp 7
abbrev pub update : Done
update = record { op = Update platform (codes "hub") commit; timestamp = 7 }

-- The world after the update from a commit with the timestamp 7
abbrev pub updated : World
updated = world_after holdings (world_since 7) update

-- The state after the update: the old commit is the previous one
abbrev pub updated_state : State
updated_state = shop.with_rows
    (record deployed_row { previous = Some (record { commit = []; timestamp = 7 }) } ∷ [])
