-- A sample remote that offers a runtime, a store with its objects, and states without the runtime
-- and with it at another commit.
use Rattle.std.specs.Prelude.{ℕ, List, [], ◌∷◌, ◌++◌, None, codes, if◌then◌else◌}
use Rattle.fp_host.specs.Paths.{path_eq}
use Rattle.fp_host.specs.Remote.{Holdings, nothing, contents}
use Rattle.fp_small.specs.Places.{repo}
use Rattle.fp_small.specs.declared.state.State.{State}
use Rattle.fp_small.specs.declared.state.RefRow.{RefRow}
use Rattle.ost_model.specs.Objects.{Have, store}
use Rattle.ost_refs.specs.Offers.{config_path, ref_path}
use Rattle.dep_states.specs.Deployed.{platform, commit_text, deployed_disk, deployed_state}

-- The objects of the store
abbrev pub stored : Have
stored = store repo deployed_disk

-- The content of the remote: `config` and the ref's file
abbrev pub holdings : Holdings
holdings url path =
    if path_eq path config_path
    then contents 420 (codes "[core]\nrepo_version=1\nmode=bare-user-only\n")
    else if path_eq path (ref_path platform) then contents 420 (commit_text ++ 10 ∷ [])
    else nothing

-- The row of the runtime, deployed at another commit with this time
abbrev pub row_since : ℕ → RefRow
row_since time =
    record { name = platform; origin = codes "hub"; commit = []; timestamp = time; previous = None }

-- The state with these refs
abbrev pub with_rows : List RefRow → State
with_rows rows = record deployed_state { refs = rows }
