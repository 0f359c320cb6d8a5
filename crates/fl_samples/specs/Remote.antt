-- A remote that offers another commit of the sample installation's application.
use Rattle.std.specs.Prelude.{List, [], ◌∷◌, ◌++◌, map, codes, if◌then◌else◌}
use Rattle.std.specs.Str.{bytes_eq}
use Rattle.fp_host.specs.Paths.{Elements}
use Rattle.fp_host.specs.Outcome.{Spot, gone, folder, holds, points}
use Rattle.fp_host.specs.Remote.{Held, Holdings, nothing, directory, contents, target}
use Rattle.ost_model.specs.Stores.{objects_folder}
use Rattle.ost_refs.specs.Places.{heads, ref_below}
use Rattle.dep_states.specs.Samples.{rows_at}
use Rattle.fl_samples.specs.Image.{app, locale, platform, hub}
use Rattle.fl_samples.specs.Objects as objects
use Rattle.fl_samples.specs.Objects.{Stored}

-- The node of a remote for a node of a disk
abbrev pub as_held : Spot → Held
as_held gone = nothing
as_held folder = directory
as_held (holds id mode bytes) = contents mode bytes
as_held (points text) = target text

-- The objects of the new commit that the installation lacks
abbrev pub new_objects : List Stored
new_objects = objects.new_commit ∷ objects.new_root ∷ objects.new_files ∷ objects.new_program ∷ []

-- The row of an object in the remote's store
abbrev pub offered_row : Stored → Elements × Spot
offered_row o = (o.name ∷ o.front ∷ objects_folder [], o.spot)

-- The rows of the remote: its `config`, its refs, and the new objects
abbrev pub remote_rows : List (Elements × Spot)
remote_rows =
    (codes "config" ∷ [], holds 0 420 (codes "[core]\nrepo_version=1\nmode=bare-user-only\n"))
    ∷ (ref_below (heads []) app, holds 0 420 (objects.new_text ++ 10 ∷ []))
    ∷ (ref_below (heads []) locale, holds 0 420 (objects.locale_text ++ 10 ∷ []))
    ∷ (ref_below (heads []) platform, holds 0 420 (objects.platform_text ++ 10 ∷ []))
    ∷ map offered_row new_objects

-- The content of the remote
abbrev pub holdings : Holdings
holdings url path = if bytes_eq url hub.url then as_held (rows_at remote_rows path) else nothing
