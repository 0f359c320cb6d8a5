-- The file `metadata` of a commit in a store.
use Rattle.std.specs.Prelude.{ℕ, List, [], Option, Some, None, unwrap_or, option_and_then, Result, Ok, Err}
use Rattle.fp_base.specs.declared.object.ObjKind.TheVariants as kinds
use Rattle.fp_host.specs.declared.host.HostEnd.{HostEnd}
use Rattle.fp_host.specs.declared.host.HostEnd.TheVariants as host_ends
use Rattle.ost_model.specs.declared.limits.TheConstants.{MOST_METADATA_FILE_BYTES}
use Rattle.ost_model.specs.declared.object.Object.{Object}
use Rattle.ost_model.specs.Objects.{Have, Fault}
use Rattle.ost_model.specs.Order.{Place}
use Rattle.ost_model.specs.Look.{look, look_fault, file_in}
use Rattle.ost_model.specs.Standing.{metadata_name}
use Rattle.ost_store.specs.Reads.{content_within}
use Rattle.ost_walk.specs.declared.ends.WalkEnd.{WalkEnd}
use Rattle.ost_walk.specs.declared.ends.WalkEnd.TheVariants as walks
use Rattle.ost_walk.specs.declared.found.Found.{Found}
use Rattle.ost_walk.specs.declared.found.Found.TheVariants as found

-- The digest of what was found, if it is a file or a symlink
abbrev pub digest_of : Found → Option (List ℕ)
digest_of (found.File d) = Some d
digest_of found.Dir = None
digest_of found.Nothing = None

-- The digest of what a lookup found; none if it was refused
abbrev pub digest_in : Result Found WalkEnd → Result (Option (List ℕ)) HostEnd
digest_in (Ok found) = Ok (digest_of found)
digest_in (Err (walks.Refused fault)) = Ok None
digest_in (Err walks.HostFault) = Err host_ends.Fault
digest_in (Err walks.RemoteFault) = Err host_ends.Fault
digest_in (Err walks.NoMemory) = Err host_ends.NoMemory

-- The value, unless there is a fault
abbrev pub unless_faulty : {A : Type 0} → Option (Place × Fault) → Option A → Option A
unless_faulty None a = a
unless_faulty (Some fault) a = None

-- The digest of the file or symlink `metadata` in the root of a commit, if neither the commit nor
-- the dirtree of its root has a fault
unfoldable pub metadata_digest : Have → List ℕ → Option (List ℕ)
metadata_digest have commit =
    unless_faulty (look_fault have commit metadata_name) (file_in (look have commit metadata_name))

-- The content of a regular file of at most 1 MiB
abbrev pub short_content : Option Object → Option (List ℕ)
short_content object = content_within MOST_METADATA_FILE_BYTES object

-- The file `metadata` of a commit, if it is a regular file of at most 1 MiB; whether its content
-- matches its digest doesn't matter
unfoldable pub metadata_file : Have → List ℕ → Option (List ℕ)
metadata_file have commit =
    option_and_then (λ d. short_content (have d kinds.File)) (metadata_digest have commit)

-- The bytes of the file `metadata` of a commit; empty if there is no such file
abbrev pub metadata_in : Have → List ℕ → List ℕ
metadata_in have commit = unwrap_or (metadata_file have commit) []
