-- A store on a disk, as a remote.
use Rattle.std.specs.Prelude.{◌++◌}
use Rattle.fp_host.specs.Paths.{Elements}
use Rattle.fp_host.specs.Outcome.{Spot, gone, folder, holds, points, Disk}
use Rattle.fp_host.specs.Remote.{Held, nothing, directory, contents, target, Holdings}

-- The node of a disk as one of a remote
abbrev pub held_of : Spot → Held
held_of gone = nothing
held_of folder = directory
held_of (holds id mode bytes) = contents mode bytes
held_of (points text) = target text

-- The content of remotes that have, at each URL, the directory `root` of the disk
abbrev pub held_at : Elements → Disk → Holdings
held_at root disk url q = held_of (disk (q ++ root))
