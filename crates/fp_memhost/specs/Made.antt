-- The files that were created.
use Rattle.std.specs.Prelude.{ℕ, List, [], ◌∷◌, ◌++◌}
use Rattle.fp_host.specs.Paths.{Elements}
use Rattle.fp_memhost.specs.declared.event.Event.{Event}
use Rattle.fp_memhost.specs.declared.event.Event.TheVariants.{MakeDir, Create, Append, Link, Symlink, Rename, Unlink, RemoveDir, Sync, Say}
use Rattle.fp_memhost.specs.declared.event.Noted.{Noted}

-- The path and the id of the file that an event creates; nothing for any other event
abbrev pub made_by : Event → List (Elements × ℕ)
made_by (Create p mode id) = (p, id) ∷ []
made_by (MakeDir p) = []
made_by (Append p bytes) = []
made_by (Link from to) = []
made_by (Symlink text p) = []
made_by (Rename from to) = []
made_by (Unlink p) = []
made_by (RemoveDir p) = []
made_by Sync = []
made_by (Say piece) = []

-- The paths and ids of the files that a log creates, in order
abbrev pub made_of : List Noted → List (Elements × ℕ)
made_of [] = []
made_of (e ∷ log) = made_by e.event ++ made_of log
