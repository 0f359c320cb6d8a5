-- Objects of a remote.
use Rattle.std.specs.Prelude.{ℕ, List, Result}
use Rattle.fp_host.specs.Remote.{Held}
use Rattle.fp_base.specs.declared.object.ObjKind.{ObjKind}
use Rattle.ost_model.specs.declared.object.Object.{Object}
use Rattle.ost_model.specs.Objects.{object_at}
use Rattle.ost_model.specs.Remotes.{as_spot}
use Rattle.ost_walk.specs.declared.ends.WalkEnd.{WalkEnd}
use Rattle.ost_head.specs.Objects.{Reads}

-- Holds if the result is the object of a remote's node, or the refusal with its fault
abbrev pub ReadsAt : List ℕ → ObjKind → Held → Result Object WalkEnd → Type 0
ReadsAt d kind held result = Reads d kind (object_at kind (as_spot held)) result
