-- Copying a file or a symlink of the remote to the work directory.
use Rattle.std.specs.Prelude.{◌≡◌, ◌⊎◌, ℕ, List, Option, Some, None, Result}
use Rattle.fp_host.specs.Paths.{Elements, Slot, absent}
use Rattle.fp_host.specs.View.{View}
use Rattle.fp_host.specs.Outcome.{Spot}
use Rattle.fp_host.specs.Moments.{Moments, Always}
use Rattle.fp_host.specs.Frame.{AtEnd, Keeps, Only}
use Rattle.fp_host.specs.Remote.{Holdings}
use Rattle.fp_small.specs.Files.{KeepsFiles}
use Rattle.fp_small.specs.Folders.{ancestors, FoldersAt, DirsAt, AreFree}
use Rattle.fp_base.specs.declared.object.ObjKind.TheVariants as kinds
use Rattle.ost_model.specs.declared.object.Object.{Object}
use Rattle.ost_model.specs.Objects.{name_fault, object_fault}
use Rattle.ost_model.specs.Remotes.{remote_at}
use Rattle.ost_store.specs.Stage.{Stages, WasStaged}
use Rattle.ost_walk.specs.declared.ends.ObjectFault.TheVariants as faults
use Rattle.ost_walk.specs.declared.ends.WalkEnd.{WalkEnd}
use Rattle.ost_walk.specs.declared.ends.WalkFault.{WalkFault}
use Rattle.ost_walk.specs.Ends.{EndsBy, IsFaultOf}
use Rattle.ost_head.specs.Found.{RemoteHas}
use Rattle.ost_head.specs.Stored.{IsFileOf}

-- A crash may leave any node at `t`, and directories above it
abbrev pub ComesAt : Elements → Elements → Spot → Type 0
ComesAt t q spot = (q ≡ t) ⊎ FoldersAt (ancestors t) q spot

-- Any directory entry may be at `t`, and directories above it
abbrev pub ComesName : Elements → Elements → Slot → Type 0
ComesName t q e = (q ≡ t) ⊎ DirsAt (ancestors t) q e

-- Anything may be placed at `t`, and directories above it may be made; nothing else changes. Only a
-- new file gets bytes.
pub record Comes (t : Elements) (u w : View) : Type 0 where
  pub keeps : Keeps (ComesAt t) (ComesName t) (Only t) u w
  pub files : KeepsFiles u w

-- A file or a symlink of the remote was written to `t`, and matches its digest
pub record IsBrought (t : Elements) (url : List ℕ) (holds : Option Holdings) (d : List ℕ)
    (a b : Option Moments) : Type 0 where
  pub object : Object
  pub named : name_fault d kinds.File (Some object) ≡ None
  pub there : RemoteHas url holds d kinds.File object
  pub stages : Always (Stages t object) a b
  pub staged : AtEnd (WasStaged t object) a b

-- If the remotes report their content, the remote has a file with these permission bits and of this
-- size
pub record RemoteHasFile (url : List ℕ) (holds : Option Holdings) (d : List ℕ)
    (mode size : ℕ) : Type 0 where
  pub is : (held : Holdings) → holds ≡ Some held
      → IsFileOf mode size (remote_at held url d kinds.File)

-- Holds if the remote's file or symlink has no fault, or the refusal names its fault
abbrev pub JudgesRemote : {A : Type 0} → Holdings → List ℕ → List ℕ → Result A WalkEnd → Type 0
JudgesRemote held url d result =
    EndsBy (λ a. object_fault d kinds.File (remote_at held url d kinds.File) ≡ None)
    (IsFaultOf d kinds.File (object_fault d kinds.File (remote_at held url d kinds.File))) result

-- The remote's object can be written to `t`: nothing is there, and each path above it is absent or
-- a directory
pub record CanBring (t : Elements) (v : View) : Type 0 where
  pub free : v.names t ≡ absent
  pub folders : AreFree (ancestors t) v

-- The file of the digest `d` is refused, because its computed digest is `got`
pub record IsCorruptAs (d got : List ℕ) (w : WalkFault) : Type 0 where
  pub off : got ≡ d → ⊥
  pub is : w ≡ record { digest = d; kind = kinds.File; fault = faults.Corrupt got }
