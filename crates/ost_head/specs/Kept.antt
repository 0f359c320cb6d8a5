-- The part of a commit's file `metadata` that is kept.
use Rattle.std.specs.Prelude.{◌≡◌, ℕ, List, length, leb, Option, Some, None, Result, Ok, Err, if◌then◌else◌}
use Rattle.fp_base.specs.declared.object.ObjKind.TheVariants as kinds
use Rattle.ost_model.specs.declared.limits.TheConstants.{MOST_METADATA_FILE_BYTES}
use Rattle.ost_model.specs.declared.object.Object.{Object}
use Rattle.ost_model.specs.Objects.{object_fault}
use Rattle.ost_walk.specs.declared.ends.WalkEnd.{WalkEnd}
use Rattle.ost_walk.specs.Ends.{EndsBy, IsFaultOf, RefusesBy}
use Rattle.ost_head.specs.Objects.{IsFaultThere}
use Rattle.ost_head.specs.Heads.{content_in}
use Rattle.ost_head.specs.declared.metadata.Kept.{Kept}
use Rattle.ost_head.specs.declared.metadata.Kept.TheVariants as kept

-- The content if it is within the limit, and otherwise its size in bytes
abbrev pub kept_of : Option (List ℕ) → Kept
kept_of None = kept.Nothing
kept_of (Some bytes) = if leb (length bytes) MOST_METADATA_FILE_BYTES then kept.Bytes bytes
    else kept.Longer (length bytes)

-- There is a file or a symlink without a fault, and this part of it is kept
pub record IsKept (d : List ℕ) (there : Option Object) (k : Kept) : Type 0 where
  pub object : Object
  pub is : there ≡ Some object
  pub good : object_fault d kinds.File (Some object) ≡ None
  pub kept_is : k ≡ kept_of (content_in (Some object))

-- Holds if the result is the part of the object that is kept, or the refusal with its fault
abbrev pub Keeps : List ℕ → Option Object → Result Kept WalkEnd → Type 0
Keeps d there result =
    EndsBy (IsKept d there) (IsFaultOf d kinds.File (object_fault d kinds.File there)) result

-- Holds if the result is `None` and there is no object, or it is the part of the object that is
-- kept, or the refusal with its fault
abbrev pub KeepsIfThere : List ℕ → Option Object → Result (Option Kept) WalkEnd → Type 0
KeepsIfThere d there (Ok None) = there ≡ None
KeepsIfThere d there (Ok (Some k)) = IsKept d there k
KeepsIfThere d there (Err end) = RefusesBy (IsFaultThere d kinds.File there) end
