-- Files and symlinks whose content isn't read, or is read in pieces.
use Rattle.std.specs.Prelude.{◌≡◌, ◌≤◌, ℕ, List, Bool, true, false, Option, Some, None, Result, Ok, Err}
use Rattle.fp_host.specs.Paths.{is_link_text}
use Rattle.fp_base.specs.declared.object.ObjKind.TheVariants as kinds
use Rattle.ost_model.specs.declared.limits.TheConstants.{MOST_FILE_BYTES}
use Rattle.ost_model.specs.declared.object.Object.{Object}
use Rattle.ost_model.specs.declared.object.Object.TheVariants as objects
use Rattle.ost_model.specs.Contents.{is_permission}
use Rattle.ost_model.specs.Objects.{object_fault}
use Rattle.ost_walk.specs.declared.ends.WalkEnd.{WalkEnd}
use Rattle.ost_walk.specs.Ends.{EndsBy, RefusesBy, IsFaultOf}
use Rattle.ost_head.specs.Objects.{IsFaultThere}
use Rattle.ost_head.specs.Stored.{IsFileOf}
use Rattle.ost_head.specs.declared.content.Content.{Content}
use Rattle.ost_head.specs.declared.content.Content.TheVariants as content

-- A file of this size with these permission bits is within the limits
pub record IsWithinLimits (mode size : ℕ) : Type 0 where
  pub short : size ≤ MOST_FILE_BYTES
  pub bits : is_permission mode ≡ true

-- The text of the symlink is valid, and the link matches its digest
pub record IsGoodLink (d text : List ℕ) : Type 0 where
  pub may_be : is_link_text text ≡ true
  pub good : object_fault d kinds.File (Some (objects.Link text)) ≡ None

-- Holds if a symlink's text is valid and the link matches its digest, or a file is within the
-- limits
abbrev pub IsFitContent : List ℕ → Content → Type 0
IsFitContent d (content.Link text) = IsGoodLink d text
IsFitContent d (content.File mode size) = IsWithinLimits mode size

-- Holds if the content is that of the object
abbrev pub IsContentOf : Option Object → Content → Type 0
IsContentOf there (content.Link text) = there ≡ Some (objects.Link text)
IsContentOf there (content.File mode size) = IsFileOf mode size there

-- Holds if the result is the content of the object, or the refusal with its fault
abbrev pub LooksAt : List ℕ → Option Object → Result Content WalkEnd → Type 0
LooksAt d there result =
    EndsBy (IsContentOf there) (IsFaultOf d kinds.File (object_fault d kinds.File there)) result

-- There is an object, and it has no fault
pub record IsGoodThere (d : List ℕ) (there : Option Object) : Type 0 where
  pub object : Object
  pub is : there ≡ Some object
  pub good : object_fault d kinds.File (Some object) ≡ None

-- Holds if the result is true and there is an object without a fault, or it is false and there is
-- none, or the refusal with the fault of the object
abbrev pub ChecksIfThere : List ℕ → Option Object → Result Bool WalkEnd → Type 0
ChecksIfThere d there (Ok true) = IsGoodThere d there
ChecksIfThere d there (Ok false) = there ≡ None
ChecksIfThere d there (Err end) = RefusesBy (IsFaultThere d kinds.File there) end

-- Holds if there is an object without a fault, or the result is the refusal with the fault of the
-- object
abbrev pub ChecksThere : {A : Type 0} → List ℕ → Option Object → Result A WalkEnd → Type 0
ChecksThere d there result =
    EndsBy (λ a. IsGoodThere d there) (IsFaultThere d kinds.File there) result
