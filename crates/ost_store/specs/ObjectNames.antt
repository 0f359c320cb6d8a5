-- The paths of objects in a store, and the directories above them.
use Rattle.std.specs.Prelude.{◌≡◌, ℕ, List, true}
use Rattle.fp_base.specs.declared.object.ObjKind.{ObjKind}
use Rattle.fp_host.specs.Paths.{Elements, IsAbove}
use Rattle.fp_host.specs.View.{View}
use Rattle.fp_name.specs.Hex.{is_digest}
use Rattle.fp_small.specs.Folders.{IsFree}
use Rattle.ost_model.specs.Objects.{object_path}

-- The path is that of an object in the store at `root`
pub record IsObjectName (root q : Elements) : Type 0 where
  pub digest : List ℕ
  pub kind : ObjKind
  pub digits : is_digest digest ≡ true
  pub at : q ≡ object_path root digest kind

-- The path is above that of an object in the store at `root`
pub record IsAboveObject (root q : Elements) : Type 0 where
  pub digest : List ℕ
  pub kind : ObjKind
  pub digits : is_digest digest ≡ true
  pub above : IsAbove q (object_path root digest kind)

-- Each path above that of an object is absent or a directory
pub record AreOpen (root : Elements) (v : View) : Type 0 where
  pub free : (q : Elements) → IsAboveObject root q → IsFree v q
