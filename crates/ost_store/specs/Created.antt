-- Objects that were made in a store.
use Rattle.std.specs.Prelude.{◌≡◌, ◌⊎◌, ℕ, List, Some, None, Contains}
use Rattle.fp_host.specs.Paths.{Elements, file, link, IsAbove}
use Rattle.fp_host.specs.View.{View}
use Rattle.fp_host.specs.Outcome.{holds}
use Rattle.fp_base.specs.declared.object.ObjKind.{ObjKind}
use Rattle.fp_base.specs.declared.object.ObjKind.TheVariants as kinds
use Rattle.fp_small.specs.declared.limits.TheConstants.{FILE_MODE}
use Rattle.ost_model.specs.Objects.{object_path, Named}
use Rattle.ost_model.specs.Stores.{objects_folder}

-- The permission bits are those of an object of the kind: 0644 for a metadata object, any for a
-- file
abbrev pub HasBits : ObjKind → ℕ → Type 0
HasBits kinds.File mode = Unit {0}
HasBits kinds.Commit mode = mode ≡ FILE_MODE
HasBits kinds.DirTree mode = mode ≡ FILE_MODE
HasBits kinds.DirMeta mode = mode ≡ FILE_MODE

-- A file that is new since `u` was put at the object's path, and is the object of this digest and
-- kind. A metadata object's file has the permission bits 0644.
pub record MadeFile (root : Elements) (o : List ℕ × ObjKind) (u w : View) : Type 0 where
  pub id : ℕ
  pub mode : ℕ
  pub bytes : List ℕ
  pub new : u.files id ≡ None
  pub put : Contains w.stood (object_path root o.0 o.1, file id)
  pub row : w.files id ≡ Some (record { mode = mode; bytes = bytes })
  pub named : Named o.0 o.1 (holds id mode bytes)
  pub bits : HasBits o.1 mode

-- The object was made since `u` as a new file, or a symlink was put at its path
abbrev pub WasMade : Elements → List ℕ × ObjKind → View → View → Type 0
WasMade root o u w =
    MadeFile root o u w ⊎ ((text : List ℕ) × Contains w.stood (object_path root o.0 o.1, link text))

-- The file was put at the name after `u`
pub record WasPutSince (q : Elements) (id : ℕ) (u w : View) : Type 0 where
  pub since : Contains u.stood (q, file id) → ⊥
  pub put : Contains w.stood (q, file id)

-- The objects of `L` were made since `u`, each as one file at most. Each file that was put below
-- `objects` since `u` is new, and was put at the path of one of these objects.
pub record Creates (root : Elements) (L : List ℕ × ObjKind → Type 0) (u w : View) : Type 0 where
  pub each : (o : List ℕ × ObjKind) → L o → WasMade root o u w
  pub only : (q : Elements) (id : ℕ) → IsAbove (objects_folder root) q
      → Contains w.stood (q, file id)
      → Contains u.stood (q, file id)
      ⊎ ((u.files id ≡ None) × ((o : List ℕ × ObjKind) × L o × (q ≡ object_path root o.0 o.1)))
  pub one : (o : List ℕ × ObjKind) → L o → (i j : ℕ) → WasPutSince (object_path root o.0 o.1) i u w
      → WasPutSince (object_path root o.0 o.1) j u w → i ≡ j

-- The set without objects
abbrev pub NoObject : List ℕ × ObjKind → Type 0
NoObject o = ⊥
