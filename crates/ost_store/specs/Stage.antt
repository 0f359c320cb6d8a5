-- Objects at the paths from which they are placed.
use Rattle.std.specs.Prelude.{◌≡◌, ◌⊎◌, ℕ, List, ◌++◌, Some, true}
use Rattle.fp_host.specs.Paths.{Elements, Slot, absent, file, link, is_link_text}
use Rattle.fp_host.specs.View.{View}
use Rattle.fp_host.specs.Calls.{IsDirty, IsFile}
use Rattle.fp_host.specs.Outcome.{Spot, holds, points}
use Rattle.fp_host.specs.Frame.{Keeps, Only}
use Rattle.fp_small.specs.declared.limits.TheConstants.{FILE_MODE}
use Rattle.fp_small.specs.Files.{KeepsFiles}
use Rattle.fp_small.specs.Folders.{ancestors, FoldersAt, DirsAt, AreFree}
use Rattle.ost_model.specs.declared.object.Object.{Object}
use Rattle.ost_model.specs.declared.object.Object.TheVariants as objects
use Rattle.ost_model.specs.Contents.{is_permission}
use Rattle.ost_store.specs.Gathers.{Gathers}

-- The permission bits of a metadata object's file: 0644
abbrev pub meta_mode : ℕ
meta_mode = FILE_MODE

-- The node is a file with these permission bits and any bytes
abbrev pub IsOfMode : ℕ → Spot → Type 0
IsOfMode mode spot = (id : ℕ) × (bytes : List ℕ) × (spot ≡ holds id mode bytes)

-- A crash may leave this node of an object that isn't synced: a file with its permission bits and
-- any bytes, or its symlink
abbrev pub MayBeStaged : Object → Spot → Type 0
MayBeStaged (objects.Meta bytes) spot = IsOfMode meta_mode spot
MayBeStaged (objects.File mode bytes) spot = IsOfMode mode spot
MayBeStaged (objects.Link text) spot = spot ≡ points text

-- A name may get this entry for an object: a file, or its symlink
abbrev pub MayBeHeld : Object → Slot → Type 0
MayBeHeld (objects.Meta bytes) e = IsFile e
MayBeHeld (objects.File mode bytes) e = IsFile e
MayBeHeld (objects.Link text) e = e ≡ link text

-- Staging an object at `t` may leave this node at a path: the object at `t`, and directories above
-- `t`
abbrev pub StagesAt : Elements → Object → Elements → Spot → Type 0
StagesAt t object q spot = ((q ≡ t) × MayBeStaged object spot) ⊎ FoldersAt (ancestors t) q spot

-- Staging an object at `t` may give a name this entry: `t` the object's, and the names above `t` a
-- directory
abbrev pub StagesName : Elements → Object → Elements → Slot → Type 0
StagesName t object q e = ((q ≡ t) × MayBeHeld object e) ⊎ DirsAt (ancestors t) q e

-- The object may be written to `t`, and nothing else changes, except for directories above `t`.
-- Only a new file gets bytes: each file that existed keeps its mode and its bytes, also one that
-- was at `t`.
pub record Stages (t : Elements) (object : Object) (u w : View) : Type 0 where
  pub keeps : Keeps (StagesAt t object) (StagesName t object) (Only t) u w
  pub files : KeepsFiles u w

-- The path is a file with these permission bits and these bytes, created since the last sync
pub record IsOpen (t : Elements) (mode : ℕ) (bytes : List ℕ) (v : View) : Type 0 where
  pub id : ℕ
  pub name : v.names t ≡ file id
  pub row : v.files id ≡ Some (record { mode = mode; bytes = bytes })
  pub dirty : v.dirty id ≡ true

-- The object is at the path; if it is a file, it was created since the last sync
abbrev pub IsStaged : Elements → Object → View → Type 0
IsStaged t (objects.Meta bytes) v = IsOpen t meta_mode bytes v
IsStaged t (objects.File mode bytes) v = IsOpen t mode bytes v
IsStaged t (objects.Link text) v = v.names t ≡ link text

-- The path is a file with these permission bits and these bytes, whether or not it was synced
pub record IsFileOf (t : Elements) (mode : ℕ) (bytes : List ℕ) (v : View) : Type 0 where
  pub id : ℕ
  pub name : v.names t ≡ file id
  pub row : v.files id ≡ Some (record { mode = mode; bytes = bytes })

-- The object is at the path, whether or not it was synced
abbrev pub IsHeld : Elements → Object → View → Type 0
IsHeld t (objects.Meta bytes) v = IsFileOf t meta_mode bytes v
IsHeld t (objects.File mode bytes) v = IsFileOf t mode bytes v
IsHeld t (objects.Link text) v = v.names t ≡ link text

-- The object was written to `t`, which was absent, and every other new file is empty
pub record WasStaged (t : Elements) (object : Object) (u w : View) : Type 0 where
  pub free : u.names t ≡ absent
  pub there : IsStaged t object w
  pub gathers : Gathers (Only t) u w

-- The piece was appended to the file at `t`, which was created since the last sync
pub record Grows (t : Elements) (piece : List ℕ) (u w : View) : Type 0 where
  pub was : IsDirty u (u.names t)
  pub grown : (mode : ℕ) (bytes : List ℕ) → IsOpen t mode bytes u → IsOpen t mode (bytes ++ piece) w

-- The permission bits of a file are within 0775 (octal), and the text of a symlink is valid
abbrev pub IsKeepable : Object → Type 0
IsKeepable (objects.Meta bytes) = Unit {0}
IsKeepable (objects.File mode bytes) = is_permission mode ≡ true
IsKeepable (objects.Link text) = is_link_text text ≡ true

-- The path is absent, each path above it is absent or a directory, and the object can be stored
pub record CanStage (t : Elements) (object : Object) (v : View) : Type 0 where
  pub keepable : IsKeepable object
  pub free : v.names t ≡ absent
  pub folders : AreFree (ancestors t) v

-- The file at the path was created since the last sync
abbrev pub CanGrow : Elements → View → Type 0
CanGrow t v = IsDirty v (v.names t)
