-- Tables of objects of one kind by their digests.
use Rattle.std.specs.Prelude.{◌≡◌, ◌≢◌, ◌⊎◌, ℕ, List, [], ◌∷◌, ◌++◌, map, Option, Some, None}
use Rattle.std.specs.Ordering.{nat_cmp}
use Rattle.std.specs.Cmp.Lexicographic.{slice_cmp}
use Rattle.std.specs.BTreeMap.{is_at}
use Rattle.std.specs.Map.{lookup}
use Rattle.std.specs.List.{AllByRecursion}
use Rattle.fp_base.specs.declared.object.ObjKind.{ObjKind}
use Rattle.fp_base.specs.declared.object.ObjKind.TheVariants as kinds
use Rattle.ost_model.specs.declared.object.Object.{Object}
use Rattle.ost_model.specs.declared.object.Object.TheVariants as objects
use Rattle.ost_model.specs.Objects.{object_fault, digest_of}
use Rattle.ost_model.specs.Contents.{file_digest, link_digest, meta_digest}
use Rattle.ost_commit.specs.declared.row.TreeRow.{TreeRow}
use Rattle.ost_commit.specs.declared.row.TreeRow.TheVariants as row
use Rattle.ost_commit.specs.declared.built.BuiltObject.{BuiltObject}
use Rattle.ost_commit.specs.declared.built.BuildError.{BuildError}
use Rattle.ost_commit.specs.declared.built.BuildError.TheVariants as error

-- The object with a digest in a table
abbrev pub object_in : List (List ℕ × Object) → List ℕ → Option Object
object_in table d = lookup (is_at (slice_cmp nat_cmp d)) table

-- The object was put under its digest, and all other objects stayed
pub record PutsObject (old new : List (List ℕ × Object)) (d : List ℕ) (object : Object) : Type 0
  where
    pub there : object_in new d ≡ Some object
    pub kept : (q : List ℕ) (o : Object) → object_in old q ≡ Some o → object_in new q ≡ Some o
    pub only : (q : List ℕ) (o : Object) → object_in new q ≡ Some o
        → (object_in old q ≡ Some o) ⊎ ((q ≡ d) × (o ≡ object))

-- A different object has this digest
pub record IsOtherThere (table : List (List ℕ × Object)) (d : List ℕ) (object : Object) : Type 0
  where
    pub other : Object
    pub there : object_in table d ≡ Some other
    pub apart : other ≢ object

-- Holds if putting an object into a table may fail with this error
abbrev pub IsFaultOfPut : List (List ℕ × Object) → List ℕ → Object → BuildError → Type 0
IsFaultOfPut table d object (error.Row n) = ⊥
IsFaultOfPut table d object error.Collision = IsOtherThere table d object
IsFaultOfPut table d object error.TooLarge = ⊥
IsFaultOfPut table d object error.NoMemory = Unit {0}

-- Holds if the object of a row's file or symlink is in the table
abbrev pub HasRow : List (List ℕ × Object) → TreeRow → Type 0
HasRow table (row.Dir path) = Unit {0}
HasRow table (row.File path mode bytes) =
    object_in table (file_digest mode bytes) ≡ Some (objects.File mode bytes)
HasRow table (row.Link path target) =
    object_in table (link_digest target) ≡ Some (objects.Link target)

-- No object of the table has a fault
pub record AreUsable (kind : ObjKind) (table : List (List ℕ × Object)) : Type 0 where
  pub each : (d : List ℕ) (o : Object) → object_in table d ≡ Some o
      → object_fault d kind (Some o) ≡ None

-- An object of a table, with its kind
abbrev pub built_of : ObjKind → List ℕ × Object → BuiltObject
built_of kind e = record { digest = e.0; kind = kind; object = e.1 }

-- A metadata object with its digest
abbrev pub built_meta : ObjKind → List ℕ → BuiltObject
built_meta kind bytes =
    record { digest = meta_digest bytes; kind = kind; object = objects.Meta bytes }

-- Holds if the objects are the files and symlinks, the dirtrees, the dirmeta and the commit, in
-- this order
abbrev pub AreObjectsOf : List (List ℕ × Object) → List (List ℕ × Object) → List ℕ → List ℕ
    → List BuiltObject → Type 0
AreObjectsOf contents trees meta commit os =
    os ≡ map (built_of kinds.File) contents
    ++ (map (built_of kinds.DirTree) trees
    ++ (built_meta kinds.DirMeta meta ∷ built_meta kinds.Commit commit ∷ []))

-- Two different objects have one digest
pub record Collide : Type 0 where
  pub first : Object
  pub second : Object
  pub apart : first ≢ second
  pub same : digest_of first ≡ digest_of second

-- Holds if making a table may fail with this error. `large` is the condition for `TooLarge`.
abbrev pub IsFaultOfTables : Type 0 → BuildError → Type 0
IsFaultOfTables large (error.Row n) = ⊥
IsFaultOfTables large error.Collision = Collide
IsFaultOfTables large error.TooLarge = large
IsFaultOfTables large error.NoMemory = Unit {0}

-- The table has the objects of the rows' files and symlinks, and no object of it has a fault
pub record AreContents (rows : List TreeRow) (table : List (List ℕ × Object)) : Type 0 where
  pub there : AllByRecursion (HasRow table) rows
  pub usable : AreUsable kinds.File table
