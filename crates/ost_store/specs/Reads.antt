-- The objects that a store has at their paths, in the present view.
use Rattle.std.specs.Prelude.{◌≡◌, ℕ, List, length, leb, Bool, true, false, Option, Some, None, is_some, if◌then◌else◌}
use Rattle.fp_host.specs.Paths.{Elements}
use Rattle.fp_host.specs.View.{View}
use Rattle.fp_host.specs.Outcome.{shows}
use Rattle.fp_host.specs.Remote.{CameFrom}
use Rattle.fp_base.specs.declared.object.ObjKind.{ObjKind}
use Rattle.fp_base.specs.declared.object.ObjKind.TheVariants as kinds
use Rattle.ost_model.specs.declared.object.Object.{Object}
use Rattle.ost_model.specs.declared.object.Object.TheVariants as objects
use Rattle.ost_model.specs.Objects.{may_be_link, object_path, object_at}
use Rattle.ost_store.specs.declared.reading.Got.{Got}
use Rattle.ost_store.specs.declared.reading.Got.TheVariants as got

-- The object at the path
abbrev pub object_of : ObjKind → Elements → View → Option Object
object_of kind p v = object_at kind (shows v p)

-- `there` is whether the store at `root` has the object
pub record IsThere (root : Elements) (d : List ℕ) (kind : ObjKind) (v : View)
    (there : Bool) : Type 0 where
  pub is : there ≡ is_some (object_of kind (object_path root d kind) v)

-- The result of looking up an object, with a maximum length in bytes
abbrev pub got_of : ℕ → Option Object → Got
got_of most None = got.Absent
got_of most (Some (objects.Meta bytes)) =
    if leb (length bytes) most then got.Meta bytes else got.TooLong (length bytes)
got_of most (Some (objects.File mode bytes)) =
    if leb (length bytes) most then got.File mode (length bytes) else got.TooLong (length bytes)
got_of most (Some (objects.Link text)) = got.Link text

-- The result may be that of looking up an object of this kind, on any host
abbrev pub IsGotOf : ObjKind → Got → Type 0
IsGotOf kind (got.Meta bytes) = may_be_link kind ≡ false
IsGotOf kind (got.File mode size) = may_be_link kind ≡ true
IsGotOf kind (got.Link text) = may_be_link kind ≡ true
IsGotOf kind got.Absent = Unit {0}
IsGotOf kind (got.TooLong size) = Unit {0}

-- `told` is the result of looking up the object at the path
pub record GetsAt (kind : ObjKind) (p : Elements) (most : ℕ) (v : View) (told : Got) : Type 0 where
  pub is : told ≡ got_of most (object_of kind p v)

-- `told` is the result of looking up the object in the store at `root`
abbrev pub Gets : Elements → List ℕ → ObjKind → ℕ → View → Got → Type 0
Gets root d kind most v told = GetsAt kind (object_path root d kind) most v told

-- The store at `root` has the object as a regular file
pub record HasFile (root : Elements) (d : List ℕ) (v : View) : Type 0 where
  pub mode : ℕ
  pub bytes : List ℕ
  pub there : object_of kinds.File (object_path root d kinds.File) v
      ≡ Some (objects.File mode bytes)

-- The first `n` bytes of the buffer are those of the file's content from the offset `at` on
pub record ReadsPiece (root : Elements) (d : List ℕ) (at : ℕ) (into : List ℕ) (v : View)
    (n : ℕ) : Type 0 where
  pub file : HasFile root d v
  pub came : CameFrom file.bytes at into n

-- The bytes, if there are at most `most`
abbrev pub if_within : ℕ → List ℕ → Option (List ℕ)
if_within most bytes = if leb (length bytes) most then Some bytes else None

-- The content of an object that is a regular file of at most `most` bytes
abbrev pub content_within : ℕ → Option Object → Option (List ℕ)
content_within most None = None
content_within most (Some (objects.File mode bytes)) = if_within most bytes
content_within most (Some (objects.Link text)) = None
content_within most (Some (objects.Meta bytes)) = None
