-- Small objects of a remote that are read whole, a batch at a time, before their digests are
-- computed.
use Rattle.std.specs.Prelude.{◌≡◌, ◌≤◌, ◌<◌, ℕ, List, ◌∷◌, ◌++◌, [], length, get_or, Option}
use Rattle.fp_host.specs.Paths.{Elements}
use Rattle.fp_host.specs.Moments.{Moments}
use Rattle.fp_host.specs.Remote.{Holdings}
use Rattle.fp_base.specs.declared.object.ObjKind.{ObjKind}
use Rattle.par_digest.specs.declared.item.Item.{Item}
use Rattle.par_digest.specs.declared.limits.TheConstants.{MOST_SMALL_BYTES}
use Rattle.par_digest.specs.Digests.{item_digest}
use Rattle.ost_model.specs.declared.object.Object.{Object}
use Rattle.ost_model.specs.declared.object.Object.TheVariants as objects
use Rattle.ost_model.specs.Objects.{digest_of}
use Rattle.ost_head.specs.Found.{IsNew}
use Rattle.ost_head.specs.Objects.{IsFit}
use Rattle.ost_pull.specs.declared.forms.Form.{Form}
use Rattle.ost_pull.specs.declared.forms.Form.TheVariants as forms
use Rattle.ost_pull.specs.declared.batches.Turn.{Turn}
use Rattle.ost_pull.specs.declared.batches.Turn.TheVariants as turns

-- The object of this form, whose bytes are the body of the item
abbrev pub object_in : Form → Item → Object
object_in forms.Meta item = objects.Meta item.body
object_in (forms.File mode) item = objects.File mode item.body
object_in (forms.Link text) item = objects.Link text

-- The form and the item are those of the object, and the item has its digest
pub record IsParted (object : Object) (form : Form) (item : Item) : Type 0 where
  pub whole : object_in form item ≡ object
  pub digest : item_digest item ≡ digest_of object

-- The object has at most 256 KiB
abbrev pub IsSmall : Object → Type 0
IsSmall (objects.Meta bytes) = length bytes ≤ MOST_SMALL_BYTES
IsSmall (objects.File mode bytes) = length bytes ≤ MOST_SMALL_BYTES
IsSmall (objects.Link text) = length text ≤ MOST_SMALL_BYTES

-- The item is that of a small object of the remote, which the store lacks
pub record IsBatched (root : Elements) (url : List ℕ) (told : Option Moments)
    (holds : Option Holdings) (o : List ℕ × ObjKind) (form : Form) (item : Item) : Type 0 where
  pub fit : IsFit o.1 (object_in form item)
  pub small : IsSmall (object_in form item)
  pub new : IsNew root url told holds o.0 o.1 (object_in form item)
  pub digest : item_digest item ≡ digest_of (object_in form item)

-- The item at this index is that of a small object of the remote, which the store lacks
pub record IsBatchedAt (root : Elements) (url : List ℕ) (told : Option Moments)
    (holds : Option Holdings) (o : List ℕ × ObjKind) (form : Form) (items : List Item)
    (place : ℕ) : Type 0 where
  pub item : Item
  pub low : place < length items
  pub at : item ≡ get_or items place item
  pub batched : IsBatched root url told holds o form item

-- The object is ready for its turn; nothing is known of one that is taken by itself
abbrev pub IsReady : Elements → List ℕ → Option Moments → Option Holdings → List ℕ × ObjKind
    → List Item → Turn → Type 0
IsReady root url told holds o items turns.Alone = Unit {0}
IsReady root url told holds o items (turns.Batched form place) =
    IsBatchedAt root url told holds o form items place

-- The first `n` of these objects are ready, each for the turn at its index
pub record AreReady (root : Elements) (url : List ℕ) (told : Option Moments)
    (holds : Option Holdings) (n : ℕ) (objects : List (List ℕ × ObjKind)) (turns : List Turn)
    (items : List Item) : Type 0 where
  pub many : n ≤ length turns
  pub each : (i : ℕ) (o : List ℕ × ObjKind) (turn : Turn) → i < n → o ≡ get_or objects i o
      → turn ≡ get_or turns i turn → IsReady root url told holds o items turn

-- One turn was appended, for which the object is ready, with its item if it was read
pub record AddsTurn (root : Elements) (url : List ℕ) (told : Option Moments)
    (holds : Option Holdings) (o : List ℕ × ObjKind) (turns turns' : List Turn)
    (items items' : List Item) : Type 0 where
  pub turn : Turn
  pub more : List Item
  pub turns_are : turns' ≡ turns ++ turn ∷ []
  pub items_are : items' ≡ items ++ more
  pub ready : IsReady root url told holds o items' turn
