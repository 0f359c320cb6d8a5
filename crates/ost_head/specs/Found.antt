-- The source of an object that was found.
use Rattle.std.specs.Prelude.{◌≡◌, ⊤, ℕ, List, Option, Some, None}
use Rattle.fp_host.specs.Paths.{Elements}
use Rattle.fp_host.specs.Moments.{Moments}
use Rattle.fp_host.specs.Outcome.{shows}
use Rattle.fp_host.specs.Remote.{Holdings}
use Rattle.fp_base.specs.declared.object.ObjKind.{ObjKind}
use Rattle.ost_model.specs.declared.object.Object.{Object}
use Rattle.ost_model.specs.Objects.{store}
use Rattle.ost_model.specs.Remotes.{remote_at}
use Rattle.ost_store.specs.Stage.{IsKeepable}
use Rattle.ost_head.specs.declared.found.Found.{Found}
use Rattle.ost_head.specs.declared.found.Found.TheVariants as found

-- The object that was found
abbrev pub found_object : Found → Object
found_object (found.Stored object) = object
found_object (found.New object) = object

-- If the host reports its content, the store has this object, or none
pub record HostHas (root : Elements) (told : Option Moments) (d : List ℕ) (kind : ObjKind)
    (object : Option Object) : Type 0 where
  pub is : (m : Moments) → told ≡ Some m → store root (shows m.now) d kind ≡ object

-- If the remotes report their content, the remote has this object
pub record RemoteHas (url : List ℕ) (holds : Option Holdings) (d : List ℕ) (kind : ObjKind)
    (object : Object) : Type 0 where
  pub is : (held : Holdings) → holds ≡ Some held → remote_at held url d kind ≡ Some object

-- The store doesn't have the object, and the remote has it
pub record IsNew (root : Elements) (url : List ℕ) (told : Option Moments) (holds : Option Holdings)
    (d : List ℕ) (kind : ObjKind) (object : Object) : Type 0 where
  pub none : HostHas root told d kind None
  pub there : RemoteHas url holds d kind object

-- Holds if the object is the store's, or the store has none and it is the remote's
abbrev pub IsFound : Elements → List ℕ → Option Moments → Option Holdings → List ℕ → ObjKind
    → Found → Type 0
IsFound root url told holds d kind (found.Stored object) = HostHas root told d kind (Some object)
IsFound root url told holds d kind (found.New object) = IsNew root url told holds d kind object

-- Holds if an object that the store lacks is one that a store may keep
abbrev pub IsKeepableIfNew : Found → Type 0
IsKeepableIfNew (found.Stored object) = ⊤
IsKeepableIfNew (found.New object) = IsKeepable object
