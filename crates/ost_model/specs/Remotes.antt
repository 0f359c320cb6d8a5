-- The objects of a remote, and those of a store and a remote together.
use Rattle.std.specs.Prelude.{◌≡◌, ℕ, List, [], Option, Some, None}
use Rattle.fp_host.specs.Paths.{Elements}
use Rattle.fp_host.specs.Moments.{Moments}
use Rattle.fp_host.specs.Outcome.{Spot, gone, folder, holds, points, shows}
use Rattle.fp_host.specs.Remote.{Held, nothing, directory, contents, target, Holdings}
use Rattle.ost_model.specs.Objects.{Have, object_path, object_at, store, supply}

-- The node at a path of a remote, as one of a disk; the id of each file is 0, since remotes report
-- none
abbrev pub as_spot : Held → Spot
as_spot nothing = gone
as_spot directory = folder
as_spot (contents mode bytes) = holds 0 mode bytes
as_spot (target text) = points text

-- The objects of the remote at a URL, which has the paths of a store
abbrev pub remote_at : Holdings → List ℕ → Have
remote_at held url d kind = object_at kind (as_spot (held url (object_path [] d kind)))

-- The objects of the remote at a URL; there are none without a URL
abbrev pub remote : Holdings → Option (List ℕ) → Have
remote held None d kind = None
remote held (Some url) d kind = remote_at held url d kind

-- A host and remotes report their content, and `have` is the objects of the store at `root`
-- together with those of the remote. An object that both have is the store's.
pub record Supplies (root : Elements) (url : Option (List ℕ)) (told : Option Moments)
    (holdings : Option Holdings) (have : Have) : Type 0 where
  pub moments : Moments
  pub held : Holdings
  pub told_is : told ≡ Some moments
  pub holdings_are : holdings ≡ Some held
  pub is : have ≡ supply (store root (shows moments.now)) (remote held url)

-- A host reports its content, and `have` is the objects of the store at `root`
pub record Stores (root : Elements) (told : Option Moments) (have : Have) : Type 0 where
  pub moments : Moments
  pub told_is : told ≡ Some moments
  pub is : have ≡ store root (shows moments.now)
