-- Reading of commits and dirtrees in a store.
use Rattle.std.specs.Prelude.{◌≡◌, ℕ, List, true, Some, None, Result, Err}
use Rattle.std.specs.List.{list_all}
use Rattle.fp_host.specs.Paths.{Elements, is_element}
use Rattle.fp_host.specs.View.{View}
use Rattle.fp_host.specs.Outcome.{shows}
use Rattle.fp_host.specs.declared.host.HostEnd.{HostEnd}
use Rattle.fp_host.specs.declared.host.HostEnd.TheVariants as ends
use Rattle.fp_base.specs.declared.object.ObjKind.TheVariants as kinds
use Rattle.ost_object.specs.declared.error.ObjectError.{ObjectError}
use Rattle.ost_object.specs.declared.error.ObjectError.TheVariants as errors
use Rattle.fp_base.specs.declared.rule.Rule.{Rule}
use Rattle.ost_model.specs.Fields.{CommitView, TreeView}
use Rattle.ost_model.specs.Objects.{store, object_fault}
use Rattle.ost_model.specs.Order.{tree_at, commit_at}
use Rattle.ost_model.specs.Readers.{file_names, dir_names}

-- The object breaks a rule
abbrev pub IsUnread : {A : Type 0} → Result A Rule → Type 0
IsUnread read = (rule : Rule) × (read ≡ Err rule)

-- The error of a function over a host for an object that can't be read
abbrev pub unread_end : ObjectError → HostEnd
unread_end (errors.Malformed rule) = ends.Fault
unread_end errors.NoMemory = ends.NoMemory

-- `view` is the dirtree of the digest in the store at `root`
pub record IsTree (root : Elements) (d : List ℕ) (v : View) (view : TreeView) : Type 0 where
  pub read : tree_at (store root (shows v)) d ≡ Some view

-- `found` is the digests of the commit's root directory
pub record IsRoot (root : Elements) (commit : List ℕ) (v : View) (found : List ℕ × List ℕ) : Type 0
  where
    pub view : CommitView
    pub read : commit_at (store root (shows v)) commit ≡ Some view
    pub tree : found.0 ≡ view.tree
    pub meta : found.1 ≡ view.meta

-- Each name of the dirtree may be an element of a path
pub record HasGoodNames (view : TreeView) : Type 0 where
  pub files : list_all is_element (file_names view) ≡ true
  pub dirs : list_all is_element (dir_names view) ≡ true

-- The dirtree of the digest has no fault in the store at `root`
pub record HasTree (root : Elements) (d : List ℕ) (v : View) : Type 0 where
  pub good : object_fault d kinds.DirTree (store root (shows v) d kinds.DirTree) ≡ None

-- The commit of the digest has no fault in the store at `root`
pub record HasCommit (root : Elements) (d : List ℕ) (v : View) : Type 0 where
  pub good : object_fault d kinds.Commit (store root (shows v) d kinds.Commit) ≡ None
