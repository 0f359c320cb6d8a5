-- Placing objects at their paths, and removing them.
use Rattle.std.specs.Prelude.{◌≡◌, ◌⊎◌, List, ℕ, true, is_some, Contains}
use Rattle.fp_host.specs.Paths.{Elements, Slot, absent}
use Rattle.fp_host.specs.View.{View}
use Rattle.fp_host.specs.Calls.{IsLeaf, IsDirty, creates, appends, syncs, done}
use Rattle.fp_host.specs.Outcome.{Spot, Disk, Leaves, Gives, gone, shows}
use Rattle.fp_host.specs.Frame.{Keeps, NoPath}
use Rattle.fp_small.specs.Clear.{GoneAt, AbsentAt}
use Rattle.fp_small.specs.declared.limits.TheConstants.{FILE_MODE}
use Rattle.fp_small.specs.Folders.{ancestors, FoldersAt, DirsAt, AreFree}
use Rattle.fp_base.specs.declared.object.ObjKind.{ObjKind}
use Rattle.ost_model.specs.Objects.{object_path, Named}
use Rattle.ost_model.specs.Stores.{IsStore}
use Rattle.ost_store.specs.Reads.{object_of}

-- Placing from `t` at `p` may leave this node at a path: at `p` one that the entry of `t` in `u`
-- may show, nothing at `t`, and directories above `p`
abbrev pub PlacesAt : Elements → Elements → View → Elements → Spot → Type 0
PlacesAt t p u q spot =
    Gives u p (u.names t) q spot ⊎ (GoneAt t q spot ⊎ FoldersAt (ancestors p) q spot)

-- Placing from `t` at `p` may give a name this entry: `p` the entry that `t` has in `u`, `t` none,
-- and the names above `p` a directory
abbrev pub PlacesName : Elements → Elements → View → Elements → Slot → Type 0
PlacesName t p u q e = ((q ≡ p) × (e ≡ u.names t)) ⊎ (AbsentAt t q e ⊎ DirsAt (ancestors p) q e)

-- What is at `t` may be moved to `p`, and nothing else changes, except for directories above `p`.
-- The bytes of no file change.
pub record Places (t p : Elements) (u w : View) : Type 0 where
  pub keeps : Keeps (PlacesAt t p u) (PlacesName t p u) NoPath u w

-- The file or symlink at `t` was moved to `p`
pub record WasPlaced (t p : Elements) (u w : View) : Type 0 where
  pub leaf : IsLeaf (u.names t)
  pub name : w.names p ≡ u.names t
  pub stood : Contains w.stood (p, u.names t)
  pub left : w.names t ≡ absent

-- The file or symlink at `p` was removed
pub record WasRemoved (p : Elements) (u w : View) : Type 0 where
  pub leaf : IsLeaf (u.names p)
  pub left : w.names p ≡ absent

-- The name `p` may be removed, and nothing else changes
abbrev pub TakesAway : Elements → View → View → Type 0
TakesAway p u w = Keeps (GoneAt p) (AbsentAt p) NoPath u w

-- The view after a file with these bytes was created at `t`, written and synced
abbrev pub with_new_file : Elements → ℕ → List ℕ → View → View
with_new_file t id bytes v = done syncs (done (appends t bytes) (done (creates t FILE_MODE id) v))

-- The object of this digest and kind is at `t`, as a symlink or as a file that wasn't created since
-- the last sync
pub record IsReadyAs (d : List ℕ) (kind : ObjKind) (t : Elements) (v : View) : Type 0 where
  pub leaf : IsLeaf (v.names t)
  pub clean : IsDirty v (v.names t) → ⊥
  pub named : Named d kind (shows v t)

-- The object at `t` is ready, its path in the store at `root` is absent, and each path above that
-- is absent or a directory
pub record CanPlace (root t : Elements) (d : List ℕ) (kind : ObjKind) (v : View) : Type 0 where
  pub ready : IsReadyAs d kind t v
  pub free : v.names (object_path root d kind) ≡ absent
  pub folders : AreFree (ancestors (object_path root d kind)) v

-- The store at `root` has the object
pub record HasObject (root : Elements) (d : List ℕ) (kind : ObjKind) (v : View) : Type 0 where
  pub there : is_some (object_of kind (object_path root d kind) v) ≡ true

-- Every crash leaves, at the object's path, the object of this digest and kind, or nothing
pub record LeavesObject (root : Elements) (d : List ℕ) (kind : ObjKind) (v : View) : Type 0 where
  pub each : (disk : Disk) → Leaves v disk → (disk (object_path root d kind) ≡ gone)
      ⊎ Named d kind (disk (object_path root d kind))

-- Every crash leaves a store at `root` whose objects match their names
pub record LeavesStore (root : Elements) (v : View) : Type 0 where
  pub each : (disk : Disk) → Leaves v disk → IsStore root disk
