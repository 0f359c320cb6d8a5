-- The frames of tidying, checking out and pulling: the nodes that a crash may newly show, and at
-- which paths.
use Rattle.std.specs.Prelude.{◌≡◌, ◌≢◌, ◌⊎◌, ◌≤◌, ◌++◌, ℕ, List, [], length, true, Some}
use Rattle.fp_host.specs.Paths.{Elements, absent}
use Rattle.fp_host.specs.View.{View}
use Rattle.fp_host.specs.Outcome.{Spot, gone, Disk, Leaves, Follows}
use Rattle.fp_base.specs.declared.object.ObjKind.{ObjKind}
use Rattle.fp_name.specs.Hex.{is_digest}
use Rattle.fp_name.specs.Refs.{Ref}
use Rattle.fp_small.specs.Places.{repo}
use Rattle.fp_small.specs.declared.limits.TheConstants.{MOST_ELEMENTS}
use Rattle.fp_small.specs.declared.state.State.{State}
use Rattle.fp_small.specs.declared.state.RefRow.{RefRow}
use Rattle.ost_model.specs.Objects.{object_path, Named, store}
use Rattle.ost_model.specs.Order.{Place, In, order}
use Rattle.dep_states.specs.Names.{commit_dir}
use Rattle.dep_states.specs.After.{row_at}
use Rattle.dep_states.specs.Sound.{IsKeptBy, Keeps}
use Rattle.dep_states.specs.Zones.{IsFolderOrGone}

-- One of two frames allows the node
abbrev pub Either : (Elements → Spot → Type 0) → (Elements → Spot → Type 0) → Elements
    → Spot → Type 0
Either G H p spot = G p spot ⊎ H p spot

-- ---- commits that the state doesn't keep

-- The state has the ref, with this commit or previous commit
pub record KeptIn (s : State) (name : Ref) (commit : List ℕ) : Type 0 where
  pub row : RefRow
  pub has : row_at s name ≡ Some row
  pub of_row : IsKeptBy row commit

-- Any node at a path of at most 128 elements in the directory of a commit; at the directory's own
-- path only a directory or nothing
pub record InDir (name : Ref) (commit : List ℕ) (p : Elements) (spot : Spot) : Type 0 where
  pub rest : Elements
  pub is : p ≡ rest ++ commit_dir name commit
  pub short : length p ≤ MOST_ELEMENTS
  pub itself : rest ≡ [] → IsFolderOrGone spot

-- ---- objects

-- After each crash, no commit that the image keeps uses the object
abbrev pub IsUnused : View → List ℕ → ObjKind → Type 0
IsUnused v d kind = (disk : Disk) → Leaves v disk → (name : Ref) (commit : List ℕ) (place : Place)
    → Keeps disk name commit
    → In (order (store repo disk) commit) place
    → object_path repo place.digest place.kind ≢ object_path repo d kind

-- The object's path becomes absent
abbrev pub ObjectGone : List ℕ → ObjKind → Elements → Spot → Type 0
ObjectGone d kind p spot = (p ≡ object_path repo d kind) × (spot ≡ gone)

-- An object is placed at a path that was absent, or removed from it again
pub record IsNewObject (u : View) (p : Elements) (spot : Spot) : Type 0 where
  pub digest : List ℕ
  pub kind : ObjKind
  pub is : p ≡ object_path repo digest kind
  pub digits : is_digest digest ≡ true
  pub named : Named digest kind spot ⊎ (spot ≡ gone)
  pub absent_before : u.names p ≡ absent

-- A pull, from `u` to `w`: a crash may newly show what `Work` allows, and new objects. The paths of
-- objects that existed are unchanged.
pub record Pulls (Work : Elements → Spot → Type 0) (u w : View) : Type 0 where
  pub follows : Follows (Either Work (IsNewObject u)) u w
  pub names : (d : List ℕ) (kind : ObjKind)
      → (w.names (object_path repo d kind) ≡ u.names (object_path repo d kind))
      ⊎ (u.names (object_path repo d kind) ≡ absent)
