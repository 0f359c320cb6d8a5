-- The changes and the promises of a pull.
use Rattle.std.specs.Prelude.{◌≡◌, ◌≢◌, ◌⊎◌, ℕ, List, ◌≤◌, ◌+◌, length, map, true, Option, Some, None, Result, Ok, Err, IsErrOf, OnOk, option_map}
use Rattle.fp_host.specs.Causes.{IsCaused}
use Rattle.fp_host.specs.Paths.{Elements, Slot, absent, dir, IsAbove}
use Rattle.fp_host.specs.View.{View}
use Rattle.fp_host.specs.Moments.{Moments, Always}
use Rattle.fp_host.specs.Outcome.{Spot, folder, Disk, Leaves, IsSettled, shows}
use Rattle.fp_host.specs.Frame.{Keeps, AtEnd}
use Rattle.fp_name.specs.Hex.{is_digest}
use Rattle.fp_base.specs.declared.object.ObjKind.{ObjKind}
use Rattle.fp_base.specs.declared.object.ObjKind.TheVariants as kinds
use Rattle.fp_small.specs.Clear.{IsWithin, CanClear}
use Rattle.fp_small.specs.Files.{KeepsFiles}
use Rattle.fp_small.specs.Shares.{Shares}
use Rattle.fp_small.specs.declared.limits.TheConstants.{MOST_ELEMENTS}
use Rattle.fp_small.specs.declared.refusal.Refusal.{Refusal}
use Rattle.ost_model.specs.declared.object.Object.{Object}
use Rattle.ost_model.specs.Objects.{Have, Named, digest_fault, object_path, store}
use Rattle.ost_model.specs.Remotes.{Supplies}
use Rattle.ost_model.specs.Order.{Agree, In, order, first_fault}
use Rattle.ost_model.specs.Stores.{objects_folder}
use Rattle.ost_store.specs.Created.{Creates}
use Rattle.ost_store.specs.Place.{LeavesStore}
use Rattle.ost_walk.specs.Ends.{IsRemotes, Outside}
use Rattle.ost_walk.specs.Steps.{place_name}
use Rattle.ost_walk.specs.PullEnds.{RefusesBy}
use Rattle.ost_walk.specs.Refusals.{refusal_of}
use Rattle.ost_walk.specs.declared.pull_end.PullEnd.{PullEnd}
use Rattle.ost_walk.specs.declared.pull_end.PullEnd.TheVariants as ends
use Rattle.ost_store.specs.ObjectNames.{IsAboveObject, AreOpen}
use Rattle.ost_pull.specs.Work.{WorksAt, WorksName}

-- The work directory `t` is apart from `objects` of the store: neither is at, above or below the
-- other
pub record IsApart (root t : Elements) : Type 0 where
  pub below : (q : Elements) → IsWithin (objects_folder root) q → IsWithin t q → ⊥
  pub above : (q : Elements) → IsWithin (objects_folder root) q → IsAbove q t → ⊥

-- Each file and symlink of the store matches its digest
pub record HasTrueFiles (root : Elements) (v : View) : Type 0 where
  pub each : (d : List ℕ) (object : Object) → is_digest d ≡ true
      → store root (shows v) d kinds.File ≡ Some object → digest_fault d object ≡ None

-- On a host that reports its content, each file and symlink of the store matches its digest
pub record HasTrueFilesNow (root : Elements) (told : Option Moments) : Type 0 where
  pub are : (m : Moments) → told ≡ Some m → HasTrueFiles root m.now

-- The node is an object of the store, at its path, where nothing was at the start
pub record IsNewObject (root : Elements) (u : View) (q : Elements) (spot : Spot) : Type 0 where
  pub digest : List ℕ
  pub kind : ObjKind
  pub digits : is_digest digest ≡ true
  pub at : q ≡ object_path root digest kind
  pub named : Named digest kind spot
  pub free : u.names q ≡ absent

-- The path is that of an object of the store, where nothing was at the start
pub record IsNewName (root : Elements) (u : View) (q : Elements) : Type 0 where
  pub digest : List ℕ
  pub kind : ObjKind
  pub digits : is_digest digest ≡ true
  pub at : q ≡ object_path root digest kind
  pub free : u.names q ≡ absent

-- A pull may leave this node at a path: work in the directory `t`, new objects of the store, and
-- directories above these
abbrev pub PullsAt : Elements → Elements → View → Elements → Spot → Type 0
PullsAt root t u q spot =
    WorksAt t q spot ⊎ (IsNewObject root u q spot ⊎ (IsAboveObject root q × (spot ≡ folder)))

-- A pull may give a name this entry: work in the directory `t`, new objects of the store, and
-- directories above these
abbrev pub PullsName : Elements → Elements → View → Elements → Slot → Type 0
PullsName root t u q e = WorksName t q e ⊎ (IsNewName root u q ⊎ (IsAboveObject root q × (e ≡ dir)))

-- A pull into the store at `root` with the work directory `t`, at each moment. Only new files get
-- bytes.
pub record Pulls (root t : Elements) (u w : View) : Type 0 where
  pub keeps : Keeps (PullsAt root t u) (PullsName root t u) (IsWithin t) u w
  pub files : KeepsFiles u w

-- If every crash left a store whose objects match their names at the start, a pull at each moment
abbrev pub PullsSoundly : Elements → Elements → View → View → Type 0
PullsSoundly root t u w = LeavesStore root u → Pulls root t u w

-- The commit has no fault, and every crash leaves all objects of its order in the store, as the
-- store and the remote supplied them
pub record HasPulled (root : Elements) (have : Have) (commit : List ℕ) (w : View) : Type 0 where
  pub clean : first_fault have commit ≡ None
  pub stored : (disk : Disk) → Leaves w disk → Agree have (store root disk) (order have commit)

-- The object isn't in the commit's order
abbrev pub IsNoneOf : Have → List ℕ → List ℕ × ObjKind → Type 0
IsNoneOf have commit o = In (map place_name (order have commit)) o → ⊥

-- The path is that of an object of the commit's order that the store lacked
pub record IsLackedName (root : Elements) (have : Have) (commit : List ℕ) (u : View)
    (q : Elements) : Type 0 where
  pub digest : List ℕ
  pub kind : ObjKind
  pub digits : is_digest digest ≡ true
  pub at : q ≡ object_path root digest kind
  pub ordered : In (map place_name (order have commit)) (digest, kind)
  pub lacked : store root (shows u) digest kind ≡ None

-- The object is one of the commit's order that the store lacked
pub record IsLacked (root : Elements) (have : Have) (commit : List ℕ) (u : View)
    (o : List ℕ × ObjKind) : Type 0 where
  pub digits : is_digest o.0 ≡ true
  pub ordered : In (map place_name (order have commit)) o
  pub lacked : store root (shows u) o.0 o.1 ≡ None

-- The pull succeeded. The commit is in the store, each object that was there is as before, and so
-- are the paths of objects that aren't the commit's. Nothing is left of the work, and every crash
-- leaves exactly the present content. Each new file with bytes was put at the path of an object of
-- the commit that the store lacked, and exactly these objects were made.
pub record WasPulled (root t : Elements) (have : Have) (commit : List ℕ) (u w : View) : Type 0 where
  pub pulled : HasPulled root have commit w
  pub stood : (d : List ℕ) (kind : ObjKind) → is_digest d ≡ true
      → store root (shows u) d kind ≢ None → store root (shows w) d kind
      ≡ store root (shows u) d kind
  pub others : (d : List ℕ) (kind : ObjKind) → is_digest d ≡ true → IsNoneOf have commit (d, kind)
      → w.names (object_path root d kind) ≡ u.names (object_path root d kind)
  pub gone : (q : Elements) → IsWithin t q → w.names q ≡ absent
  pub settled : IsSettled w
  pub shares : Shares (IsLackedName root have commit u) u w
  pub creates : Creates root (IsLacked root have commit u) u w

-- The pull was refused: nothing is left of the work, and names have the entries that they had,
-- except that directories above the work may have been made
pub record WasRefused (t : Elements) (u w : View) : Type 0 where
  pub gone : (q : Elements) → IsWithin t q → w.names q ≡ absent
  pub names : (q : Elements) → (w.names q ≡ u.names q)
      ⊎ (IsWithin t q ⊎ (IsAbove q t × (w.names q ≡ dir)))

-- The refusal of the commit's first fault
abbrev pub first_refusal : Have → List ℕ → Option Refusal
first_refusal have commit =
    option_map (λ f. refusal_of f.0.digest f.0.kind f.1) (first_fault have commit)

-- The result is exactly this refusal, or none
abbrev pub Refuses : {A : Type 0} → Option Refusal → Result A PullEnd → Type 0
Refuses first (Ok a) = first ≡ None
Refuses first (Err end) = RefusesBy (λ r. first ≡ Some r) end

-- A pull can be done: every crash leaves a store whose objects match their names, the work
-- directory isn't the root, neither a path below it nor an object's path in it has more than 128
-- elements, and the paths above it and above the store's objects are absent or directories
pub record CanPull (root t : Elements) (v : View) : Type 0 where
  pub true_names : LeavesStore root v
  pub low : length t + 3 ≤ MOST_ELEMENTS
  pub clears : CanClear t v
  pub work_open : (q : Elements) → IsAbove q t → (v.names q ≡ absent) ⊎ (v.names q ≡ dir)
  pub store_open : AreOpen root v

-- ---- the contract

-- A pull of the commit from the remote at the URL into the store at `root`, by way of the work
-- directory `t`. If every crash left a store whose objects match their names at the start, a crash
-- at any moment leaves such a store, with each object that was there. If the host and the remotes
-- report their content and `Trusted` holds at the start, then on success the whole commit was
-- pulled, and exactly the first fault in the objects of store and remote together is refused. After
-- a refusal, or a fault of the remote, nothing is left of the pull. A fault of the host or the
-- remotes has a cause, and the remotes stay as they are.
pub record PullsCommit (root t : Elements) (url commit : List ℕ) (Trusted : Type 0)
    (result : Result (Unit {0}) PullEnd) (u w : Outside) : Type 0 where
  pub same : w.holdings ≡ u.holdings
  pub any_moment : Always (PullsSoundly root t) u.told w.told
  pub on_success : (have : Have) → Supplies root (Some url) u.told u.holdings have → Trusted
      → OnOk result (AtEnd (WasPulled root t have commit) u.told w.told)
  pub refuses : (have : Have) → Supplies root (Some url) u.told u.holdings have → Trusted
      → Refuses (first_refusal have commit) result
  pub refused_unchanged : (r : Refusal) → IsErrOf result (ends.Refused r)
      → AtEnd (WasRefused t) u.told w.told
  pub remote_fault_unchanged : IsErrOf result ends.RemoteFault
      → AtEnd (WasRefused t) u.told w.told
  pub fault_has_cause : IsCaused (IsErrOf result ends.HostFault) u.told (CanPull root t)
      u.host_faults w.host_faults
  pub remote_fault_has_cause : IsRemotes (IsErrOf result ends.RemoteFault)
      u.remote_faults w.remote_faults
