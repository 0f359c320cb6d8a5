-- The ten calls that change a view: their conditions, and the views after them.
use Rattle.std.specs.Prelude.{◌≡◌, ◌≢◌, ◌⊎◌, ◌≤◌, ◌==◌, ℕ, List, [], ◌∷◌, ◌++◌, true, false, Option, Some, None, Result, Ok, Err, if◌then◌else◌}
use Rattle.fp_host.specs.Paths.{Elements, Slot, absent, dir, file, link, is_link_text, set_at, IsAbove}
use Rattle.fp_host.specs.View.{View, Inode}
use Rattle.fp_host.specs.declared.limits.TheConstants.{PERMISSION_BITS}
use Rattle.fp_host.specs.declared.host.HostError.{HostError}
use Rattle.fp_host.specs.declared.host.HostError.TheVariants.{Failed, Clash, NoMemory}

-- A call that changes a view, with its arguments; `creates` has the path, the mode and the new
-- file's id
pub data Change : Type 0 where
  makes_dir : Elements → Change
  creates : Elements → ℕ → ℕ → Change
  appends : Elements → List ℕ → Change
  links : Elements → Elements → Change
  makes_link : List ℕ → Elements → Change
  renames : Elements → Elements → Change
  unlinks : Elements → Change
  removes_dir : Elements → Change
  syncs : Change
  says : List ℕ → Change

-- The path's parent is a directory; the root has no parent
abbrev pub HasFolder : View → Elements → Type 0
HasFolder v [] = ⊥
HasFolder v (x ∷ up) = v.names up ≡ dir

-- The entry is a file
abbrev pub IsFile : Slot → Type 0
IsFile e = (id : ℕ) × (e ≡ file id)

-- The entry is a file or a symlink
abbrev pub IsLeaf : Slot → Type 0
IsLeaf (file id) = Unit {0}
IsLeaf (link text) = Unit {0}
IsLeaf absent = ⊥
IsLeaf dir = ⊥

-- The entry is a file, a symlink or absent
abbrev pub IsNoDir : Slot → Type 0
IsNoDir (file id) = Unit {0}
IsNoDir (link text) = Unit {0}
IsNoDir absent = Unit {0}
IsNoDir dir = ⊥

-- The entry is a file created since the last sync
abbrev pub IsDirty : View → Slot → Type 0
IsDirty v (file id) = v.dirty id ≡ true
IsDirty v absent = ⊥
IsDirty v dir = ⊥
IsDirty v (link text) = ⊥

-- A function over file ids with one value changed
abbrev pub set_file : {A : Type 0} → (ℕ → A) → ℕ → A → ℕ → A
set_file f id a i = if i == id then a else f i

-- A file can be created at the path: the path's parent is a directory, the path is absent, and the
-- mode has permission bits only
abbrev pub CanCreate : Elements → ℕ → View → Type 0
CanCreate p mode v = HasFolder v p × (v.names p ≡ absent) × (mode ≤ PERMISSION_BITS)

-- The condition of a call
abbrev pub Can : Change → View → Type 0
Can (makes_dir p) v = HasFolder v p × (v.names p ≡ absent)
Can (creates p mode id) v = CanCreate p mode v × (v.files id ≡ None)
Can (appends p bytes) v = IsDirty v (v.names p)
Can (links from to) v = IsFile (v.names from) × HasFolder v to × (v.names to ≡ absent)
Can (makes_link text p) v = (is_link_text text ≡ true) × HasFolder v p × (v.names p ≡ absent)
Can (renames from to) v = IsLeaf (v.names from) × HasFolder v to × IsNoDir (v.names to)
    × (from ≢ to) × (IsFile (v.names from) → v.names from ≢ v.names to)
Can (unlinks p) v = IsLeaf (v.names p)
Can (removes_dir p) v =
    (v.names p ≡ dir) × (p ≢ []) × ((q : Elements) → IsAbove p q → v.names q ≡ absent)
Can syncs v = Unit {0}
Can (says piece) v = Unit {0}

-- The view after a name was given an entry: the entry is remembered, and a crash may bring back the
-- previous one
abbrev pub put : Elements → Slot → View → View
put p e v = record v {
  names = set_at v.names p e;
  earlier = set_at v.earlier p (v.earlier p ++ v.names p ∷ []);
  stood = v.stood ++ (p, e) ∷ [];
}

-- The view in which a name keeps its entry, but a crash may leave it with the entry `e`
abbrev pub may_put : Elements → Slot → View → View
may_put p e v = record v { earlier = set_at v.earlier p (v.earlier p ++ e ∷ []) }

-- The view with one more file, which is empty and created since the last sync
abbrev pub with_file : ℕ → ℕ → View → View
with_file id mode v = record v {
  files = set_file v.files id (Some (record { mode = mode; bytes = [] }));
  dirty = set_file v.dirty id true;
}

-- A file with bytes appended
abbrev pub grown : Option Inode → List ℕ → Option Inode
grown None bytes = None
grown (Some f) bytes = Some (record f { bytes = f.bytes ++ bytes })

-- The view with bytes appended to the file that the entry refers to; unchanged if it is no file
abbrev pub grow : Slot → List ℕ → View → View
grow (file id) bytes v = record v { files = set_file v.files id (grown (v.files id) bytes) }
grow absent bytes v = v
grow dir bytes v = v
grow (link text) bytes v = v

-- The view after a call that succeeded
abbrev pub done : Change → View → View
done (makes_dir p) v = put p dir v
done (creates p mode id) v = put p (file id) (with_file id mode v)
done (appends p bytes) v = grow (v.names p) bytes v
done (links from to) v = put to (v.names from) v
done (makes_link text p) v = put p (link text) v
done (renames from to) v = put from absent (put to (v.names from) v)
done (unlinks p) v = put p absent v
done (removes_dir p) v = put p absent v
done syncs v = record v { earlier = λ q. []; dirty = λ id. false }
done (says piece) v = record v { printed = v.printed ++ piece }

-- The view after a failed call that wasn't done, though a crash may leave it done
abbrev pub half : Change → View → View
half (makes_dir p) v = may_put p dir v
half (creates p mode id) v = may_put p (file id) (with_file id mode v)
half (appends p bytes) v = v
half (links from to) v = may_put to (v.names from) v
half (makes_link text p) v = may_put p (link text) v
half (renames from to) v = may_put from absent (may_put to (v.names from) v)
half (unlinks p) v = may_put p absent v
half (removes_dir p) v = may_put p absent v
half syncs v = v
half (says piece) v = v

-- The view after a failed call that had an effect: it was done, or a crash may leave it done. A
-- failed sync has no effect.
abbrev pub HalfDone : Change → View → View → Type 0
HalfDone syncs v w = w ≡ v
HalfDone change v w = Can change v × ((w ≡ half change v) ⊎ (w ≡ done change v))

-- The views before and after a call, by its result: done; or failed with any effect, or with none;
-- or `Clash`, with the condition false and the view unchanged. `NoMemory` is never the result.
abbrev pub StepOf : Change → Result (Unit {0}) HostError → View → View → Type 0
StepOf change (Ok u) v w = Can change v × (w ≡ done change v)
StepOf change (Err Failed) v w = (w ≡ v) ⊎ HalfDone change v w
StepOf change (Err Clash) v w = (Can change v → ⊥) × (w ≡ v)
StepOf change (Err NoMemory) v w = ⊥

-- One call with its result, from the view `v` to the view `w`
pub record Step (change : Change) (result : Result (Unit {0}) HostError) (v w : View) : Type 0 where
  pub how : StepOf change result v w

-- `StepOf` for a `create`, whose new file may have any id that is free
abbrev pub CreatesOf : Elements → ℕ → Result (Unit {0}) HostError → View → View → Type 0
CreatesOf p mode (Ok u) v w = (id : ℕ) × StepOf (creates p mode id) (Ok u) v w
CreatesOf p mode (Err Failed) v w = (id : ℕ) × StepOf (creates p mode id) (Err Failed) v w
CreatesOf p mode (Err Clash) v w = (CanCreate p mode v → ⊥) × (w ≡ v)
CreatesOf p mode (Err NoMemory) v w = ⊥

-- One `create` with its result, from the view `v` to the view `w`; the new file has an id that no
-- file had
pub record Creates (p : Elements) (mode : ℕ) (result : Result (Unit {0}) HostError)
    (v w : View) : Type 0 where
  pub how : CreatesOf p mode result v w

-- A call changed nothing, or its condition held and it was done or half done
abbrev pub Went : Change → View → View → Type 0
Went change v w = (w ≡ v) ⊎ (Can change v × ((w ≡ half change v) ⊎ (w ≡ done change v)))

-- One call with any result, from the view `v` to the view `w`: nothing changed, or it was done or
-- half done
pub record Called (change : Change) (v w : View) : Type 0 where
  pub went : Went change v w

-- Holds if the call may change the entry of the name `q`
abbrev pub Touches : Change → Elements → Type 0
Touches (makes_dir p) q = q ≡ p
Touches (creates p mode id) q = q ≡ p
Touches (appends p bytes) q = ⊥
Touches (links from to) q = q ≡ to
Touches (makes_link text p) q = q ≡ p
Touches (renames from to) q = (q ≡ from) ⊎ (q ≡ to)
Touches (unlinks p) q = q ≡ p
Touches (removes_dir p) q = q ≡ p
Touches syncs q = ⊥
Touches (says piece) q = ⊥

-- The call prints nothing
abbrev pub IsSilent : Change → Type 0
IsSilent (says piece) = ⊥
IsSilent change = Unit {0}
