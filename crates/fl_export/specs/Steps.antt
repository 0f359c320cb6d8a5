-- The steps of refreshing `exports`.
use Rattle.std.specs.Prelude.{◌≡◌, ◌⊎◌, ◌≤◌, ◌==◌, ℕ, List, ◌∷◌, length, true, not, Contains}
use Rattle.std.specs.List.{list_all}
use Rattle.fp_host.specs.Paths.{Elements, Slot, absent, dir, IsAbove}
use Rattle.fp_host.specs.View.{View}
use Rattle.fp_host.specs.Calls.{IsLeaf}
use Rattle.fp_host.specs.Outcome.{Spot, gone, folder, Follows, IsSettled, shows}
use Rattle.fp_host.specs.Frame.{NoPath, Only}
use Rattle.fp_host.specs.declared.limits.TheConstants.{MOST_LINK_BYTES}
use Rattle.fp_host.specs.declared.host.Stat.{Stat}
use Rattle.fp_host.specs.declared.host.Stat.TheVariants.{Absent, Dir, File as StatFile, Link}
use Rattle.fp_small.specs.Places.{repo, tmp, new_name}
use Rattle.fp_small.specs.Clear.{IsWithin, CanClear, CanEmpty}
use Rattle.fp_small.specs.Files.{KeepsFiles}
use Rattle.fp_small.specs.Folders.{AreFree, IsFree}
use Rattle.fp_small.specs.Replace.{folders_of}
use Rattle.fp_small.specs.Shares.{Shares}
use Rattle.fp_small.specs.declared.limits.TheConstants.{MOST_ELEMENTS}
use Rattle.fp_small.specs.declared.state.State.{State}
use Rattle.ost_model.specs.Objects.{store}
use Rattle.ost_store.specs.Created.{Creates, NoObject}
use Rattle.dep_states.specs.Links.{Links}
use Rattle.dep_states.specs.Sound.{Opens}
use Rattle.fl_export.specs.declared.rows.ExportRow.{ExportRow}
use Rattle.fl_export.specs.declared.rows.ExportWhat.{ExportWhat}
use Rattle.fl_export.specs.declared.rows.ExportWhat.TheVariants as what
use Rattle.fl_export.specs.Exported.{exported}
use Rattle.fl_export.specs.Texts.{desktop_path, icon_path}
use Rattle.fl_export.specs.Placed.{exports, place_of, IsExported, ExportsAre}

-- A step from `u` to `w`. A crash may newly show only nodes that `G` allows. Each name has its old
-- entry, or one that `W` allows, and `W` allows each entry that was put at a name since. Each file
-- of `u` keeps its mode and bytes, and nothing is printed.
pub record Alters (G : Elements → Spot → Type 0) (W : Elements → Slot → Type 0)
    (u w : View) : Type 0 where
  pub follows : Follows G u w
  pub names : (q : Elements) → (w.names q ≡ u.names q) ⊎ W q (w.names q)
  pub puts : (x : Elements × Slot) → Contains w.stood x → Contains u.stood x ⊎ W x.0 x.1
  pub files : KeepsFiles u w
  pub printed : w.printed ≡ u.printed

-- The nodes that a crash may newly show during a refresh: anything at or below `exports`, but only
-- at paths of at most 128 elements unless it is nothing; the directories `repo` and `repo/tmp`; and
-- anything at the staging paths `repo/tmp/newN`
pub data Exports (q : Elements) (spot : Spot) : Type 0 where
  in_exports : IsWithin exports q → (spot ≡ gone) ⊎ (length q ≤ MOST_ELEMENTS) → Exports q spot
  in_store : (q ≡ repo) ⊎ (q ≡ tmp) → spot ≡ folder → Exports q spot
  in_work : (k : ℕ) → q ≡ new_name k ∷ tmp → Exports q spot

-- The entries that names may get during a refresh: any at or below `exports`, and any below
-- `repo/tmp`; `repo` and `repo/tmp` may become directories
pub data MayRefresh (q : Elements) (e : Slot) : Type 0 where
  some_export : IsWithin exports q → MayRefresh q e
  some_work : IsAbove tmp q → MayRefresh q e
  store_folder : q ≡ repo → e ≡ dir → MayRefresh q e
  work_folder : q ≡ tmp → e ≡ dir → MayRefresh q e

-- ---- stale paths

-- The path is in the region, but not in `places`
pub record IsStale (region : Elements → Type 0) (places : List Elements) (q : Elements) : Type 0
  where
    pub within : region q
    pub unwanted : Contains places q → ⊥

-- A crash may leave nothing at a stale path
abbrev pub StaleGone : (Elements → Type 0) → List Elements → Elements → Spot → Type 0
StaleGone region places q spot = IsStale region places q × (spot ≡ gone)

-- A stale name may become absent
abbrev pub StaleAbsent : (Elements → Type 0) → List Elements → Elements → Slot → Type 0
StaleAbsent region places q e = IsStale region places q × (e ≡ absent)

-- No path of the region is a file or symlink, except those in `places`
pub record HasNoStaleIn (region : Elements → Type 0) (places : List Elements) (v : View) : Type 0
  where
    pub none : (q : Elements) → region q → (Contains places q → ⊥) → IsLeaf (v.names q) → ⊥

-- A sweep of the region: stale names may become absent, and nothing else changes. If there is no
-- stale file or symlink, nothing changes. Each new file is empty.
pub record Sweeps (region : Elements → Type 0) (places : List Elements) (u w : View) : Type 0 where
  pub alters : Alters (StaleGone region places) (StaleAbsent region places) u w
  pub idle : HasNoStaleIn region places u → w ≡ u
  pub empty : Shares NoPath u w

-- A sweep of this one path, provided that it is a file or symlink
pub record SweepsAt (path : Elements) (places : List Elements) (u w : View) : Type 0 where
  pub sweeps : IsLeaf (u.names path) → Sweeps (Only path) places u w

-- No path at or below `exports` is a file or symlink, except those in `places`
abbrev pub HasNoStale : List Elements → View → Type 0
HasNoStale places v = HasNoStaleIn (IsWithin exports) places v

-- A sweep of `exports` and everything below it
abbrev pub Cleans : List Elements → View → View → Type 0
Cleans places u w = Sweeps (IsWithin exports) places u w

-- ---- putting of one export

-- The nodes that a crash may newly show while an export is put at a place: the export itself;
-- nothing at or below the place; directories at the ancestors, `repo` and `repo/tmp`; and anything
-- at the staging paths
pub data PutAt (place : Elements) (what : ExportWhat) (q : Elements) (spot : Spot) : Type 0 where
  it_at : q ≡ place → IsExported what spot → PutAt place what q spot
  gone_at : IsWithin place q → spot ≡ gone → PutAt place what q spot
  folder_at : Contains (folders_of place) q → spot ≡ folder → PutAt place what q spot
  work_at : (k : ℕ) → q ≡ new_name k ∷ tmp → PutAt place what q spot

-- The entries that names may get while an export is put at a place: any at the place; absent at or
-- below it; directories at the ancestors, `repo` and `repo/tmp`; and any at the staging paths
pub data PutName (place q : Elements) (e : Slot) : Type 0 where
  it_name : q ≡ place → PutName place q e
  gone_name : IsWithin place q → e ≡ absent → PutName place q e
  folder_name : Contains (folders_of place) q → e ≡ dir → PutName place q e
  work_name : (k : ℕ) → q ≡ new_name k ∷ tmp → PutName place q e

-- A step that puts the export at the place
abbrev pub PutsAt : Elements → ExportWhat → View → View → Type 0
PutsAt place what u w = Alters (PutAt place what) (PutName place) u w

-- The export is at the place. The names below `repo/tmp` are unchanged if the place is at or below
-- `exports`. Each new file that isn't empty was put at the place.
pub record WasPut (place : Elements) (what : ExportWhat) (u w : View) : Type 0 where
  pub there : IsExported what (shows w place)
  pub work : IsWithin exports place → (q : Elements) → IsAbove tmp q → w.names q ≡ u.names q
  pub shares : Shares (Only place) u w

-- The text of an exported symlink is valid, provided that it is UTF-8; a file needs nothing
abbrev pub HasLinkText : ExportWhat → Type 0
HasLinkText (what.Text bytes) = Unit {0}
HasLinkText (what.Link text) =
    (1 ≤ length text) × (length text ≤ MOST_LINK_BYTES) × (list_all (λ b. not (b == 0)) text ≡ true)

-- The export can be put at the place: the place can be cleared and is at or below `exports`, each
-- of its ancestors, `repo` and `repo/tmp` is absent or a directory, and the text of a symlink is
-- valid
pub record CanPut (place : Elements) (what : ExportWhat) (v : View) : Type 0 where
  pub clear : CanClear place v
  pub folders : AreFree (folders_of place) v
  pub within : IsWithin exports place
  pub text : HasLinkText what

-- A file can be put over an entry with this status: it is absent or a file
abbrev pub MayStay : Stat → Type 0
MayStay Absent = Unit {0}
MayStay (StatFile id mode size) = Unit {0}
MayStay Dir = ⊥
MayStay Link = ⊥

-- ---- putting of rows

-- A crash may newly show this node while one of these rows is put at its path
pub record PutAmong (rows : List ExportRow) (q : Elements) (spot : Spot) : Type 0 where
  pub row : ExportRow
  pub among : Contains rows row
  pub is : PutAt (place_of row) row.what q spot

-- A name may get this entry while one of these rows is put at its path
pub record NameAmong (rows : List ExportRow) (q : Elements) (e : Slot) : Type 0 where
  pub row : ExportRow
  pub among : Contains rows row
  pub is : PutName (place_of row) q e

-- Each of these rows is at its path below `exports`
pub record HasRows (rows : List ExportRow) (v : View) : Type 0 where
  pub each : (row : ExportRow) → Contains rows row → IsExported row.what (shows v (place_of row))

-- A step that puts the rows at their paths. If all of them are there already, nothing changes.
pub record PutsRows (rows : List ExportRow) (u w : View) : Type 0 where
  pub alters : Alters (PutAmong rows) (NameAmong rows) u w
  pub idle : HasRows rows u → w ≡ u

-- The path is that of one of these rows below `exports`
abbrev pub IsPlaceIn : List ExportRow → Elements → Type 0
IsPlaceIn rows q = (row : ExportRow) × Contains rows row × (q ≡ place_of row)

-- Each of the rows is at its path. The names below `repo/tmp` are unchanged. Each new file that
-- isn't empty was put at the path of one of the rows.
pub record WereThere (rows : List ExportRow) (u w : View) : Type 0 where
  pub there : HasRows rows w
  pub work : (q : Elements) → IsAbove tmp q → w.names q ≡ u.names q
  pub shares : Shares (IsPlaceIn rows) u w

-- The rows were put at their paths
abbrev pub WerePut : List ExportRow → View → View → Type 0
WerePut rows u w = WereThere rows u w

-- The path is that of an exported desktop file or icon
abbrev pub HasForm : Elements → Type 0
HasForm path = ((file : List ℕ) × (path ≡ desktop_path file))
    ⊎ ((size : List ℕ) × (file : List ℕ) × (path ≡ icon_path size file))

-- Well-formed rows: each path is that of a desktop file or an icon, and distinct rows have distinct
-- paths
pub record AreRows (rows : List ExportRow) : Type 0 where
  pub forms : (row : ExportRow) → Contains rows row → HasForm row.path
  pub one : (row other : ExportRow) → Contains rows row → Contains rows other
      → row.path ≡ other.path → row ≡ other

-- The rows were put at their paths, provided that they are well-formed
pub record WereAllPut (rows : List ExportRow) (u w : View) : Type 0 where
  pub all : AreRows rows → WereThere rows u w

-- The rows can be put at their paths: they are well-formed, the texts of symlinks are valid, no
-- path below `exports` has more than 128 elements, and each ancestor of a row's path, `repo` and
-- `repo/tmp` is absent or a directory
pub record CanPutRows (rows : List ExportRow) (v : View) : Type 0 where
  pub are : AreRows rows
  pub texts : (row : ExportRow) → Contains rows row → HasLinkText row.what
  pub deep : CanEmpty exports v
  pub folders : (row : ExportRow) → Contains rows row → (q : Elements)
      → IsAbove q (place_of row) → IsFree v q
  pub work : IsFree v repo × IsFree v tmp

-- ---- the whole refresh

-- The exports of the state, by the objects in the view's store
abbrev pub exported_in : State → View → List ExportRow
exported_in s v = exported (store repo (shows v)) s

-- A refresh at any moment. If every crash left the state and a sound installation before, it still
-- does. Only names at or below `exports` and below `repo/tmp` change, and `repo` and `repo/tmp` may
-- become directories. If the exports were in place already, no name changes and each new file is
-- empty. Each file that was there keeps its mode and bytes, nothing is printed, and no file was put
-- into a commit's directory.
pub record Refreshes (s : State) (u w : View) : Type 0 where
  pub opens : Opens s u → Opens s w
  pub names : (q : Elements) → (w.names q ≡ u.names q) ⊎ MayRefresh q (w.names q)
  pub idle : Opens s u → ExportsAre (exported_in s u) (shows u) → (q : Elements)
      → w.names q ≡ u.names q
  pub unwritten : Opens s u → ExportsAre (exported_in s u) (shows u) → Shares NoPath u w
  pub files : KeepsFiles u w
  pub links : Links u w
  pub printed : w.printed ≡ u.printed

-- A refresh succeeded: the files and symlinks at or below `exports` are exactly the exports of the
-- state, and every crash leaves the present content. The names below `repo/tmp` are unchanged. Each
-- new file that isn't empty was put at a name below `exports`, and no object was made.
pub record WasRefreshed (s : State) (u w : View) : Type 0 where
  pub exports_are : ExportsAre (exported_in s w) (shows w)
  pub lasts : IsSettled w
  pub work : (q : Elements) → IsAbove tmp q → w.names q ≡ u.names q
  pub shares : Shares (IsAbove exports) u w
  pub creates : Creates repo NoObject u w
