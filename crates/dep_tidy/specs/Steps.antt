-- The steps of tidying.
use Rattle.std.specs.Prelude.{◌≡◌, ◌≢◌, ◌⊎◌, ◌∷◌, ℕ, List, [], true, Option, Some, None, Contains}
use Rattle.fp_host.specs.Paths.{Elements, Slot, absent, dir, IsAbove}
use Rattle.fp_host.specs.View.{View}
use Rattle.fp_host.specs.Calls.{IsFile, IsNoDir}
use Rattle.fp_host.specs.Outcome.{Spot, gone, folder, Disk, Leaves, Follows, shows}
use Rattle.fp_host.specs.Frame.{Keeps, NoPath}
use Rattle.fp_base.specs.declared.object.ObjKind.{ObjKind}
use Rattle.fp_name.specs.Grammar.{is_remote_name}
use Rattle.fp_name.specs.Hex.{hex, is_digest}
use Rattle.fp_name.specs.Refs.{Ref, is_ref}
use Rattle.fp_small.specs.Places.{repo, tmp, new_name}
use Rattle.fp_small.specs.Clear.{IsWithin, IsEmptied}
use Rattle.fp_small.specs.Files.{KeepsFiles}
use Rattle.fp_small.specs.Move.{IsNew}
use Rattle.fp_small.specs.Replace.{folders_of}
use Rattle.fp_small.specs.declared.state.State.{State}
use Rattle.fp_small.specs.declared.state.RefRow.{RefRow}
use Rattle.ost_model.specs.Objects.{object_path}
use Rattle.ost_refs.specs.Files.{ref_bytes, ref_in}
use Rattle.ost_refs.specs.declared.place.RefFile.TheVariants.{Digest}
use Rattle.ost_refs.specs.declared.place.RefPlace.{RefPlace}
use Rattle.ost_refs.specs.declared.place.RefPlace.TheVariants.{Head, Remote}
use Rattle.dep_states.specs.Names.{config, remotes_conf, pins_file, branch_dir, commit_dir, ref_file}
use Rattle.dep_states.specs.After.{row_at}
use Rattle.dep_states.specs.Frames.{KeptIn}
use Rattle.dep_states.specs.Sound.{Opens, IsOld, OldGone, HasConfig}
use Rattle.dep_tidy.specs.Lasts.{Lasts}
use Rattle.dep_tidy.specs.Tidy.{IsFrom, Tidies}

-- A step at each moment: a crash may newly leave only nodes that `G` allows, and names get only
-- entries that `W` allows. Each file keeps its mode and its bytes, and nothing is printed.
pub record Alters (G : Elements → Spot → Type 0) (W : Elements → Slot → Type 0)
    (u w : View) : Type 0 where
  pub follows : Follows G u w
  pub names : (q : Elements) → (w.names q ≡ u.names q) ⊎ W q (w.names q)
  pub files : KeepsFiles u w
  pub printed : w.printed ≡ u.printed

-- ---- directories of commits

-- The names of the ref and of the commit are valid, and the state doesn't keep this commit of the
-- ref
pub record IsUnkept (s : State) (name : Ref) (commit : List ℕ) : Type 0 where
  pub good : is_ref name ≡ true
  pub digits : is_digest commit ≡ true
  pub unkept : KeptIn s name commit → ⊥

-- The path is the directory of a commit that the state doesn't keep, or below it
pub record InUnkept (s : State) (q : Elements) : Type 0 where
  pub name : Ref
  pub commit : List ℕ
  pub is : IsUnkept s name commit
  pub within : IsWithin (commit_dir name commit) q

-- A crash may leave nothing at and below the directory of a commit that the state doesn't keep
abbrev pub UnkeptGone : State → Elements → Spot → Type 0
UnkeptGone s q spot = InUnkept s q × (spot ≡ gone)

-- The directory of a commit that the state doesn't keep, and each name below it, may become absent
abbrev pub UnkeptAbsent : State → Elements → Slot → Type 0
UnkeptAbsent s q e = InUnkept s q × (e ≡ absent)

-- Each directory of a commit that the state doesn't keep is absent
pub record HasNoUnkept (s : State) (v : View) : Type 0 where
  pub none : (name : Ref) (commit : List ℕ) → IsUnkept s name commit
      → v.names (commit_dir name commit) ≡ absent

-- In these branch directories, each directory of a commit that the state doesn't keep is absent
pub record HasNoneIn (s : State) (paths : List Elements) (v : View) : Type 0 where
  pub none : (name : Ref) (commit : List ℕ) → IsUnkept s name commit
      → Contains paths (branch_dir name) → v.names (commit_dir name commit) ≡ absent

-- Of these names in the ref's branch directory, each is absent that is the directory of a commit
-- that the state doesn't keep
pub record HasNoneOf (s : State) (name : Ref) (names : List (List ℕ)) (v : View) : Type 0 where
  pub none : (commit : List ℕ) → IsUnkept s name commit → Contains names (hex commit)
      → v.names (commit_dir name commit) ≡ absent

-- ---- the files of layout 1

-- A file of layout 1 may become absent
abbrev pub OldAbsent : Elements → Slot → Type 0
OldAbsent q e = IsOld q × (e ≡ absent)

-- The files of layout 1 may be removed; if `config` is absent, nothing changes
pub record TakesOld (u w : View) : Type 0 where
  pub keeps : Keeps OldGone OldAbsent NoPath u w
  pub alone : u.names config ≡ absent → w ≡ u

-- The paths of the files of layout 1 are no directories
pub record CanTakeOld (v : View) : Type 0 where
  pub remotes : IsNoDir (v.names remotes_conf)
  pub pins : IsNoDir (v.names pins_file)

-- If `config` exists, the files of layout 1 are absent
pub record HasNoOld (v : View) : Type 0 where
  pub old : v.names config ≢ absent → (v.names remotes_conf ≡ absent) × (v.names pins_file ≡ absent)

-- ---- ref files

-- The place of a ref file is for a ref that the state has from that remote, or is below
-- `refs/heads`, which tidying leaves alone
abbrev pub IsWanted : State → RefPlace → Type 0
IsWanted s (Head name) = Unit {0}
IsWanted s (Remote origin name) = IsFrom s origin name

-- If the place is of a remote's ref, the names of the remote and of the ref are valid
abbrev pub HasGoodNames : RefPlace → Type 0
HasGoodNames (Head name) = Unit {0}
HasGoodNames (Remote origin name) = (is_remote_name origin ≡ true) × (is_ref name ≡ true)

-- The names of a remote and of a ref are valid, and the state doesn't have the ref from that remote
pub record IsOther (s : State) (origin : List ℕ) (name : Ref) : Type 0 where
  pub remote : is_remote_name origin ≡ true
  pub good : is_ref name ≡ true
  pub other : IsFrom s origin name → ⊥

-- The path is the ref file of a remote's ref that the state doesn't have from that remote
pub record IsOtherFile (s : State) (q : Elements) : Type 0 where
  pub origin : List ℕ
  pub name : Ref
  pub is : IsOther s origin name
  pub at : q ≡ ref_file origin name

-- A crash may leave nothing at the ref file of a ref that the state doesn't have from that remote
abbrev pub OtherGone : State → Elements → Spot → Type 0
OtherGone s q spot = IsOtherFile s q × (spot ≡ gone)

-- The ref file of a ref that the state doesn't have from that remote may become absent
abbrev pub OtherAbsent : State → Elements → Slot → Type 0
OtherAbsent s q e = IsOtherFile s q × (e ≡ absent)

-- There is no ref file of a remote's ref that the state doesn't have from that remote
pub record HasNoOther (s : State) (v : View) : Type 0 where
  pub none : (origin : List ℕ) (name : Ref) → IsOther s origin name
      → IsFile (v.names (ref_file origin name)) → ⊥

-- At these places, each ref file of a ref that the state doesn't have from that remote is absent
pub record HasNoneAt (s : State) (places : List RefPlace) (v : View) : Type 0 where
  pub none : (origin : List ℕ) (name : Ref) → IsOther s origin name
      → Contains places (Remote origin name) → v.names (ref_file origin name) ≡ absent

-- Writing the ref files of rows may leave this node at the path: a ref file with its row's commit,
-- a directory above it, or anything at a staging path
pub data RefAt (rows : List RefRow) (q : Elements) (spot : Spot) : Type 0 where
  file_at : (row : RefRow) → Contains rows row → q ≡ ref_file row.origin row.name
      → IsNew (ref_bytes row.commit) spot → RefAt rows q spot
  folder_at : (row : RefRow) → Contains rows row
      → Contains (folders_of (ref_file row.origin row.name)) q → spot ≡ folder → RefAt rows q spot
  work_at : (k : ℕ) → q ≡ new_name k ∷ tmp → RefAt rows q spot

-- Writing the ref files of rows may give the name `q` this entry: a ref file of a row, a directory
-- above it, or anything at a staging path
pub data RefName (rows : List RefRow) (q : Elements) (e : Slot) : Type 0 where
  file_name : (row : RefRow) → Contains rows row → q ≡ ref_file row.origin row.name → IsFile e
      → RefName rows q e
  folder_name : (row : RefRow) → Contains rows row
      → Contains (folders_of (ref_file row.origin row.name)) q → e ≡ dir → RefName rows q e
  work_name : (k : ℕ) → q ≡ new_name k ∷ tmp → RefName rows q e

-- Each of these rows has its ref file, with its commit
pub record HasRefFiles (rows : List RefRow) (v : View) : Type 0 where
  pub each : (row : RefRow) → Contains rows row
      → ref_in (shows v (ref_file row.origin row.name)) ≡ Digest row.commit

-- The rows are given their ref files; if each has its own already, nothing changes
pub record Writes (rows : List RefRow) (u w : View) : Type 0 where
  pub alters : Alters (RefAt rows) (RefName rows) u w
  pub idle : HasRefFiles rows u → w ≡ u

-- The row's ref file was written, if its commit is a digest. The names below `repo/tmp` keep their
-- entries. Each new file that has bytes lasts, and no object was made.
pub record WroteFile (row : RefRow) (u w : View) : Type 0 where
  pub file : is_digest row.commit ≡ true → HasRefFiles (row ∷ []) w
  pub work : (q : Elements) → IsAbove tmp q → w.names q ≡ u.names q
  pub lasts : Lasts u w

-- The ref files of these rows of the state were written, if every crash left the state `s` before.
-- The names below `repo/tmp` keep their entries. Each new file that has bytes lasts, and no object
-- was made.
pub record WroteSome (s : State) (rows : List RefRow) (u w : View) : Type 0 where
  pub files : Opens s u → HasRefFiles rows w
  pub work : (q : Elements) → IsAbove tmp q → w.names q ≡ u.names q
  pub lasts : Lasts u w

-- The row as a list
abbrev pub rows_by : Option RefRow → List RefRow
rows_by None = []
rows_by (Some row) = row ∷ []

-- The row of this ref in the state, as a list; none if the state doesn't have the ref
abbrev pub rows_named : State → Ref → List RefRow
rows_named s name = rows_by (row_at s name)

-- The ref file of each ref of the state was written, if every crash left the state `s` before
abbrev pub WroteFiles : State → View → View → Type 0
WroteFiles s u w = WroteSome s s.refs u w

-- ---- joined

-- If `config` exists, every crash leaves it, and every crash leaves the present content at the
-- paths of objects
pub record IsSteady (v : View) : Type 0 where
  pub config : v.names config ≢ absent → HasConfig v
  pub objects : (disk : Disk) → Leaves v disk → (d : List ℕ) (kind : ObjKind)
      → disk (object_path repo d kind) ≡ shows v (object_path repo d kind)

-- A step of tidying at each moment, after which the view is steady
pub record Steadily (s : State) (u w : View) : Type 0 where
  pub tidies : Tidies s u w
  pub steady : IsSteady w

-- Nothing is below `repo/tmp`, the directories of commits that the state doesn't keep are absent,
-- and if `config` exists, so are the files of layout 1
pub record IsCleared (s : State) (v : View) : Type 0 where
  pub work : IsEmptied tmp v
  pub dirs : HasNoUnkept s v
  pub old : HasNoOld v

-- `IsCleared` holds, each ref of the state has its ref file with its commit, and no other ref of a
-- remote has one
pub record HasRefs (s : State) (v : View) : Type 0 where
  pub cleared : IsCleared s v
  pub others : HasNoOther s v
  pub files : HasRefFiles s.refs v

-- Every crash leaves the state `s`, and the view is steady
pub record IsReady (s : State) (v : View) : Type 0 where
  pub steady : IsSteady v
  pub opens : Opens s v
