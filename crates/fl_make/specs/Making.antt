-- The changes by making a remote, and the remote that is left.
use Rattle.std.specs.Prelude.{Bool, true, ◌≡◌, ◌≢◌, ◌⊎◌, ℕ, List, [], ◌∷◌, Err, codes}
use Rattle.fp_host.specs.Paths.{Elements, Slot, absent, dir, is_link_text, IsAbove}
use Rattle.fp_host.specs.View.{View}
use Rattle.fp_host.specs.Outcome.{shows}
use Rattle.fp_name.specs.Refs.{Ref}
use Rattle.fp_base.specs.declared.object.ObjKind.{ObjKind}
use Rattle.fp_small.specs.Clear.{IsWithin}
use Rattle.fp_small.specs.Files.{KeepsFiles}
use Rattle.fp_small.specs.Places.{repo, tmp}
use Rattle.fp_small.specs.Shares.{Shares}
use Rattle.fp_small.specs.declared.state.State.{State}
use Rattle.ost_model.specs.Contents.{is_permission}
use Rattle.ost_model.specs.declared.object.Object.{Object}
use Rattle.ost_model.specs.declared.object.Object.TheVariants as objects
use Rattle.ost_model.specs.Objects.{object_path}
use Rattle.ost_store.specs.Created.{Creates, NoObject}
use Rattle.ost_refs.specs.Places.{place_path}
use Rattle.ost_refs.specs.declared.place.RefPlace.{RefPlace}
use Rattle.ost_commit.specs.declared.built.Built.{Built}
use Rattle.ost_commit.specs.Objects.{have_of}
use Rattle.ost_description.specs.Descriptions.{described}
use Rattle.ost_description.specs.Commits.{IsDescribed, IsRead}
use Rattle.ost_export.specs.Exports.{ref_path, CanExport, IsSpared, WasExported}
use Rattle.dep_states.specs.Links.{Links}
use Rattle.dep_states.specs.Settled.{Settled}
use Rattle.dep_states.specs.Shown.{Shows}
use Rattle.dep_states.specs.Sound.{IsSound, Opens}
use Rattle.fl_lines.specs.Lines.{made_text}
use Rattle.fl_make.specs.declared.end.MakeEnd.{MakeEnd}
use Rattle.fl_make.specs.declared.end.MakeEnd.TheVariants.{BadRecord, Fault, NoMemory}

-- The directory of the store that is made for a remote
abbrev pub remote_store : List ℕ → Elements
remote_store remote = remote ∷ codes "made" ∷ []

-- ---- at every moment

-- The entries that names may get: any at or below the store's directory, except at the paths of
-- other refs, and any below `repo/tmp`; the store's directory, its ancestors, `repo` and `repo/tmp`
-- may become directories
pub data MayMake (remote : List ℕ) (r : Ref) (q : Elements) (e : Slot) : Type 0 where
  in_store : IsWithin (remote_store remote) q
      → ((place : RefPlace)
      → place_path (remote_store remote) place ≢ ref_path (remote_store remote) r
      → q ≢ place_path (remote_store remote) place) → MayMake remote r q e
  in_work : IsAbove tmp q → MayMake remote r q e
  above_store : IsAbove q (remote_store remote) → e ≡ dir → MayMake remote r q e
  of_work : (q ≡ repo) ⊎ (q ≡ tmp) → e ≡ dir → MayMake remote r q e

-- The making of a remote at each moment. Nothing is printed, each old file keeps its mode and
-- bytes, and names change only as `MayMake` allows. The store's other refs, and its objects that
-- existed, are unchanged. No file gets into a commit's directory of the installation. If the bytes
-- describe no tree, nothing changes. Over a sound installation nothing changed yet, or each crash
-- leaves the state that was shown, and a sound installation.
pub record Makes (remote : List ℕ) (r : Ref) (bytes : List ℕ) (u w : View) : Type 0 where
  pub printed : w.printed ≡ u.printed
  pub files : KeepsFiles u w
  pub names : (q : Elements) → (w.names q ≡ u.names q) ⊎ MayMake remote r q (w.names q)
  pub refs : (place : RefPlace)
      → place_path (remote_store remote) place ≢ ref_path (remote_store remote) r
      → IsSpared (place_path (remote_store remote) place) u w
  pub objects : (d : List ℕ) (kind : ObjKind)
      → u.names (object_path (remote_store remote) d kind) ≢ absent
      → IsSpared (object_path (remote_store remote) d kind) u w
  pub links : Links u w
  pub good : (w ≡ u) ⊎ IsRead (described bytes)
  pub opens : IsSound u → (s : State) → Shows (shows u) s → (w ≡ u) ⊎ Opens s w

-- ---- at the end

-- The remote was made, with this line for its commit. The commit of the tree that the bytes
-- describe was exported into the store. A settled image stays settled. Each new file that isn't
-- empty was put at a path below the store's directory. The installation's own store got no object.
pub record WasMade (remote : List ℕ) (r : Ref) (bytes line : List ℕ) (u w : View) : Type 0 where
  pub built : Built
  pub described_by : IsDescribed bytes r built
  pub line_is : line ≡ made_text built.commit
  pub exported : WasExported (have_of built.objects) (remote_store remote) r built.commit u w
  pub settled : Settled (shows u) → Settled (shows w)
  pub shares : Shares (IsAbove (remote_store remote)) u w
  pub creates : Creates repo NoObject u w

-- The cause of an end: `BadRecord` is returned only with the number of the first bad line
abbrev pub IsMakeFault : List ℕ → MakeEnd → Type 0
IsMakeFault bytes (BadRecord line) = described bytes ≡ Err line
IsMakeFault bytes Fault = Unit {0}
IsMakeFault bytes NoMemory = Unit {0}

-- The remote can be made: the store's `config` and the path of the ref are absent or files, and the
-- ancestors of everything that is written are absent or directories
abbrev pub CanMake : List ℕ → Ref → View → Type 0
CanMake remote r v = CanExport (remote_store remote) r v

-- Tests whether a store may have the object: a file's permission bits and a symlink's text are
-- valid
abbrev pub is_keepable : Object → Bool
is_keepable (objects.Meta bytes) = true
is_keepable (objects.File mode bytes) = is_permission mode
is_keepable (objects.Link text) = is_link_text text
