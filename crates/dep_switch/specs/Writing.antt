-- The files made before a switch: the file `deploy`, which is written anew, and a symlink.
use Rattle.std.specs.Prelude.{◌≡◌, ◌≢◌, ◌⊎◌, ◌∷◌, ℕ, List, Some, Contains, codes}
use Rattle.fp_host.specs.Paths.{Elements, Slot, absent, dir, file, link}
use Rattle.fp_host.specs.View.{View}
use Rattle.fp_host.specs.Calls.{HasFolder, IsFile}
use Rattle.fp_host.specs.Outcome.{Spot, folder, points, Follows, IsSettled}
use Rattle.fp_small.specs.Files.{KeepsFiles}
use Rattle.fp_small.specs.Folders.{ancestors, AreFree}
use Rattle.fp_small.specs.Places.{tmp}
use Rattle.fp_small.specs.Replace.{IsFreeFile}
use Rattle.fp_small.specs.declared.limits.TheConstants.{FILE_MODE}
use Rattle.fp_small.specs.declared.state.RefRow.{RefRow}
use Rattle.dep_states.specs.Lasting.{SharesAs, SmallAt}
use Rattle.dep_states.specs.Zones.{IsFileOrGone}
use Rattle.dep_states.specs.declared.deploy.DeployData.{DeployData}

-- The data of a row's `deploy`
abbrev pub data_of : RefRow → DeployData
data_of row = record {
  origin = row.origin;
  commit = row.commit;
  timestamp = row.timestamp;
  previous = row.previous;
}

-- The staging path of the symlink to a new commit: `repo/tmp/active`
abbrev pub new_link : Elements
new_link = codes "active" ∷ tmp

-- ---- the file

-- A crash may newly show a file or nothing at the path
abbrev pub FileAt : Elements → Elements → Spot → Type 0
FileAt p q spot = (q ≡ p) × IsFileOrGone spot

-- The path's name may get a file, or become absent
abbrev pub FileName : Elements → Elements → Slot → Type 0
FileName p q e = (q ≡ p) × ((e ≡ absent) ⊎ IsFile e)

-- The writing of a file at each moment. Each old file keeps its mode and bytes, also one that was
-- at the path. A new file that isn't empty was put at the path, with the permission bits 0644.
pub record WritesFile (p : Elements) (u w : View) : Type 0 where
  pub follows : Follows (FileAt p) u w
  pub names : (q : Elements) → (w.names q ≡ u.names q) ⊎ FileName p q (w.names q)
  pub puts : (x : Elements × Slot) → Contains w.stood x → Contains u.stood x ⊎ FileName p x.0 x.1
  pub files : KeepsFiles u w
  pub shares : SharesAs (SmallAt p) u w
  pub printed : w.printed ≡ u.printed

-- The path is a file with these bytes and the permission bits 0644
pub record HasFile (p : Elements) (bytes : List ℕ) (v : View) : Type 0 where
  pub id : ℕ
  pub name : v.names p ≡ file id
  pub row : v.files id ≡ Some (record { mode = FILE_MODE; bytes = bytes })

-- The file can be written: its parent is a directory, and the path is absent or a file
pub record CanWrite (p : Elements) (v : View) : Type 0 where
  pub above : HasFolder v p
  pub free : IsFreeFile p v

-- ---- the file and the symlink

-- The nodes that a crash may newly show: a file or nothing at the `deploy`, directories at the
-- ancestors of the new symlink, and the symlink
pub data PreparesAt (deploy : Elements) (text : List ℕ) (q : Elements) (spot : Spot) : Type 0 where
  a_deploy : q ≡ deploy → IsFileOrGone spot → PreparesAt deploy text q spot
  a_folder : Contains (ancestors new_link) q → spot ≡ folder → PreparesAt deploy text q spot
  a_link : q ≡ new_link → spot ≡ points text → PreparesAt deploy text q spot

-- The entries that names may get: a file at the `deploy`, which may also become absent, directories
-- at the ancestors of the new symlink, and the symlink
pub data PreparesName (deploy : Elements) (text : List ℕ) (q : Elements) (e : Slot) : Type 0 where
  new_deploy : q ≡ deploy → (e ≡ absent) ⊎ IsFile e → PreparesName deploy text q e
  new_folder : Contains (ancestors new_link) q → e ≡ dir → PreparesName deploy text q e
  the_link : q ≡ new_link → e ≡ link text → PreparesName deploy text q e

-- The preparation at each moment. Each old file keeps its mode and bytes, a new file that isn't
-- empty was put as the `deploy`, with the permission bits 0644, and nothing is printed.
pub record Prepares (deploy : Elements) (text : List ℕ) (u w : View) : Type 0 where
  pub follows : Follows (PreparesAt deploy text) u w
  pub names : (q : Elements) → (w.names q ≡ u.names q) ⊎ PreparesName deploy text q (w.names q)
  pub puts : (x : Elements × Slot) → Contains w.stood x
      → Contains u.stood x ⊎ PreparesName deploy text x.0 x.1
  pub files : KeepsFiles u w
  pub shares : SharesAs (SmallAt deploy) u w
  pub printed : w.printed ≡ u.printed

-- The preparation succeeded: the file and the symlink exist, and nothing waits for a sync
pub record WasPrepared (deploy : Elements) (text bytes : List ℕ) (w : View) : Type 0 where
  pub written : HasFile deploy bytes w
  pub linked : w.names new_link ≡ link text
  pub settled : IsSettled w

-- The file and the symlink can be made: the `deploy` can be written, and the ancestors of the new
-- symlink are absent or directories; the symlink is absent, and the `deploy` is none of these paths
pub record CanPrepare (deploy : Elements) (v : View) : Type 0 where
  pub write : CanWrite deploy v
  pub folders : AreFree (ancestors new_link) v
  pub link_free : v.names new_link ≡ absent
  pub apart : Contains (ancestors new_link) deploy → ⊥
  pub other : deploy ≢ new_link
