-- Setting up the store of an installation for its first commit.
use Rattle.std.specs.Prelude.{◌≡◌, ◌≢◌, ◌⊎◌, List, ◌∷◌, ℕ, codes}
use Rattle.fp_host.specs.Paths.{Elements, Slot, absent}
use Rattle.fp_host.specs.View.{View}
use Rattle.fp_host.specs.Calls.{IsFile}
use Rattle.fp_host.specs.Outcome.{Spot}
use Rattle.fp_host.specs.Frame.{Keeps}
use Rattle.fp_small.specs.Places.{repo}
use Rattle.fp_small.specs.Files.{KeepsFiles}
use Rattle.fp_small.specs.Folders.{ancestors, FoldersAt, DirsAt, AreFree, AreDirs}
use Rattle.fp_small.specs.Replace.{IsStaging, ReplacesAt, ReplacesName, Replaces, CanReplace, IsFreeFile}
use Rattle.ost_model.specs.declared.limits.TheConstants.{STORE_CONFIG}
use Rattle.dep_states.specs.Lasting.{IsLasting, SharesAs}

-- The path of the store's `config`
abbrev pub store_config : Elements
store_config = codes "config" ∷ repo

-- The text of the store's `config`
abbrev pub store_text : List ℕ
store_text = STORE_CONFIG.now

-- The directory `repo/refs`
abbrev pub refs_folder : Elements
refs_folder = codes "refs" ∷ repo

-- The directory `repo/refs/heads`
abbrev pub heads_folder : Elements
heads_folder = codes "heads" ∷ refs_folder

-- A path directly in `repo/refs/heads`
abbrev pub a_head : Elements
a_head = codes "x" ∷ heads_folder

-- The directories `repo`, `repo/refs` and `repo/refs/heads`
abbrev pub heads_folders : List Elements
heads_folders = ancestors a_head

-- ---- what may be at which path

-- Setting up the store may leave this node at the path `q`, compared to the view `u` before it: of
-- a replacement of `config`, or a directory for the refs
abbrev pub ReadiesAt : View → Elements → Spot → Type 0
ReadiesAt u q spot = ReplacesAt store_config store_text u q spot ⊎ FoldersAt heads_folders q spot

-- Setting up the store may give the name `q` this entry, compared to the view `u` before it: of a
-- replacement of `config`, or a directory for the refs
abbrev pub ReadiesName : View → Elements → Slot → Type 0
ReadiesName u q e = ReplacesName store_config u q e ⊎ DirsAt heads_folders q e

-- The store's `config` is written if it is absent; else its entry stays
pub record Configures (u w : View) : Type 0 where
  pub writes : Replaces store_config store_text u w
  pub stays : u.names store_config ≢ absent → w.names store_config ≡ u.names store_config

-- Setting up the store at each moment: no names change but those of `ReadiesName`, a `config` that
-- is there keeps its entry, and each file keeps its mode and its bytes
pub record ReadiesStore (u w : View) : Type 0 where
  pub keeps : Keeps (ReadiesAt u) (ReadiesName u) (IsStaging u) u w
  pub files : KeepsFiles u w
  pub stays : u.names store_config ≢ absent → w.names store_config ≡ u.names store_config

-- The store's `config` is a file, if it was a file or absent before. Each new file that has bytes
-- was put at a path where it lasts.
pub record HasConfigured (u w : View) : Type 0 where
  pub there : IsFreeFile store_config u → IsFile (w.names store_config)
  pub shares : SharesAs IsLasting u w

-- The store can be set up: its `config` can be replaced, and each directory for the refs is absent
-- or a directory
pub record CanReady (v : View) : Type 0 where
  pub config : CanReplace store_config v
  pub folders : AreFree heads_folders v

-- The store has a file `config` and the directory of its refs
pub record HasStore (w : View) : Type 0 where
  pub config : IsFile (w.names store_config)
  pub heads : AreDirs heads_folders w

-- The store was set up, if it could be, and each new file that has bytes was put at a path where it
-- lasts
pub record WasReadied (u w : View) : Type 0 where
  pub store : CanReady u → HasStore w
  pub shares : SharesAs IsLasting u w
