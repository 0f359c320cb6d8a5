-- The state that an image shows, as a relation of images and states. An image is a function from
-- paths, so no function can list its refs. The relation says for each ref, and for each override,
-- what the image has for it.
use Rattle.std.specs.Prelude.{◌≡◌, ℕ, List, [], ◌∷◌, map, leb, length, if◌then◌else◌, true, Option, Some, None, Result, Ok, Err}
use Rattle.std.specs.Str.{bytes_eq}
use Rattle.fp_host.specs.Reads.{is_ascending}
use Rattle.fp_host.specs.Outcome.{Spot, gone, folder, holds, points, Disk}
use Rattle.fp_keyfile.specs.declared.group.Group.{Group}
use Rattle.fp_keyfile.specs.declared.fault.KeyFault.{KeyFault}
use Rattle.fp_keyfile.specs.KeyFile.{file_of}
use Rattle.fp_name.specs.Hex.{hex}
use Rattle.fp_name.specs.Refs.{Ref, is_ref, ref_of, ref_text}
use Rattle.fp_small.specs.Config.{config_of}
use Rattle.fp_small.specs.Old.{remotes_of, pins_of}
use Rattle.fp_small.specs.declared.limits.TheConstants.{MOST_CONFIG_BYTES, MOST_TEXT_BYTES}
use Rattle.fp_small.specs.declared.config.Settings.{Settings}
use Rattle.fp_small.specs.declared.state.State.{State}
use Rattle.fp_small.specs.declared.state.RefRow.{RefRow}
use Rattle.fp_small.specs.declared.state.OverrideRow.{OverrideRow}
use Rattle.fp_small.specs.declared.state.RemoteRow.{RemoteRow}
use Rattle.fp_small.specs.declared.state.Layout.{Layout}
use Rattle.fp_small.specs.declared.state.Layout.TheVariants.{One, Two}
use Rattle.dep_states.specs.declared.deploy.DeployData.{DeployData}
use Rattle.dep_states.specs.declared.setup.Setup.{Setup}
use Rattle.dep_states.specs.Names.{config, remotes_conf, pins_file, override_path, active, text_dir, deploy}
use Rattle.fp_name.specs.Grammar.{is_override}
use Rattle.dep_states.specs.Deploy.{deploy_of}

-- A part of the state in an image: it is absent, it can't be read, or it is this
pub data Seen (A : Type 0) : Type 0 where
  away : Seen A
  bad : Seen A
  there : A → Seen A

-- The part that a file gives: bad, if the file wasn't read as one
abbrev pub read_of : {A : Type 0} → Option A → Seen A
read_of None = bad
read_of (Some a) = there a

-- The part that an image must give for an entry of a list; absent if the list has no entry
abbrev pub seen_of : {A : Type 0} → Option A → Seen A
seen_of None = away
seen_of (Some a) = there a

-- The part that a node gives: that of a file of at most `most` bytes; absent if nothing is there,
-- and bad for any other node
abbrev pub read_file : {A : Type 0} → ℕ → (List ℕ → Option A) → Spot → Seen A
read_file most read gone = away
read_file most read folder = bad
read_file most read (points text) = bad
read_file most read (holds id mode bytes) =
    if leb (length bytes) most then read_of (read bytes) else bad

-- The maximum length of `config` in bytes: 2 MiB
abbrev pub config_most : ℕ
config_most = MOST_CONFIG_BYTES

-- The maximum length of each other small file in bytes: 1 MiB
abbrev pub small_most : ℕ
small_most = MOST_TEXT_BYTES

-- ---- the settings, by the nodes at three paths

-- The setup with this layout, these remotes and these pins
abbrev pub setup : Layout → List RemoteRow → List (List ℕ) → Setup
setup layout remotes pins =
    record { layout = layout; settings = record { remotes = remotes; pins = pins } }

-- The setup without `config`: layout 1 if `remotes.conf` or `pins` exists, else an empty setup of
-- layout 2
abbrev pub layout_one : Seen (List RemoteRow) → Seen (List (List ℕ)) → Seen Setup
layout_one away away = there (setup Two [] [])
layout_one away (there pins) = there (setup One [] pins)
layout_one (there rows) away = there (setup One rows [])
layout_one (there rows) (there pins) = there (setup One rows pins)
layout_one bad pins = bad
layout_one away bad = bad
layout_one (there rows) bad = bad

-- The setup of layout 2, by what `config` gives
abbrev pub layout_two : Seen Settings → Seen Setup
layout_two away = there (setup Two [] [])
layout_two bad = bad
layout_two (there s) = there (record { layout = Two; settings = s })

-- The setup that `config` gives
unfoldable pub config_at : Spot → Seen Setup
config_at spot = layout_two (read_file config_most config_of spot)

-- The remotes that `remotes.conf` gives
unfoldable pub remotes_at : Spot → Seen (List RemoteRow)
remotes_at spot = read_file small_most remotes_of spot

-- The pins that the file `pins` gives
unfoldable pub pins_at : Spot → Seen (List (List ℕ))
pins_at spot = read_file small_most pins_of spot

-- The setup that the three files give. Those of layout 1 are read only if there is no `config`.
abbrev pub settings_at : Spot → Spot → Spot → Seen Setup
settings_at gone at_remotes at_pins = layout_one (remotes_at at_remotes) (pins_at at_pins)
settings_at folder at_remotes at_pins = bad
settings_at (points text) at_remotes at_pins = bad
settings_at (holds id mode bytes) at_remotes at_pins = config_at (holds id mode bytes)

-- The setup that an image gives
abbrev pub settings_seen : Disk → Seen Setup
settings_seen disk = settings_at (disk config) (disk remotes_conf) (disk pins_file)

-- ---- refs

-- The row of a ref with the data of its `deploy`
abbrev pub row_of : Ref → DeployData → RefRow
row_of name d = record {
  name = name;
  origin = d.origin;
  commit = d.commit;
  timestamp = d.timestamp;
  previous = d.previous;
}

-- The row of a ref by its `deploy`, in the directory of this name; bad if it is absent, can't be
-- read or has another commit than its directory's name
abbrev pub row_in : Ref → List ℕ → Seen DeployData → Seen RefRow
row_in name text away = bad
row_in name text bad = bad
row_in name text (there d) = if bytes_eq (hex d.commit) text then there (row_of name d) else bad

-- The row of a ref by the node of its `deploy`
unfoldable pub deploy_at : Ref → List ℕ → Spot → Seen RefRow
deploy_at name text spot = row_in name text (read_file small_most deploy_of spot)

-- The row of a ref by the node of its `active`. Of the image only the `deploy` in the directory
-- that the symlink names is read.
abbrev pub by_active : Disk → Ref → Spot → Seen RefRow
by_active disk name gone = away
by_active disk name folder = bad
by_active disk name (holds id mode bytes) = bad
by_active disk name (points text) = deploy_at name text (disk (deploy (text_dir name text)))

-- The row that an image gives for a ref; absent if the ref's parts aren't in their grammars
abbrev pub ref_seen : Disk → Ref → Seen RefRow
ref_seen disk name = if is_ref name then by_active disk name (disk (active name)) else away

-- The row that an image gives for the ref of a text; absent if the text isn't a ref
abbrev pub row_seen : Disk → Option Ref → Seen RefRow
row_seen disk None = away
row_seen disk (Some name) = ref_seen disk name

-- ---- overrides

-- The groups of a key file, if it was read
abbrev pub if_file : Result (List Group) KeyFault → Option (List Group)
if_file (Ok file) = Some file
if_file (Err fault) = None

-- The row of an override with this name, by its key file
abbrev pub named_override : List ℕ → Seen (List Group) → Seen OverrideRow
named_override name away = away
named_override name bad = bad
named_override name (there file) = there (record { name = name; file = file })

-- The row of an override, by the node at its path
unfoldable pub override_at : List ℕ → Spot → Seen OverrideRow
override_at name spot =
    named_override name (read_file small_most (λ bytes. if_file (file_of bytes)) spot)

-- The row that an image gives for an override; absent if the name isn't an override's
abbrev pub override_seen : Disk → List ℕ → Seen OverrideRow
override_seen disk name =
    if is_override name then override_at name (disk (override_path name)) else away

-- ---- a state

-- The text by which rows of refs ascend
abbrev pub ref_key : RefRow → List ℕ
ref_key row = ref_text row.name

-- The name by which overrides ascend
abbrev pub override_key : OverrideRow → List ℕ
override_key row = row.name

-- The first entry of a list with this name
abbrev pub at_name : {A : Type 0} → (A → List ℕ) → List A → List ℕ → Option A
at_name name [] x = None
at_name name (y ∷ ys) x = if bytes_eq (name y) x then Some y else at_name name ys x

-- The settings of a state
abbrev pub settings_of : State → Settings
settings_of s = record { remotes = s.remotes; pins = s.pins }

-- The setup of a state
abbrev pub setup_of : State → Setup
setup_of s = setup s.layout s.remotes s.pins

-- The image shows this state: each of its parts can be read, the state has each part that the image
-- has, and the image has each part of the state
pub record Shows (disk : Disk) (s : State) : Type 0 where
  pub settings : settings_seen disk ≡ there (setup_of s)
  pub refs : (text : List ℕ) → row_seen disk (ref_of text) ≡ seen_of (at_name ref_key s.refs text)
  pub refs_ascend : is_ascending (map ref_key s.refs) ≡ true
  pub overrides : (name : List ℕ) → override_seen disk name
      ≡ seen_of (at_name override_key s.overrides name)
  pub overrides_ascend : is_ascending (map override_key s.overrides) ≡ true

-- The image shows a state
pub record IsShown (disk : Disk) : Type 0 where
  pub state : State
  pub shows : Shows disk state
