-- Sample images, and the states that they show.
use Rattle.std.specs.Prelude.{ℕ, List, [], ◌∷◌, ◌++◌, Some, None, codes, replicate, if◌then◌else◌}
use Rattle.fp_host.specs.Paths.{Elements, path_eq}
use Rattle.fp_host.specs.Outcome.{Spot, gone, folder, holds, points, Disk}
use Rattle.fp_name.specs.declared.kind.RefKind.TheVariants.{App, Runtime}
use Rattle.fp_name.specs.Refs.{Ref}
use Rattle.fp_small.specs.declared.config.Settings.{Settings}
use Rattle.fp_small.specs.declared.state.State.{State}
use Rattle.fp_small.specs.declared.state.RefRow.{RefRow}
use Rattle.fp_small.specs.declared.state.RemoteRow.{RemoteRow}
use Rattle.fp_small.specs.declared.state.OverrideRow.{OverrideRow}
use Rattle.fp_small.specs.declared.state.Layout.TheVariants.{Two}
use Rattle.dep_states.specs.Names.{config, active, text_dir, deploy, override_path}

-- ---- empty images

-- The image without any node, not even the root
abbrev pub no_disk : Disk
no_disk p = gone

-- The image with the root alone
abbrev pub empty_disk : Disk
empty_disk [] = folder
empty_disk (x ∷ up) = gone

-- The empty state of layout 2
abbrev pub empty_state : State
empty_state = record { layout = Two; refs = []; remotes = []; pins = []; overrides = [] }

-- ---- images by their rows

-- The image with these rows: the node of each path; nothing at any other path
abbrev pub rows_at : List (Elements × Spot) → Disk
rows_at [] p = gone
rows_at (row ∷ rows) p = if path_eq p row.0 then row.1 else rows_at rows p

-- ---- the root and a `config` with these bytes and the permission bits 0644

-- The rows of an image with just a `config` of these bytes and the permission bits 0644
abbrev pub config_rows : List ℕ → List (Elements × Spot)
config_rows bytes = ([], folder) ∷ (config, holds 0 420 bytes) ∷ []

-- The image with just a `config` of these bytes
abbrev pub config_disk : List ℕ → Disk
config_disk bytes = rows_at (config_rows bytes)

-- The state with these settings and nothing else
abbrev pub settings_state : Settings → State
settings_state s =
    record { layout = Two; refs = []; remotes = s.remotes; pins = s.pins; overrides = [] }

-- ---- two refs, one of which was updated, an override, and a `config`

-- The ref of the application
abbrev pub app : Ref
app = record { kind = App; id = codes "org.x.App"; arch = codes "x86_64"; branch = codes "stable" }

-- The ref of the runtime
abbrev pub platform : Ref
platform =
    record {
      kind = Runtime;
      id = codes "org.x.Platform";
      arch = codes "x86_64";
      branch = codes "1";
    }

-- The application's previous commit
abbrev pub one : List ℕ
one = replicate 32 17

-- The application's commit
abbrev pub two : List ℕ
two = replicate 32 43

-- The runtime's commit
abbrev pub three : List ℕ
three = replicate 32 195

-- The digits of the commit `one`
abbrev pub one_text : List ℕ
one_text = codes "1111111111111111111111111111111111111111111111111111111111111111"

-- The digits of the commit `two`
abbrev pub two_text : List ℕ
two_text = codes "2b2b2b2b2b2b2b2b2b2b2b2b2b2b2b2b2b2b2b2b2b2b2b2b2b2b2b2b2b2b2b2b"

-- The digits of the commit `three`
abbrev pub three_text : List ℕ
three_text = codes "c3c3c3c3c3c3c3c3c3c3c3c3c3c3c3c3c3c3c3c3c3c3c3c3c3c3c3c3c3c3c3c3"

-- The application's `deploy`: at the commit `two` of time 1000, previously at the commit `one` of
-- time 500
abbrev pub app_bytes : List ℕ
app_bytes =
    codes "hub" ++ (0 ∷ (two_text ++ (0 ∷ 0 ∷ 0 ∷ 0 ∷ 0xe8 ∷ 3 ∷ 0 ∷ 0 ∷ 0 ∷ 0 ∷ 0 ∷ 0
    ∷ (one_text ++ (0 ∷ 0 ∷ 0 ∷ 0 ∷ 0 ∷ 0 ∷ 0 ∷ 0 ∷ 0xf4 ∷ 1 ∷ 0 ∷ 0 ∷ 0 ∷ 0 ∷ 0 ∷ 0 ∷ 65 ∷ 0
    ∷ 69 ∷ 4 ∷ [])))))

-- The runtime's `deploy`: at the commit `three` of time 7, without a previous one. The bytes equal
-- those of an earlier layout's type `(sst)`.
abbrev pub platform_bytes : List ℕ
platform_bytes =
    codes "hub" ++ (0 ∷ (three_text
    ++ (0 ∷ 0 ∷ 0 ∷ 0 ∷ 7 ∷ 0 ∷ 0 ∷ 0 ∷ 0 ∷ 0 ∷ 0 ∷ 0 ∷ 69 ∷ 4 ∷ [])))

-- The text of `config`
abbrev pub config_bytes : List ℕ
config_bytes = codes "[installation]\nlayout=2\n[remote \"hub\"]\nurl=file:///srv/hub\n[pins]\nruntime/org.x.Platform/*/*=true\n"

-- The text of the override
abbrev pub layer_bytes : List ℕ
layer_bytes = codes "[Context]\nshared=!network;\n"

-- The rows of an image with two refs, an override and a `config`
abbrev pub rows : List (Elements × Spot)
rows =
    ([], folder)
    ∷ (config, holds 1 420 config_bytes)
    ∷ (codes "overrides" ∷ [], folder)
    ∷ (override_path (codes "global"), holds 2 420 layer_bytes)
    ∷ (active app, points two_text)
    ∷ (active platform, points three_text)
    ∷ (deploy (text_dir app two_text), holds 3 420 app_bytes)
    ∷ (deploy (text_dir platform three_text), holds 4 420 platform_bytes) ∷ []

-- The image with two refs, an override and a `config`
abbrev pub worked_disk : Disk
worked_disk = rows_at rows

-- The application's row
abbrev pub app_row : RefRow
app_row = record {
  name = app;
  origin = codes "hub";
  commit = two;
  timestamp = 1000;
  previous = Some (record { commit = one; timestamp = 500 });
}

-- The runtime's row
abbrev pub platform_row : RefRow
platform_row =
    record { name = platform; origin = codes "hub"; commit = three; timestamp = 7; previous = None }

-- The override's row
abbrev pub layer : OverrideRow
layer = record {
  name = codes "global";
  file = record {
    name = codes "Context";
    pairs = record { key = codes "shared"; value = codes "!network;" } ∷ [];
  } ∷ [];
}

-- The row of the remote
abbrev pub hub : RemoteRow
hub = record { name = codes "hub"; url = codes "file:///srv/hub" }

-- The pin
abbrev pub pin : List ℕ
pin = codes "runtime/org.x.Platform/*/*"

-- The state that the image with two refs shows
abbrev pub worked_state : State
worked_state = record {
  layout = Two;
  refs = app_row ∷ platform_row ∷ [];
  remotes = hub ∷ [];
  pins = pin ∷ [];
  overrides = layer ∷ [];
}

-- ---- two refs that can't be read: one `active` is a directory, the other links to the `deploy` of
-- another commit

-- The ref whose `active` is a directory
abbrev pub short_ref : Ref
short_ref = record { kind = App; id = codes "org.x.A"; arch = codes "x86_64"; branch = codes "b" }

-- The ref whose `deploy` is that of another commit
abbrev pub dashed_ref : Ref
dashed_ref =
    record { kind = App; id = codes "org.x.A-b"; arch = codes "x86_64"; branch = codes "b" }

-- The rows of an image with two refs that can't be read
abbrev pub damaged_rows : List (Elements × Spot)
damaged_rows = ([], folder) ∷ (active short_ref, folder) ∷ (active dashed_ref, points one_text)
    ∷ (deploy (text_dir dashed_ref one_text), holds 1 420 app_bytes) ∷ []

-- The image with two refs that can't be read
abbrev pub damaged_disk : Disk
damaged_disk = rows_at damaged_rows
