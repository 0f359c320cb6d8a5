-- A small sample installation: an application with a subdirectory, a symlink, a desktop file, an
-- icon and a previous commit; its runtime and its extension; a pin, an override and the exported
-- files.
use Rattle.std.specs.Prelude.{ℕ, List, [], ◌∷◌, ◌++◌, map, codes, Some, None}
use Rattle.fp_host.specs.Paths.{Elements}
use Rattle.fp_host.specs.Outcome.{Spot, folder, holds, points, Disk}
use Rattle.fp_name.specs.declared.kind.RefKind.TheVariants.{App, Runtime}
use Rattle.fp_name.specs.Refs.{Ref}
use Rattle.fp_small.specs.Places.{repo, tmp}
use Rattle.fp_small.specs.declared.state.State.{State}
use Rattle.fp_small.specs.declared.state.RefRow.{RefRow}
use Rattle.fp_small.specs.declared.state.RemoteRow.{RemoteRow}
use Rattle.fp_small.specs.declared.state.OverrideRow.{OverrideRow}
use Rattle.fp_small.specs.declared.state.Layout.TheVariants.{Two}
use Rattle.ost_model.specs.Stores.{objects_folder}
use Rattle.dep_states.specs.Names.{config, active, branch_dir, text_dir, deploy, ref_file, override_path, overrides_folder}
use Rattle.dep_states.specs.Samples.{rows_at}
use Rattle.fl_samples.specs.Objects as objects
use Rattle.fl_samples.specs.Objects.{Stored}

-- ---- the refs

-- The application
abbrev pub app : Ref
app = record { kind = App; id = codes "o.x.A"; arch = codes "x86_64"; branch = codes "s" }

-- The application's extension
abbrev pub locale : Ref
locale = record { kind = Runtime; id = codes "o.x.A.L"; arch = codes "x86_64"; branch = codes "s" }

-- The application's runtime
abbrev pub platform : Ref
platform = record { kind = Runtime; id = codes "o.x.P"; arch = codes "x86_64"; branch = codes "1" }

-- ---- the store

-- The objects of the application's deployed commit
abbrev pub app_objects : List Stored
app_objects =
    objects.app_commit ∷ objects.app_root ∷ objects.dir_mode ∷ objects.metadata ∷ objects.export
    ∷ objects.share ∷ objects.applications ∷ objects.desktop ∷ objects.icons ∷ objects.hicolor
    ∷ objects.size ∷ objects.apps ∷ objects.icon ∷ objects.app_files ∷ objects.app_program
    ∷ objects.link ∷ []

-- The objects of the application's previous commit that the deployed one lacks
abbrev pub old_objects : List Stored
old_objects =
    objects.old_commit ∷ objects.old_root ∷ objects.old_files ∷ objects.old_program ∷ []

-- The objects of the extension's commit that the application's commits lack
abbrev pub locale_objects : List Stored
locale_objects = objects.locale_commit ∷ objects.locale_root ∷ objects.locale_metadata ∷ []

-- The objects of the runtime's commit that the other commits lack
abbrev pub platform_objects : List Stored
platform_objects =
    objects.platform_commit ∷ objects.platform_root ∷ objects.platform_metadata ∷ []

-- All objects of the store
abbrev pub stored_objects : List Stored
stored_objects = app_objects ++ (old_objects ++ (locale_objects ++ platform_objects))

-- The row of the directory that has the first two digits of an object's digest as its name
abbrev pub front_row : Stored → Elements × Spot
front_row o = (o.front ∷ objects_folder repo, folder)

-- The row of an object in the store
abbrev pub stored_row : Stored → Elements × Spot
stored_row o = (o.name ∷ o.front ∷ objects_folder repo, o.spot)

-- The path of the store's `refs/heads`
abbrev pub heads_folder : Elements
heads_folder = codes "heads" ∷ codes "refs" ∷ repo

-- The path of the store's `refs/remotes/hub`
abbrev pub hub_folder : Elements
hub_folder = codes "hub" ∷ codes "remotes" ∷ codes "refs" ∷ repo

-- The rows of the store
abbrev pub store_rows : List (Elements × Spot)
store_rows =
    (repo, folder)
    ∷ (tmp, folder)
    ∷ (codes "config" ∷ repo, holds 40 420 (codes "[core]\nrepo_version=1\nmode=bare-user-only\n"))
    ∷ (objects_folder repo, folder)
    ∷ (codes "refs" ∷ repo, folder)
    ∷ (heads_folder, folder)
    ∷ (codes "remotes" ∷ codes "refs" ∷ repo, folder)
    ∷ (hub_folder, folder)
    ∷ (codes "app" ∷ hub_folder, folder)
    ∷ (codes "o.x.A" ∷ codes "app" ∷ hub_folder, folder)
    ∷ (codes "x86_64" ∷ codes "o.x.A" ∷ codes "app" ∷ hub_folder, folder)
    ∷ (ref_file (codes "hub") app, holds 41 420 (objects.app_text ++ 10 ∷ []))
    ∷ (codes "runtime" ∷ hub_folder, folder)
    ∷ (codes "o.x.A.L" ∷ codes "runtime" ∷ hub_folder, folder)
    ∷ (codes "x86_64" ∷ codes "o.x.A.L" ∷ codes "runtime" ∷ hub_folder, folder)
    ∷ (ref_file (codes "hub") locale, holds 42 420 (objects.locale_text ++ 10 ∷ []))
    ∷ (codes "o.x.P" ∷ codes "runtime" ∷ hub_folder, folder)
    ∷ (codes "x86_64" ∷ codes "o.x.P" ∷ codes "runtime" ∷ hub_folder, folder)
    ∷ (ref_file (codes "hub") platform, holds 43 420 (objects.platform_text ++ 10 ∷ []))
    ∷ map front_row stored_objects ++ map stored_row stored_objects

-- ---- the directories of commits

-- The rows of a checkout of one of the application's commits, with this program
abbrev pub app_rows : Elements → Stored → List (Elements × Spot)
app_rows dir program =
    (dir, folder)
    ∷ (codes "export" ∷ dir, folder)
    ∷ (codes "share" ∷ codes "export" ∷ dir, folder)
    ∷ (codes "applications" ∷ codes "share" ∷ codes "export" ∷ dir, folder)
    ∷ (codes "icons" ∷ codes "share" ∷ codes "export" ∷ dir, folder)
    ∷ (codes "hicolor" ∷ codes "icons" ∷ codes "share" ∷ codes "export" ∷ dir, folder)
    ∷ (codes "1" ∷ codes "hicolor" ∷ codes "icons" ∷ codes "share" ∷ codes "export" ∷ dir, folder)
    ∷ (
      codes "apps" ∷ codes "1" ∷ codes "hicolor" ∷ codes "icons" ∷ codes "share"
          ∷ codes "export" ∷ dir,
      folder,
    )
    ∷ (codes "files" ∷ dir, folder)
    ∷ (codes "metadata" ∷ dir, objects.metadata.spot)
    ∷ (
      codes "o.x.A.desktop" ∷ codes "applications" ∷ codes "share" ∷ codes "export" ∷ dir,
      objects.desktop.spot,
    )
    ∷ (
      codes "o.x.A.png" ∷ codes "apps" ∷ codes "1" ∷ codes "hicolor" ∷ codes "icons"
          ∷ codes "share" ∷ codes "export" ∷ dir,
      objects.icon.spot,
    )
    ∷ (codes "a" ∷ codes "files" ∷ dir, program.spot)
    ∷ (codes "l" ∷ codes "files" ∷ dir, objects.link.spot) ∷ []

-- The rows of all deployments
abbrev pub deployed_rows : List (Elements × Spot)
deployed_rows =
    (codes "app" ∷ [], folder)
    ∷ (codes "o.x.A" ∷ codes "app" ∷ [], folder)
    ∷ (codes "x86_64" ∷ codes "o.x.A" ∷ codes "app" ∷ [], folder)
    ∷ (branch_dir app, folder)
    ∷ (active app, points objects.app_text)
    ∷ (deploy (text_dir app objects.app_text), holds 44 420 objects.app_record)
    ∷ (deploy (text_dir app objects.old_text), holds 45 420 objects.old_record)
    ∷ (codes "runtime" ∷ [], folder)
    ∷ (codes "o.x.A.L" ∷ codes "runtime" ∷ [], folder)
    ∷ (codes "x86_64" ∷ codes "o.x.A.L" ∷ codes "runtime" ∷ [], folder)
    ∷ (branch_dir locale, folder)
    ∷ (active locale, points objects.locale_text)
    ∷ (text_dir locale objects.locale_text, folder)
    ∷ (
      codes "metadata" ∷ text_dir locale objects.locale_text,
      objects.locale_metadata.spot,
    )
    ∷ (deploy (text_dir locale objects.locale_text), holds 46 420 objects.locale_record)
    ∷ (codes "o.x.P" ∷ codes "runtime" ∷ [], folder)
    ∷ (codes "x86_64" ∷ codes "o.x.P" ∷ codes "runtime" ∷ [], folder)
    ∷ (branch_dir platform, folder)
    ∷ (active platform, points objects.platform_text)
    ∷ (text_dir platform objects.platform_text, folder)
    ∷ (
      codes "metadata" ∷ text_dir platform objects.platform_text,
      objects.platform_metadata.spot,
    )
    ∷ (deploy (text_dir platform objects.platform_text), holds 47 420 objects.platform_record)
    ∷ app_rows (text_dir app objects.app_text) objects.app_program
    ++ app_rows (text_dir app objects.old_text) objects.old_program

-- ---- the settings, the override and the exported files

-- The content of `config`
abbrev pub config_bytes : List ℕ
config_bytes = codes "[installation]\nlayout=2\n[remote \"hub\"]\nurl=file:///h\n[pins]\nruntime/o.x.P/*/*=true\n"

-- The content of the global override
abbrev pub layer_bytes : List ℕ
layer_bytes = codes "[Context]\nshared=!network;\n"

-- The content of the exported desktop file
abbrev pub desktop_bytes : List ℕ
desktop_bytes =
    codes "[Desktop Entry]\nName=A\nExec=fpk launch app/o.x.A/x86_64/s --command=a\n"

-- The text of the exported icon's symlink
abbrev pub icon_link : List ℕ
icon_link =
    codes "../../../../../../app/o.x.A/x86_64/s/active/export/share/icons/hicolor/1/apps/o.x.A.png"

-- The path `exports/share`
abbrev pub share_folder : Elements
share_folder = codes "share" ∷ codes "exports" ∷ []

-- The path `exports/share/icons/hicolor/1`
abbrev pub size_folder : Elements
size_folder = codes "1" ∷ codes "hicolor" ∷ codes "icons" ∷ share_folder

-- The rows of the exports
abbrev pub exported_rows : List (Elements × Spot)
exported_rows =
    (codes "exports" ∷ [], folder)
    ∷ (share_folder, folder)
    ∷ (codes "applications" ∷ share_folder, folder)
    ∷ (codes "o.x.A.desktop" ∷ codes "applications" ∷ share_folder, holds 48 420 desktop_bytes)
    ∷ (codes "icons" ∷ share_folder, folder)
    ∷ (codes "hicolor" ∷ codes "icons" ∷ share_folder, folder)
    ∷ (size_folder, folder)
    ∷ (codes "apps" ∷ size_folder, folder)
    ∷ (codes "o.x.A.png" ∷ codes "apps" ∷ size_folder, points icon_link) ∷ []

-- The rows of the overrides
abbrev pub layer_rows : List (Elements × Spot)
layer_rows = (overrides_folder, folder)
    ∷ (override_path (codes "global"), holds 49 420 layer_bytes) ∷ []

-- All rows except the root and the settings
abbrev pub kept_rows : List (Elements × Spot)
kept_rows = layer_rows ++ (deployed_rows ++ (exported_rows ++ store_rows))

-- ---- the image

-- All rows of the image
abbrev pub whole_rows : List (Elements × Spot)
whole_rows = ([], folder) ∷ (config, holds 50 420 config_bytes) ∷ kept_rows

-- The image
abbrev pub whole_disk : Disk
whole_disk = rows_at whole_rows

-- ---- the state that it shows

-- The row of a ref that is deployed at this commit, with this time
abbrev pub row_of : Ref → Stored → ℕ → RefRow
row_of name commit time = record {
  name = name;
  origin = codes "hub";
  commit = commit.digest;
  timestamp = time;
  previous = None;
}

-- The row of the application
abbrev pub app_row : RefRow
app_row = record (row_of app objects.app_commit 2) {
  previous = Some (record { commit = objects.old_commit.digest; timestamp = 1 });
}

-- The rows of all deployed refs
abbrev pub ref_rows : List RefRow
ref_rows = app_row ∷ row_of locale objects.locale_commit 1
    ∷ row_of platform objects.platform_commit 1 ∷ []

-- The remote
abbrev pub hub : RemoteRow
hub = record { name = codes "hub"; url = codes "file:///h" }

-- The pin, which keeps the runtime
abbrev pub pin : List ℕ
pin = codes "runtime/o.x.P/*/*"

-- The global override
abbrev pub layer : OverrideRow
layer = record {
  name = codes "global";
  file = record {
    name = codes "Context";
    pairs = record { key = codes "shared"; value = codes "!network;" } ∷ [];
  } ∷ [];
}

-- The state that the image shows
abbrev pub whole_state : State
whole_state = record {
  layout = Two;
  refs = ref_rows;
  remotes = hub ∷ [];
  pins = pin ∷ [];
  overrides = layer ∷ [];
}
