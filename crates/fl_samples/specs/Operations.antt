-- Operations on the sample installation, and the same installation in layout 1.
use Rattle.std.specs.Prelude.{ℕ, List, [], ◌∷◌, codes, Some}
use Rattle.fp_host.specs.Paths.{Elements}
use Rattle.fp_host.specs.Outcome.{Spot, folder, holds, Disk}
use Rattle.fp_host.specs.View.{View}
use Rattle.fp_small.specs.declared.op.Op.{Op}
use Rattle.fp_small.specs.declared.op.Op.TheVariants.{Update, Uninstall, Rollback}
use Rattle.fp_small.specs.declared.state.RefRow.{RefRow}
use Rattle.fp_small.specs.declared.state.State.{State}
use Rattle.fp_small.specs.declared.state.Layout.TheVariants.{One}
use Rattle.dep_states.specs.Names.{remotes_conf, pins_file}
use Rattle.dep_states.specs.Samples.{rows_at}
use Rattle.fl_samples.specs.Image.{app, row_of, locale, platform, kept_rows, whole_state}
use Rattle.fl_samples.specs.Objects as objects
use Rattle.fl_samples.specs.Views.{view_of}

-- ---- operations on the application

-- The application goes back to its previous commit
abbrev pub back : Op
back = Rollback app objects.old_commit.digest

-- The application is updated to the commit that its remote offers
abbrev pub onward : Op
onward = Update app (codes "hub") objects.new_commit.digest

-- The application is uninstalled
abbrev pub away : Op
away = Uninstall app

-- The application's row after it went back
abbrev pub back_row : RefRow
back_row = record (row_of app objects.old_commit 1) {
  previous = Some (record { commit = objects.app_commit.digest; timestamp = 2 });
}

-- The application's row after the update
abbrev pub onward_row : RefRow
onward_row = record (row_of app objects.new_commit 3) {
  previous = Some (record { commit = objects.app_commit.digest; timestamp = 2 });
}

-- The rows of the extension and the runtime
abbrev pub runtime_rows : List RefRow
runtime_rows =
    row_of locale objects.locale_commit 1 ∷ row_of platform objects.platform_commit 1 ∷ []

-- The sample state with these refs
abbrev pub with_rows : List RefRow → State
with_rows rows = record whole_state { refs = rows }

-- ---- the installation in layout 1

-- The content of `remotes.conf`
abbrev pub old_remotes : List ℕ
old_remotes = codes "[remote \"hub\"]\nurl=file:///h\n"

-- The content of `pins`
abbrev pub old_pins : List ℕ
old_pins = codes "runtime/o.x.P/*/*\n"

-- The rows of the image in layout 1, which has its settings in two files
abbrev pub old_rows : List (Elements × Spot)
old_rows = ([], folder) ∷ (remotes_conf, holds 51 420 old_remotes)
    ∷ (pins_file, holds 52 420 old_pins) ∷ kept_rows

-- The image in layout 1
abbrev pub old_disk : Disk
old_disk = rows_at old_rows

-- The view with exactly the image in layout 1
abbrev pub old_view : View
old_view = view_of old_rows

-- The state in layout 1
abbrev pub old_state : State
old_state = record whole_state { layout = One }
