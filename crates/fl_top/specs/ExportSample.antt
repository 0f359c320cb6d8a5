-- Sample images with the exports of a small application.
use Rattle.std.specs.Prelude.{ℕ, List, [], ◌∷◌, ◌++◌, codes}
use Rattle.fp_host.specs.Paths.{Elements}
use Rattle.fp_host.specs.Outcome.{Spot, folder, holds, points, Disk}
use Rattle.dep_states.specs.Samples.{rows_at}
use Rattle.fl_export.specs.Placed.{exports}
use Rattle.fl_export.specs.Texts.{desktop_path, icon_path, link_text}
use Rattle.fl_export.specs.Sample.{stable}

-- The text of the exported desktop file
abbrev pub desktop_text : List ℕ
desktop_text =
    codes "[Desktop Entry]\nName=App\nExec=fpk launch app/org.x.App/x86_64/stable --command=run\n"

-- The path of the exported desktop file
abbrev pub desktop_place : Elements
desktop_place = desktop_path (codes "org.x.App.desktop") ++ exports

-- The path of the exported icon
abbrev pub icon_place : Elements
icon_place = icon_path (codes "48x48") (codes "org.x.App.png") ++ exports

-- The text of the exported icon's symlink
abbrev pub icon_link : List ℕ
icon_link = link_text stable (icon_path (codes "48x48") (codes "org.x.App.png"))

-- The rows of an image with just the directory `exports`, the desktop file and the icon
abbrev pub placed_rows : List (Elements × Spot)
placed_rows = (exports, folder) ∷ (desktop_place, holds 1 420 desktop_text)
    ∷ (icon_place, points icon_link) ∷ []

-- The image with just the exports of the small application
abbrev pub placed_disk : Disk
placed_disk = rows_at placed_rows

-- The path of another application's icon
abbrev pub stale_place : Elements
stale_place = icon_path (codes "48x48") (codes "org.x.Gone.png") ++ exports

-- The image with the exports of the small application, and a symlink at another application's icon
abbrev pub stale_disk : Disk
stale_disk = rows_at ((stale_place, points icon_link) ∷ placed_rows)

-- The text that `list --exports` prints of the small application
abbrev pub listed_text : List ℕ
listed_text = codes "share/applications/org.x.App.desktop app/org.x.App/x86_64/stable\nshare/icons/hicolor/48x48/apps/org.x.App.png app/org.x.App/x86_64/stable\n"
