-- The exports of the sample installation's application: its desktop file with a rewritten command,
-- and a symlink to its icon.
use Rattle.std.specs.Prelude.{List, [], ◌∷◌, codes}
use Rattle.fl_export.specs.declared.rows.ExportRow.{ExportRow}
use Rattle.fl_export.specs.Exported.{desktop_row, icon_row}
use Rattle.fl_samples.specs.Image.{app, desktop_bytes}

-- The rows of the exports
abbrev pub rows : List ExportRow
rows = desktop_row app (codes "o.x.A.desktop") desktop_bytes
    ∷ icon_row app (codes "1") (codes "o.x.A.png") ∷ []
