-- What the commits of the small installation have at their paths.
use Rattle.std.proofs.Common.{ℕ, List, [], ◌∷◌}
use Rattle.std.specs.Prelude.{codes}
use Rattle.ost_model.specs.Fields.{DirRow}
use Rattle.ost_model.specs.Look.{directory, file_at}
use Rattle.fl_samples.specs.Objects as objects
use Rattle.fl_samples.specs.Objects.{Stored}
use Rattle.fl_samples.proofs.Tables.{Table}

abbrev pub dir : List ℕ → Stored → DirRow
dir name o = record { name = name; tree = o.digest; meta = objects.dir_mode.digest }

-- a commit of the application
abbrev pub app_table : Stored → Stored → Stored → Table
app_table root files program =
    ([], directory (dir [] root))
    ∷ (codes "export" ∷ [], directory (dir (codes "export") objects.export))
    ∷ (codes "share" ∷ codes "export" ∷ [], directory (dir (codes "share") objects.share))
    ∷ (codes "applications" ∷ codes "share" ∷ codes "export" ∷ [], directory (dir (codes "applications") objects.applications))
    ∷ (codes "icons" ∷ codes "share" ∷ codes "export" ∷ [], directory (dir (codes "icons") objects.icons))
    ∷ (codes "hicolor" ∷ codes "icons" ∷ codes "share" ∷ codes "export" ∷ [], directory (dir (codes "hicolor") objects.hicolor))
    ∷ (codes "1" ∷ codes "hicolor" ∷ codes "icons" ∷ codes "share" ∷ codes "export" ∷ [], directory (dir (codes "1") objects.size))
    ∷ (codes "apps" ∷ codes "1" ∷ codes "hicolor" ∷ codes "icons" ∷ codes "share" ∷ codes "export" ∷ [], directory (dir (codes "apps") objects.apps))
    ∷ (codes "files" ∷ [], directory (dir (codes "files") files))
    ∷ (codes "metadata" ∷ [], file_at objects.metadata.digest)
    ∷ (codes "o.x.A.desktop" ∷ codes "applications" ∷ codes "share" ∷ codes "export" ∷ [], file_at objects.desktop.digest)
    ∷ (codes "o.x.A.png" ∷ codes "apps" ∷ codes "1" ∷ codes "hicolor" ∷ codes "icons" ∷ codes "share" ∷ codes "export" ∷ [], file_at objects.icon.digest)
    ∷ (codes "a" ∷ codes "files" ∷ [], file_at program.digest)
    ∷ (codes "l" ∷ codes "files" ∷ [], file_at objects.link.digest) ∷ []

-- a commit of a root with `metadata` alone
abbrev pub small_table : Stored → Stored → Table
small_table root metadata = ([], directory (dir [] root)) ∷ (codes "metadata" ∷ [], file_at metadata.digest) ∷ []
