use Rattle.std.proofs.Common.{◌≡◌, ◌≤◌, ◌++◌, map, take}
use Rattle.fp_host.specs.Frame.{Unchanged}
use Rattle.fp_small.specs.Places.{repo}
use Rattle.ost_model.specs.Objects.{Have}
use Rattle.ost_model.specs.Remotes.{Stores}
use Rattle.ost_object.specs.Views.{file_row}
use Rattle.fl_export.specs.Exported.{icon_files}
use Rattle.fl_export.proofs.gathering.add_icon_files.Given as goal

abbrev pub invariant-loop-file : goal.invariant-loop-file
invariant-loop-file g l = record {
  still : Unchanged (g.H.Host.moments l.fn.host) (g.H.Host.moments l.host);
  later : g.H.Host.faults l.fn.host ≤ g.H.Host.faults l.host;
  told : (have : Have) → Stores repo (g.H.Host.moments l.fn.host) have → l.rows.items ≡ l.initial.rows.items ++ icon_files have l.name l.size (map file_row (take l.file-index l.files));
}
