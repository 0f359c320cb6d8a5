use Rattle.std.proofs.Common.{◌≡◌, ◌≤◌, ◌++◌, map, take}
use Rattle.fp_host.specs.Frame.{Unchanged}
use Rattle.fp_small.specs.Places.{repo}
use Rattle.ost_model.specs.Objects.{Have}
use Rattle.ost_model.specs.Remotes.{Stores}
use Rattle.ost_object.specs.Views.{dir_row}
use Rattle.fl_export.specs.Exported.{icons}
use Rattle.fl_export.proofs.gathering.add_sizes.Given as goal

abbrev pub invariant-loop-size : goal.invariant-loop-size
invariant-loop-size g l = record {
  still : Unchanged (g.H.Host.moments l.fn.host) (g.H.Host.moments l.host);
  later : g.H.Host.faults l.fn.host ≤ g.H.Host.faults l.host;
  told : (have : Have) → Stores repo (g.H.Host.moments l.fn.host) have → l.rows.items ≡ l.initial.rows.items ++ icons have l.name (map dir_row (take l.size-index l.sizes));
}
