use Rattle.std.proofs.Common.{◌≡◌, ◌≤◌, take}
use Rattle.fp_host.specs.Frame.{Unchanged}
use Rattle.fp_small.specs.Places.{repo}
use Rattle.ost_model.specs.Objects.{Have}
use Rattle.ost_model.specs.Remotes.{Stores}
use Rattle.fl_export.specs.Exported.{all_exported}
use Rattle.fl_export.proofs.listing.all_exported.Given as goal

abbrev pub invariant-loop-row : goal.invariant-loop-row
invariant-loop-row g l = record {
  still : Unchanged (g.H.Host.moments l.fn.host) (g.H.Host.moments l.host);
  later : g.H.Host.faults l.fn.host ≤ g.H.Host.faults l.host;
  told : (have : Have) → Stores repo (g.H.Host.moments l.fn.host) have → l.rows.items ≡ all_exported have (take l.row-index l.refs);
}
