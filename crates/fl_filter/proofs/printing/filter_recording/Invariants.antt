use Rattle.std.proofs.Common.{◌≡◌, ◌≤◌, take, None, map}
use Rattle.std.specs.Prelude.{reverse}
use Rattle.bus_proxy.specs.Arrivals.{breach, events}
use Rattle.bus_proxy.specs.Outs.{setting, forwarded}
use Rattle.bus_proxy.specs.Filters.{FilterAt}
use Rattle.fl_filter.specs.Filtered.{out_text}
use Rattle.fl_filter.proofs.Speaking.{Far}
use Rattle.fl_filter.proofs.printing.filter_recording.Given as goal

abbrev pub invariant-loop-side : goal.invariant-loop-side
invariant-loop-side g l =
    let s = setting l.fn.policy l.recording.client l.recording.owners in
    let fed = reverse (take l.side-index l.recording.pieces) in
    record {
      at : FilterAt l.filter s fed (events fed) (forwarded s (events fed));
      sound : breach fed ≡ None;
      far : Far (map out_text (forwarded s (events (reverse l.recording.pieces)))) (map out_text (forwarded s (events fed)))
          (g.H.Host.moments l.fn.host) (g.H.Host.moments l.host);
      later : g.H.Host.faults l.fn.host ≤ g.H.Host.faults l.host;
    }
