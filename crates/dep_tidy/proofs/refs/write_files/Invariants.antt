use Rattle.std.proofs.Common.{◌≤◌, take}
use Rattle.fp_host.specs.Frame.{AtEnd}
use Rattle.fp_host.specs.Moments.{Always}
use Rattle.dep_tidy.specs.Steps.{Writes, WroteSome}
use Rattle.dep_tidy.proofs.refs.write_files.Given as goal

abbrev pub invariant-loop-row : goal.invariant-loop-row
invariant-loop-row g l = record {
  writes : Always (Writes l.state.refs) (g.H.Host.moments l.fn.host) (g.H.Host.moments l.host);
  some : AtEnd (WroteSome l.state (take l.row-index l.row-items)) (g.H.Host.moments l.fn.host) (g.H.Host.moments l.host);
  later : g.H.Host.faults l.fn.host ≤ g.H.Host.faults l.host;
}
