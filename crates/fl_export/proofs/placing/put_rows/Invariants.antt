use Rattle.std.proofs.Common.{◌≤◌}
use Rattle.fp_host.specs.Frame.{AtEnd}
use Rattle.fp_host.specs.Moments.{Always}
use Rattle.fl_export.specs.Steps.{PutsRows}
use Rattle.fl_export.proofs.PutRows.{WereSomePut}
use Rattle.fl_export.proofs.placing.put_rows.Given as goal

abbrev pub invariant-loop-row : goal.invariant-loop-row
invariant-loop-row g l = record {
  puts : Always (PutsRows l.rows) (g.H.Host.moments l.fn.host) (g.H.Host.moments l.host);
  put : AtEnd (WereSomePut l.rows l.row-index) (g.H.Host.moments l.fn.host) (g.H.Host.moments l.host);
  later : g.H.Host.faults l.fn.host ≤ g.H.Host.faults l.host;
}
