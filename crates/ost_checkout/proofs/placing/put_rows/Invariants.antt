use Rattle.std.proofs.Common.{◌≤◌}
use Rattle.fp_host.specs.Frame.{AtEnd}
use Rattle.fp_host.specs.Moments.{Always}
use Rattle.fp_small.specs.Unsynced.{MakesNoFile}
use Rattle.ost_checkout.specs.Placing.{Fits, PutsRows}
use Rattle.ost_checkout.proofs.Put.{ArePut}
use Rattle.ost_checkout.proofs.placing.put_rows.Given as goal

abbrev pub invariant-loop-row : goal.invariant-loop-row
invariant-loop-row g l = record {
  puts : Always (PutsRows l.root l.rows) (g.H.Host.moments l.fn.host) (g.H.Host.moments l.host);
  put : AtEnd (λ u w. Fits l.root l.rows → ArePut l.root l.rows l.row-index u w) (g.H.Host.moments l.fn.host) (g.H.Host.moments l.host);
  unsynced : AtEnd MakesNoFile (g.H.Host.moments l.fn.host) (g.H.Host.moments l.host);
  later : g.H.Host.faults l.fn.host ≤ g.H.Host.faults l.host;
}
