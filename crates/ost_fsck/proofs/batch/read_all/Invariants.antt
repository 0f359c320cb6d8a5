use Rattle.std.proofs.Common.{◌≡◌, ◌≤◌, length, take}
use Rattle.fp_host.specs.Frame.{AtEnd, Unchanged}
use Rattle.ost_fsck.specs.Batches.{AreRows}
use Rattle.ost_fsck.proofs.batch.read_all.Given as goal

abbrev pub invariant-loop-path : goal.invariant-loop-path
invariant-loop-path g l = record {
  still : Unchanged (g.H.Host.moments l.fn.host) (g.H.Host.moments l.host);
  later : g.H.Host.faults l.fn.host ≤ g.H.Host.faults l.host;
  long : length l.rows.items ≡ l.path-index;
  read : AtEnd (λ u w. AreRows l.root (take l.path-index l.paths) u l.items.items l.rows.items) (g.H.Host.moments l.fn.host) (g.H.Host.moments l.host);
}
