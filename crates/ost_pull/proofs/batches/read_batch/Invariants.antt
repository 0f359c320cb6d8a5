use Rattle.std.proofs.Common.{◌≡◌, ◌≤◌, length}
use Rattle.fp_host.specs.Frame.{Unchanged}
use Rattle.ost_pull.specs.Batches.{AreReady}
use Rattle.ost_pull.proofs.batches.read_batch.Given as goal

abbrev pub invariant-loop-at : goal.invariant-loop-at
invariant-loop-at g l = record {
  still : Unchanged (g.H.Host.moments l.fn.host) (g.H.Host.moments l.host);
  same : g.R.Remotes.holds l.remotes ≡ g.R.Remotes.holds l.fn.remotes;
  long : length l.batch.turns.items ≡ l.at;
  ready : AreReady l.root l.url (g.H.Host.moments l.host) (g.R.Remotes.holds l.fn.remotes) l.at l.objects l.batch.turns.items l.batch.items.items;
  later : g.H.Host.faults l.fn.host ≤ g.H.Host.faults l.host;
  remote_later : g.R.Remotes.faults l.fn.remotes ≤ g.R.Remotes.faults l.remotes;
}
