use Rattle.std.proofs.Common.{◌-◌, ◌≡◌, ◌≤◌, length}
use Rattle.fp_host.specs.Frame.{Frame, Only, NoName}
use Rattle.fp_host.specs.Outcome.{Nothing}
use Rattle.ost_head.proofs.Copied.{HasCopied}
use Rattle.ost_head.proofs.copying.copy_pieces.Given as goal

abbrev pub invariant-loop-at : goal.invariant-loop-at
invariant-loop-at g l = record {
  low : l.at ≤ l.size;
  room : length l.buffer ≡ length l.fn.buffer;
  frame : Frame Nothing NoName (Only l.to) (g.H.Host.moments l.fn.host) (g.H.Host.moments l.host);
  same : g.R.Remotes.holds l.remotes ≡ g.R.Remotes.holds l.fn.remotes;
  copied : HasCopied l.to l.from l.url (g.R.Remotes.holds l.fn.remotes) l.at l.fn.hasher l.hasher (g.H.Host.moments l.fn.host) (g.H.Host.moments l.host);
  later : g.H.Host.faults l.fn.host ≤ g.H.Host.faults l.host;
  remote_later : g.R.Remotes.faults l.fn.remotes ≤ g.R.Remotes.faults l.remotes;
}

abbrev pub decreases-loop-at : goal.decreases-loop-at
decreases-loop-at g l = l.size - l.at
