use Rattle.std.proofs.Common.{◌-◌, ◌≡◌, ◌≤◌, length, take, Some}
use Rattle.fp_host.specs.Remote.{Holdings, bytes_of}
use Rattle.ost_head.specs.Pieces.{TakesIn}
use Rattle.ost_head.proofs.hashing.hash_pieces.Given as goal

abbrev pub invariant-loop-at : goal.invariant-loop-at
invariant-loop-at g l = record {
  low : l.at ≤ l.size;
  long : length l.room ≡ length l.fn.room;
  same : g.R.Remotes.holds l.remotes ≡ g.R.Remotes.holds l.fn.remotes;
  hashed : (held : Holdings) → g.R.Remotes.holds l.fn.remotes ≡ Some held → length (bytes_of (held l.url l.path)) ≡ l.size → TakesIn (take l.at (bytes_of (held l.url l.path))) l.fn.hasher l.hasher;
  later : g.R.Remotes.faults l.fn.remotes ≤ g.R.Remotes.faults l.remotes;
}

abbrev pub decreases-loop-at : goal.decreases-loop-at
decreases-loop-at g l = l.size - l.at
