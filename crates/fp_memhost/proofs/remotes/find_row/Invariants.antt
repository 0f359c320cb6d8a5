use Rattle.std.proofs.Common.{◌≡◌, take, None}
use Rattle.fp_memhost.specs.RemoteRows.{row_at}
use Rattle.fp_memhost.proofs.remotes.find_row.Given as goal

abbrev pub invariant-loop-i : goal.invariant-loop-i
invariant-loop-i l = row_at (take l.i l.rows) l.url l.path ≡ None
