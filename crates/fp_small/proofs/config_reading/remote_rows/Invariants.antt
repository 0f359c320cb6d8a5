use Rattle.std.proofs.Common.{◌≡◌, take}
use Rattle.fp_small.specs.Order.{sorted_by}
use Rattle.fp_small.specs.Config.{name_of, remotes_in}
use Rattle.fp_small.proofs.config_reading.remote_rows.Given as goal

abbrev pub invariant-loop-group : goal.invariant-loop-group
invariant-loop-group l = l.rows.items ≡ sorted_by name_of (remotes_in (take l.group-index l.groups))
