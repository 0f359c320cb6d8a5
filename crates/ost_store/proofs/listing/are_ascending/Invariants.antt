use Rattle.std.proofs.Common.{◌≡◌, ◌-◌, drop, map}
use Rattle.fp_host.specs.Paths.{path_text}
use Rattle.fp_host.specs.Reads.{is_ascending}
use Rattle.ost_store.proofs.listing.are_ascending.Given as goal

-- the paths so far ascend
abbrev pub invariant-loop-i : goal.invariant-loop-i
invariant-loop-i l = is_ascending (map path_text l.paths) ≡ is_ascending (drop (l.i - 1) (map path_text l.paths))
