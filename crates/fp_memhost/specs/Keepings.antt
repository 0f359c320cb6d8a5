-- The records and the content of remotes in memory.
use Rattle.std.specs.Prelude.{◌≡◌, ◌≤◌, ◌+◌, ◌-◌, ◌^◌, Bool, min, eqb, if◌then◌else◌}
use Rattle.std.specs.List.{list_any}
use Rattle.fp_host.specs.Remote.{Holdings}
use Rattle.fp_memhost.specs.declared.remotes.MemRemotes.{MemRemotes}
use Rattle.fp_memhost.specs.RemoteRows.{held_of}
use Rattle.fp_memhost.specs.Holding.{Keeping}

-- The record that remotes in memory keep of their calls
abbrev pub keeping_of : MemRemotes → Keeping
keeping_of r = record { calls = r.calls; fails = λ n. list_any (λ x. eqb x n) r.failing.items }

-- The content of remotes in memory
abbrev pub holdings_of : MemRemotes → Holdings
holdings_of r = held_of r.rows.items

-- One call was counted, `answer` is whether it fails, and if so a fault was counted too
pub record Fails (old new : MemRemotes) (answer : Bool) : Type 0 where
  pub rows : new.rows.items ≡ old.rows.items
  pub keeping : (keeping_of new).calls ≡ min (old.calls + 1) (2 ^ 64 - 1)
  pub failing : new.failing.items ≡ old.failing.items
  pub answer_is : answer ≡ (keeping_of old).fails old.calls
  pub faults : new.faults ≡ (if answer then min (old.faults + 1) (2 ^ 64 - 1) else old.faults)
  pub later : old.faults ≤ new.faults
