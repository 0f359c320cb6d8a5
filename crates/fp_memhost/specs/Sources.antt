-- The record of a source in memory.
use Rattle.std.specs.Prelude.{drop}
use Rattle.fp_memhost.specs.declared.source.MemSource.{MemSource}
use Rattle.fp_memhost.specs.Supply.{Supply}

-- The record of a source in memory
abbrev pub supply_of : MemSource → Supply
supply_of s =
    record { left = drop s.at s.bytes; step = s.step; fail_at = s.fail_at; calls = s.calls }
