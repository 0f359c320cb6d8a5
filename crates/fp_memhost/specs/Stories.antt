-- The views and the record of a host in memory.
use Rattle.std.specs.Prelude.{Some, None, nat_le, if◌then◌else◌}
use Rattle.fp_host.specs.Moments.{Moments}
use Rattle.fp_memhost.specs.Made.{made_of}
use Rattle.fp_memhost.specs.declared.mem.MemHost.{MemHost}
use Rattle.fp_memhost.specs.Images.{opened}
use Rattle.fp_memhost.specs.Replay.{view_after, moments_of}
use Rattle.fp_memhost.specs.Story.{fails_at}
use Rattle.fp_memhost.specs.Story.{Story}

-- The views of a host in memory, as it reports them
abbrev pub told_of : MemHost → Moments
told_of m = moments_of (opened m.history.start) m.history.log.items

-- The record of a host in memory
abbrev pub story_of : MemHost → Story
story_of m = record {
  calls = m.history.calls;
  after = λ n. if nat_le n m.history.calls
      then Some (view_after (opened m.history.start) m.history.log.items n) else None;
  fails = fails_at m.failing.items;
  starved = m.starved;
  made = made_of m.history.log.items;
}
