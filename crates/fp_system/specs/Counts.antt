-- The counts of failed calls that the adapters of the real system keep.
use Rattle.std.specs.Prelude.{◌≡◌, ℕ, ◌+◌, ◌-◌, ◌^◌, ◌≤◌, min, Result, Ok, Err}
use Rattle.fp_host.specs.declared.host.HostError.{HostError}
use Rattle.fp_host.specs.declared.host.HostError.TheVariants as host
use Rattle.fp_host.specs.declared.remotes.RemoteError.{RemoteError}
use Rattle.fp_host.specs.declared.remotes.RemoteError.TheVariants as remote
use Rattle.fp_host.specs.declared.source.Taken.{Taken}
use Rattle.fp_host.specs.declared.source.Taken.TheVariants as source

-- The counter `n` plus 1, at most 2^64 - 1
abbrev pub one_more : ℕ → ℕ
one_more n = min (n + 1) (2 ^ 64 - 1)

-- The counter `n` plus `k`, at most 2^64 - 1
abbrev pub many_more : ℕ → ℕ → ℕ
many_more n k = min (n + k) (2 ^ 64 - 1)

-- The counter after a call of a host: one more if the result is `Failed`, else unchanged; the
-- result is never `Clash`
abbrev pub CountsOf : {T : Type 0} → Result T HostError → ℕ → ℕ → Type 0
CountsOf (Ok t) before now = now ≡ before
CountsOf (Err host.Failed) before now = now ≡ one_more before
CountsOf (Err host.Clash) before now = ⊥
CountsOf (Err host.NoMemory) before now = now ≡ before

-- A call of a host raises the counter by one if it failed, and leaves it unchanged otherwise
pub record Counts {T : Type 0} (before now : ℕ) (result : Result T HostError) : Type 0 where
  pub later : before ≤ now
  pub how : CountsOf result before now

-- The counter after a call to a remote: one more if the result is `Failed`, else unchanged
abbrev pub RemoteCountsOf : {T : Type 0} → Result T RemoteError → ℕ → ℕ → Type 0
RemoteCountsOf (Ok t) before now = now ≡ before
RemoteCountsOf (Err remote.Failed) before now = now ≡ one_more before
RemoteCountsOf (Err remote.NoMemory) before now = now ≡ before

-- A call to a remote raises the counter by one if it failed, and leaves it unchanged otherwise
pub record RemoteCounts {T : Type 0} (before now : ℕ) (result : Result T RemoteError) : Type 0 where
  pub later : before ≤ now
  pub how : RemoteCountsOf result before now

-- The counter after a read from a source: one more if the result is `Failed`, else unchanged
abbrev pub TakenCountsOf : Taken → ℕ → ℕ → Type 0
TakenCountsOf (source.Took n) before now = now ≡ before
TakenCountsOf source.End before now = now ≡ before
TakenCountsOf source.Failed before now = now ≡ one_more before

-- A read from a source raises the counter by one if it failed, and leaves it unchanged otherwise
pub record TakenCounts (before now : ℕ) (taken : Taken) : Type 0 where
  pub later : before ≤ now
  pub how : TakenCountsOf taken before now
