-- The effects of one call on a host in memory.
use Rattle.std.specs.Prelude.{◌≡◌, ◌⊎◌, ◌≤◌, ◌+◌, ◌-◌, ◌^◌, ◌&&◌, ◌++◌, ℕ, Bool, true, false, not, [], ◌∷◌, min, Option, Some, None, Result, Ok, Err}
use Rattle.fp_host.specs.declared.host.HostError.{HostError}
use Rattle.fp_host.specs.declared.host.HostError.TheVariants.{Failed, Clash}
use Rattle.fp_memhost.specs.declared.event.Event.{Event}
use Rattle.fp_memhost.specs.declared.mem.MemHost.{MemHost}
use Rattle.fp_memhost.specs.Replay.{is_sync}
use Rattle.fp_memhost.specs.Story.{fails_at}

-- A counter plus 1, at most 2^64 - 1
abbrev pub bumped : ℕ → ℕ
bumped n = min (n + 1) (2 ^ 64 - 1)

-- Tests whether the change of a call is done, by how the call is to fail; a failing sync changes
-- nothing
abbrev pub done_by : Option Bool → Event → Bool
done_by None event = true
done_by (Some late) event = late && not (is_sync event)

-- One call was counted
pub record Counts (old new : MemHost) : Type 0 where
  pub start : new.history.start ≡ old.history.start
  pub calls : new.history.calls ≡ bumped old.history.calls
  pub later : old.history.calls ≤ new.history.calls
  pub failing : new.failing.items ≡ old.failing.items

-- The result is the answer if the call isn't to fail, else `Failed`, and then a fault is counted
abbrev pub Answers : {T : Type 0} → Option Bool → Result T HostError → Result T HostError
    → ℕ → ℕ → Type 0
Answers None answer result old new = (result ≡ answer) × (new ≡ old)
Answers (Some late) answer result old new = (result ≡ Err Failed) × (new ≡ bumped old) × (old ≤ new)

-- A call that changes nothing, and returns its answer unless it is to fail
pub record Looked {T : Type 0} (answer : Result T HostError) (old new : MemHost)
    (result : Result T HostError) : Type 0 where
  pub counts : Counts old new
  pub log : new.history.log.items ≡ old.history.log.items
  pub starved : new.starved ≡ old.starved
  pub answers : Answers (fails_at old.failing.items old.history.calls) answer result
      old.faults new.faults

-- A call that failed and changed nothing because memory for its record ran out
pub record IsStarved (old new : MemHost) (result : Result (Unit {0}) HostError) : Type 0 where
  pub counts : Counts old new
  pub log : new.history.log.items ≡ old.history.log.items
  pub starved : new.starved ≡ bumped old.starved
  pub faults : new.faults ≡ bumped old.faults
  pub later : old.faults ≤ new.faults
  pub failed : result ≡ Err Failed

-- A call whose change was recorded. The change was done, unless the call is to fail with its change
-- not done.
pub record IsNoted (event : Event) (old new : MemHost)
    (result : Result (Unit {0}) HostError) : Type 0 where
  pub counts : Counts old new
  pub log : new.history.log.items ≡ old.history.log.items
      ++ record {
        call = old.history.calls;
        is_done = done_by (fails_at old.failing.items old.history.calls) event;
        event = event;
      } ∷ []
  pub starved : new.starved ≡ old.starved
  pub answers : Answers (fails_at old.failing.items old.history.calls)
      (Ok tt) result old.faults new.faults

-- The effect of a call that makes a change, by whether its condition holds and whether there was
-- memory for the event
abbrev pub PlayedOf : Bool → Option Event → MemHost → MemHost → Result (Unit {0}) HostError → Type 0
PlayedOf false event old new result = Looked (Err Clash) old new result
PlayedOf true None old new result = IsStarved old new result
PlayedOf true (Some event) old new result = IsStarved old new result ⊎ IsNoted event old new result

-- The effect of a call that makes a change
pub record Played (can : Bool) (event : Option Event) (old new : MemHost)
    (result : Result (Unit {0}) HostError) : Type 0 where
  pub how : PlayedOf can event old new result
