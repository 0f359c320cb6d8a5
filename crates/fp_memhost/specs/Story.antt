-- The record that a fake host keeps of its calls.
use Rattle.std.specs.Prelude.{◌≡◌, ◌⊎◌, ◌≤◌, ◌<◌, ◌+◌, ◌-◌, ◌^◌, ◌++◌, ◌==◌, ℕ, Bool, List, [], ◌∷◌, min, Option, Some, None, Result, IsErrOf, if◌then◌else◌}
use Rattle.fp_host.specs.Paths.{Elements}
use Rattle.fp_host.specs.View.{View}
use Rattle.fp_host.specs.Calls.{Change, creates, syncs, Can, CanCreate, done, half}
use Rattle.fp_host.specs.Moments.{Moments}
use Rattle.fp_host.specs.declared.host.HostError.{HostError}
use Rattle.fp_host.specs.declared.host.HostError.TheVariants.{Failed}

-- The record that a fake host keeps of its calls
pub record Story : Type 0 where
  -- The number of calls so far, at most 2^64 - 1
  pub calls : ℕ
  -- The view after a number of calls; nothing if fewer were made
  pub after : ℕ → Option View
  -- Nothing if the call with this number, counted from 0, isn't to fail; else whether its change is
  -- done nevertheless
  pub fails : ℕ → Option Bool
  -- The number of calls that failed because memory for their record ran out, at most 2^64 - 1
  pub starved : ℕ
  -- The path at which each file was created, with its id, in order
  pub made : List (Elements × ℕ)

-- The flag that a list has for the call with a number; nothing if the number isn't listed. If it is
-- listed twice, the first counts.
abbrev pub fails_at : List (ℕ × Bool) → ℕ → Option Bool
fails_at [] n = None
fails_at (x ∷ xs) n = if x.0 == n then Some x.1 else fails_at xs n

-- The views before and after a call that is to fail: its change is done; or it isn't, but a crash
-- may leave it done. A sync changes nothing, and neither does a call whose condition doesn't hold.
abbrev pub FailsAs : Change → Bool → View → View → Type 0
FailsAs syncs late v w = w ≡ v
FailsAs change late v w = (Can change v × (w ≡ (if late then done change v else half change v)))
    ⊎ ((Can change v → ⊥) × (w ≡ v))

-- The views before and after a `create` that is to fail, whatever id the new file has
abbrev pub FailsToCreate : Elements → ℕ → Bool → View → View → Type 0
FailsToCreate p mode late v w =
    ((id : ℕ) × Can (creates p mode id) v
    × (w ≡ (if late then done (creates p mode id) v else half (creates p mode id) v)))
    ⊎ ((CanCreate p mode v → ⊥) × (w ≡ v))

-- The views before and after a reading call that is to fail: nothing changes
abbrev pub FailsToRead : Bool → View → View → Type 0
FailsToRead late v w = w ≡ v

-- A call that isn't to fail doesn't return `Failed`; one that is to fail does, with the views that
-- `fails` relates
abbrev pub Obeys : {T : Type 0} → Option Bool → (Bool → View → View → Type 0) → Result T HostError
    → View → View → Type 0
Obeys None fails result v w = IsErrOf result Failed → ⊥
Obeys (Some late) fails result v w = IsErrOf result Failed × fails late v w

-- A call ends as `Obeys` requires, or it fails without a change because memory for its record ran
-- out
abbrev pub Ends : {T : Type 0} → (Bool → View → View → Type 0) → Story → Story → Result T HostError
    → View → View → Type 0
Ends fails old new result v w =
    (Obeys (old.fails old.calls) fails result v w × (new.starved ≡ old.starved))
    ⊎ (IsErrOf result Failed × (w ≡ v) × (new.starved ≡ min (old.starved + 1) (2 ^ 64 - 1)))

-- A call adds no file to the created ones
abbrev pub AddsNone : View → View → List (Elements × ℕ) → List (Elements × ℕ) → Type 0
AddsNone v w old new = new ≡ old

-- A call adds one file to the created ones, empty and with this mode, or changes nothing
abbrev pub AddsAt : Elements → ℕ → View → View → List (Elements × ℕ) → List (Elements × ℕ) → Type 0
AddsAt p mode v w old new =
    ((new ≡ old) × (w ≡ v))
    ⊎ ((id : ℕ) × (new ≡ old ++ (p, id) ∷ []) × (v.files id ≡ None)
    × (w.files id ≡ Some (record { mode = mode; bytes = [] })))

-- The effect of one call on the record: the call is counted, earlier views stay, and the view after
-- it is the present one.
pub record Records {T : Type 0} (fails : Bool → View → View → Type 0)
    (adds : View → View → List (Elements × ℕ) → List (Elements × ℕ) → Type 0) (old new : Story)
    (before after : Moments) (result : Result T HostError) : Type 0 where
  pub calls : new.calls ≡ min (old.calls + 1) (2 ^ 64 - 1)
  pub kept : (n : ℕ) → n ≤ old.calls → new.after n ≡ old.after n
  pub listed : (n : ℕ) → new.fails n ≡ old.fails n
  pub last : old.calls < 2 ^ 64 - 1 → new.after new.calls ≡ Some after.now
  pub ends : Ends fails old new result before.now after.now
  pub made : adds before.now after.now old.made new.made
