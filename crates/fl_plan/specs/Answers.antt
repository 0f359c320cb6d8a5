-- The results of planning, and the remotes and objects on which they depend.
use Rattle.std.specs.Prelude.{◌≡◌, ℕ, Option, Some, Result, Ok, Err, IsErrOf}
use Rattle.fp_host.specs.Remote.{Holdings}
use Rattle.fp_small.specs.Places.{repo}
use Rattle.fp_small.specs.declared.refusal.Refusal.{Refusal}
use Rattle.ost_model.specs.Objects.{Have}
use Rattle.ost_model.specs.Remotes.{Stores}
use Rattle.ost_walk.specs.Ends.{IsRemotes, Outside}
use Rattle.ost_walk.specs.declared.pull_end.PullEnd.{PullEnd}
use Rattle.ost_walk.specs.declared.pull_end.PullEnd.TheVariants as ends
use Rattle.ost_walk.specs.PullEnds.{Answers, Looks, Tells}

-- Two steps one after another; a refusal of the first is the result
abbrev pub and_then : {A B : Type 0} → Result A Refusal → (A → Result B Refusal) → Result B Refusal
and_then (Ok a) next = next a
and_then (Err refusal) next = Err refusal

-- A result with a function applied to its value, unless it is a refusal
abbrev pub mapped : {A B : Type 0} → (A → B) → Result A Refusal → Result B Refusal
mapped f (Ok a) = Ok (f a)
mapped f (Err refusal) = Err refusal

-- A lookup at remotes alone, which stay unchanged. If they report their content, the result is
-- `answer` of it. A fault is only theirs.
pub record Asks {A : Type 0} (answer : Holdings → A) (result : Result A PullEnd)
    (old new : Option Holdings) (before now : ℕ) : Type 0 where
  pub same : new ≡ old
  pub tells : (held : Holdings) → old ≡ Some held → Tells (λ a. a ≡ answer held) result
  pub host : IsErrOf result ends.HostFault → ⊥
  pub remote : IsRemotes (IsErrOf result ends.RemoteFault) before now

-- A step of planning, which changes neither host nor remotes; each fault is their own. If the
-- remotes report their content, and the host the objects of its store, the value or the refusal is
-- `answer` of these.
pub record Plans {A : Type 0} (answer : Holdings → Have → Result A Refusal)
    (result : Result A PullEnd) (u w : Outside) : Type 0 where
  pub looks : Looks result u w
  pub tells : (held : Holdings) (stored : Have) → u.holdings ≡ Some held
      → Stores repo u.told stored → Answers result (answer held stored)
