-- A host that tells nothing of its content, and never fails.
use Rattle.std.proofs.Common.{◌≡◌, refl, None, Result, Ok, Err, IsOk, IsErr, IsErrOf, arith}
use Rattle.fp_host.specs.Moments.{HasCause, NeedsNoMemory}
use Rattle.fp_host.specs.declared.host.HostError.{HostError}
use Rattle.fp_host.specs.declared.host.HostError.TheVariants.{Failed, Clash, NoMemory}

no_error : {T : Type 0} (result : Result T HostError) (e : HostError) → IsOk result → IsErrOf result e → ⊥
no_error (Ok t) e ok is = cc
no_error (Err other) e ok is = cc

-- what is done has no fault
pub done_cause : {T : Type 0} {result : Result T HostError} → IsOk result → HasCause None 0 0 result
done_cause {result = result} ok = record {
  later = omega arith;
  failed = λ failed. absurd (no_error result Failed ok failed);
  clash = λ told clash. absurd (no_error result Clash ok clash);
}

pub done_needs : {T : Type 0} {result : Result T HostError} → IsOk result → NeedsNoMemory result
done_needs {result = result} ok starved = no_error result NoMemory ok starved

no_other : {T : Type 0} (result : Result T HostError) (e : HostError) → (NoMemory ≡ e → ⊥) → (IsErr result → IsErrOf result NoMemory) → IsErrOf result e → ⊥
no_other (Ok t) e other starved is = cc
no_other (Err x) e other starved is = let is_starved = starved refl in other cc

-- nor has what only lacks memory
pub starved_cause : {T : Type 0} {result : Result T HostError} → (IsErr result → IsErrOf result NoMemory) → HasCause None 0 0 result
starved_cause {result = result} starved = record {
  later = omega arith;
  failed = λ failed. absurd (no_other result Failed (λ e. cc) starved failed);
  clash = λ told clash. absurd (no_other result Clash (λ e. cc) starved clash);
}
