-- An adapter tells no content, and its count gives each failure its cause.
use Rattle.std.proofs.Common.{ℕ, ◌+◌, ◌-◌, ◌^◌, min, None, Result, Ok, Err, IsErrOf}
use Rattle.fp_host.specs.Moments.{HasCause, Rose}
use Rattle.fp_host.specs.declared.host.HostError.{HostError}
use Rattle.fp_host.specs.declared.host.HostError.TheVariants.{Failed, Clash, NoMemory}
use Rattle.fp_host.proofs.Untold.{untold}
use Rattle.fp_host.proofs.Causes.{at_most}
use Rattle.fp_system.specs.Counts.{Counts, CountsOf, one_more}

Rose-from_counts : {T : Type 0} (before now : ℕ) (result : Result T HostError) → CountsOf result before now → IsErrOf result Failed → Rose before now
Rose-from_counts before now (Ok t) how failed = cc
Rose-from_counts before now (Err Failed) how failed = at_most how
Rose-from_counts before now (Err Clash) how failed = absurd how
Rose-from_counts before now (Err NoMemory) how failed = cc

never_clashes : {T : Type 0} (before now : ℕ) (result : Result T HostError) → CountsOf result before now → IsErrOf result Clash → ⊥
never_clashes before now (Ok t) how clash = cc
never_clashes before now (Err Failed) how clash = cc
never_clashes before now (Err Clash) how clash = how
never_clashes before now (Err NoMemory) how clash = cc

pub cause : {T : Type 0} {before now : ℕ} {result : Result T HostError} → Counts before now result → HasCause None before now result
cause {before = before} {now = now} {result = result} counts = record {
  later = counts.later;
  failed = λ failed. Rose-from_counts before now result counts.how failed;
  clash = λ untold clash. absurd (never_clashes before now result counts.how clash);
}
