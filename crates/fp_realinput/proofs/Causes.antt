-- What a remote or a source tells nothing of it goes on telling nothing of, and its count gives each failure its cause.
use Rattle.std.proofs.Common.{◌≡◌, ℕ, ◌+◌, ◌-◌, ◌^◌, min, List, Option, Some, None, Result, Ok, Err, IsErrOf}
use Rattle.std.proofs.lemmas.Option.{none-some}
use Rattle.fp_host.specs.Moments.{Rose}
use Rattle.fp_host.specs.Remote.{Takes}
use Rattle.fp_host.specs.declared.remotes.RemoteError.{RemoteError}
use Rattle.fp_host.specs.declared.remotes.RemoteError.TheVariants as remote
use Rattle.fp_host.specs.declared.source.Taken.{Taken}
use Rattle.fp_host.specs.declared.source.Taken.TheVariants as source
use Rattle.fp_host.proofs.Causes.{at_most}
use Rattle.fp_system.specs.Counts.{RemoteCounts, RemoteCountsOf, TakenCounts, TakenCountsOf, one_more}

Rose-from_remote_counts : {T : Type 0} (before now : ℕ) (result : Result T RemoteError) → RemoteCountsOf result before now → IsErrOf result remote.Failed → Rose before now
Rose-from_remote_counts before now (Ok t) how failed = cc
Rose-from_remote_counts before now (Err remote.Failed) how failed = at_most how
Rose-from_remote_counts before now (Err remote.NoMemory) how failed = cc

pub remote_cause : {T : Type 0} {before now : ℕ} {result : Result T RemoteError} → RemoteCounts before now result → IsErrOf result remote.Failed → Rose before now
remote_cause {before = before} {now = now} {result = result} counts = Rose-from_remote_counts before now result counts.how

Rose-from_taken_counts : (before now : ℕ) (taken : Taken) → TakenCountsOf taken before now → taken ≡ source.Failed → Rose before now
Rose-from_taken_counts before now (source.Took n) how failed = cc
Rose-from_taken_counts before now source.End how failed = cc
Rose-from_taken_counts before now source.Failed how failed = at_most how

pub taken_cause : {before now : ℕ} {taken : Taken} → TakenCounts before now taken → taken ≡ source.Failed → Rose before now
taken_cause {before = before} {now = now} {taken = taken} counts = Rose-from_taken_counts before now taken counts.how

pub untold_takes : {into : List ℕ} {taken : Taken} → Takes None None into taken
untold_takes = record {
  told = λ left e. absurd (none-some left e);
  untold = λ after e. absurd (none-some after e);
}
