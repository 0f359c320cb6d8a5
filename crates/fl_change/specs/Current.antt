-- States that an update of all leaves as they are.
use Rattle.std.specs.Prelude.{◌≡◌, ◌⊎◌, ℕ, List, [], ◌∷◌, Bool, true, false, Option, Some, None, Result, Ok, Err}
use Rattle.std.specs.List.{list_all}
use Rattle.std.specs.Str.{bytes_eq}
use Rattle.fp_host.specs.Remote.{Holdings}
use Rattle.fp_host.specs.declared.remotes.RemoteError.{RemoteError}
use Rattle.fp_host.specs.declared.remotes.RemoteError.TheVariants.{Failed, NoMemory}
use Rattle.fp_name.specs.Refs.{Ref}
use Rattle.fp_small.specs.Config.{name_of}
use Rattle.fp_small.specs.declared.refusal.Refusal.{Refusal}
use Rattle.fp_small.specs.declared.refusal.Refusal.TheVariants.{NoSuchRef}
use Rattle.fp_small.specs.declared.state.State.{State}
use Rattle.fp_small.specs.declared.state.RefRow.{RefRow}
use Rattle.fp_small.specs.declared.state.RemoteRow.{RemoteRow}
use Rattle.ost_refs.specs.Offers.{offered}
use Rattle.ost_walk.specs.declared.pull_end.PullEnd.{PullEnd}
use Rattle.ost_walk.specs.declared.pull_end.PullEnd.TheVariants as pulls
use Rattle.dep_states.specs.After.{row_at}
use Rattle.dep_states.specs.Shown.{at_name}
use Rattle.fl_words.specs.declared.command.Change.{Change}
use Rattle.fl_words.specs.declared.command.Change.TheVariants.{UpdateAll}

-- The remote doesn't offer the ref
abbrev pub IsUnoffered : Holdings → RemoteRow → Ref → Type 0
IsUnoffered held remote name =
    (asked : List ℕ) × (missed : Ref) × (offered held remote name ≡ Err (NoSuchRef asked missed))

-- The remote of a deployed ref is gone, doesn't offer the ref, or offers the deployed commit
abbrev pub IsCurrentFrom : Holdings → RefRow → Option RemoteRow → Type 0
IsCurrentFrom held row None = Unit {0}
IsCurrentFrom held row (Some remote) =
    IsUnoffered held remote row.name ⊎ (offered held remote row.name ≡ Ok row.commit)

-- The remote that a deployed ref comes from is gone, doesn't offer the ref, or offers the deployed
-- commit
abbrev pub IsCurrentRow : Holdings → List RemoteRow → RefRow → Type 0
IsCurrentRow held remotes row = IsCurrentFrom held row (at_name name_of remotes row.origin)

-- For each deployed ref, its remote is gone, doesn't offer the ref, or offers the deployed commit
pub record IsCurrent (held : Holdings) (s : State) : Type 0 where
  pub each : (name : Ref) (row : RefRow) → row_at s name ≡ Some row
      → IsCurrentRow held s.remotes row

-- ---- what is known before an update

-- Tests whether the changes are an update of all, and nothing else
abbrev pub updates_all : List Change → Bool
updates_all (UpdateAll ∷ []) = true
updates_all _ = false

-- Tests whether the offered commit is the row's; if nothing is offered, it isn't
abbrev pub is_commit_of : RefRow → Result (List ℕ) Refusal → Bool
is_commit_of row (Ok commit) = bytes_eq row.commit commit
is_commit_of row (Err refusal) = false

-- The result for an offer that failed: a refusal means that the commit isn't offered, a fault of
-- the remote is an error, and anything else is `NoMemory`, since an offer has no fault of the host
abbrev pub declined : PullEnd → Result Bool RemoteError
declined (pulls.Refused refusal) = Ok false
declined pulls.RemoteFault = Err Failed
declined pulls.HostFault = Err NoMemory
declined pulls.NoMemory = Err NoMemory

-- Tests whether the remote, if there is one, offers the deployed commit
abbrev pub is_offered_by : Holdings → RefRow → Option RemoteRow → Bool
is_offered_by held row None = false
is_offered_by held row (Some remote) = is_commit_of row (offered held remote row.name)

-- Tests whether the remote that a deployed ref comes from exists and offers the deployed commit
abbrev pub is_as_offered : Holdings → List RemoteRow → RefRow → Bool
is_as_offered held remotes row = is_offered_by held row (at_name name_of remotes row.origin)

-- Tests whether, for each deployed ref, its remote exists and offers the deployed commit
abbrev pub are_as_offered : Holdings → State → Bool
are_as_offered held s = list_all (is_as_offered held s.remotes) s.refs
