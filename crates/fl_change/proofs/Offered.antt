-- Whether a deployed ref stands at what its remote offers.
use Rattle.std.proofs.Common.{◌≡◌, Bool, Option, Result, Ok, Err, IfOk, IsErrOf, refl, sym, ◌∙◌, ap, subst}
use Rattle.fp_host.specs.Remote.{Holdings}
use Rattle.fp_host.specs.declared.remotes.RemoteError.{RemoteError}
use Rattle.fp_host.specs.declared.remotes.RemoteError.TheVariants.{Failed}
use Rattle.fp_small.specs.declared.refusal.Refusal.{Refusal}
use Rattle.fp_small.specs.declared.state.RefRow.{RefRow}
use Rattle.fp_small.specs.declared.state.RemoteRow.{RemoteRow}
use Rattle.ost_refs.specs.Offers.{offered}
use Rattle.ost_walk.specs.PullEnds.{RefusesBy}
use Rattle.ost_walk.specs.declared.pull_end.PullEnd.{PullEnd}
use Rattle.ost_walk.specs.declared.pull_end.PullEnd.TheVariants as pulls
use Rattle.fl_change.specs.Current.{declined, is_commit_of, is_offered_by}

declined_tells : (held : Holdings) (remote : RemoteRow) (row : RefRow) (end : PullEnd) → RefusesBy (λ r. offered held remote row.name ≡ Err r) end → IfOk (declined end) (λ b. b ≡ is_commit_of row (offered held remote row.name))
declined_tells held remote row (pulls.Refused r) is = ap (is_commit_of row) (sym is)
declined_tells held remote row pulls.RemoteFault is = tt
declined_tells held remote row pulls.HostFault is = tt
declined_tells held remote row pulls.NoMemory is = tt

-- the commit that is offered isn't told
pub not_offered : (held : Holdings) (remote : RemoteRow) (row : RefRow) (end : PullEnd) (result : Result Bool RemoteError) → result ≡ declined end → RefusesBy (λ r. offered held remote row.name ≡ Err r) end → IfOk result (λ b. b ≡ is_commit_of row (offered held remote row.name))
not_offered held remote row end result is refused = subst (λ (r : Result Bool RemoteError). IfOk r (λ b. b ≡ is_commit_of row (offered held remote row.name))) (sym is) (declined_tells held remote row end refused)

declined_failed : (end : PullEnd) → declined end ≡ Err Failed → end ≡ pulls.RemoteFault
declined_failed (pulls.Refused r) is = absurd (cc is)
declined_failed pulls.RemoteFault is = refl
declined_failed pulls.HostFault is = absurd (cc is)
declined_failed pulls.NoMemory is = absurd (cc is)

pub offer_failed : (end : PullEnd) (result : Result Bool RemoteError) → result ≡ declined end → IsErrOf result Failed → end ≡ pulls.RemoteFault
offer_failed end result is failed = declined_failed end (sym is ∙ failed)

-- by the remote that is found
pub offered_at : (held : Holdings) (row : RefRow) (found other : Option RemoteRow) (result : Result Bool RemoteError) → found ≡ other → IfOk result (λ b. b ≡ is_offered_by held row found) → IfOk result (λ b. b ≡ is_offered_by held row other)
offered_at held row found other result same tells = subst (λ (o : Option RemoteRow). IfOk result (λ b. b ≡ is_offered_by held row o)) same tells
