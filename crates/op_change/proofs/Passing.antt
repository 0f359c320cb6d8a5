-- How a function ends where a part of it does.
use Rattle.std.proofs.Common.{◌≡◌, ◌≤◌, arith, ℕ, Option, Some, Result, Err, refl, sym, ◌∙◌, ap, subst}
use Rattle.std.specs.Prelude.{IsErrOf}
use Rattle.std.specs.Result.{IsErrAnd}
use Rattle.std.proofs.lemmas.Result.{err_from_is_err_and}
use Rattle.fp_host.specs.declared.host.HostEnd.{HostEnd}
use Rattle.fp_host.specs.declared.host.HostEnd.TheVariants as host_ends
use Rattle.fp_host.proofs.Cause.{Rose-later}
use Rattle.fp_small.specs.declared.refusal.Refusal.{Refusal}
use Rattle.ost_walk.specs.Ends.{IsRemotes, Outside}
use Rattle.ost_walk.specs.PullEnds.{of_host, RefusesBy, Looks}
use Rattle.ost_walk.specs.declared.pull_end.PullEnd.{PullEnd}
use Rattle.ost_walk.specs.declared.pull_end.PullEnd.TheVariants as pull_ends
use Rattle.ost_walk.proofs.Ended.{remotes_on}
use Rattle.ost_walk.proofs.PullEnded.{host_refused}
use Rattle.ost_pull.specs.Pulls.{Refuses}

-- ---- a call of the host

no_refusal : (end : HostEnd) (r : Refusal) → of_host end ≡ pull_ends.Refused r → ⊥
no_refusal host_ends.Fault r is = cc is
no_refusal host_ends.NoMemory r is = cc is

no_remote : (end : HostEnd) → of_host end ≡ pull_ends.RemoteFault → ⊥
no_remote host_ends.Fault is = cc is
no_remote host_ends.NoMemory is = cc is

is_fault : (end : HostEnd) → of_host end ≡ pull_ends.HostFault → end ≡ host_ends.Fault
is_fault host_ends.Fault is = refl
is_fault host_ends.NoMemory is = absurd (cc is)

is_starved : (end : HostEnd) → of_host end ≡ pull_ends.NoMemory → end ≡ host_ends.NoMemory
is_starved host_ends.Fault is = absurd (cc is)
is_starved host_ends.NoMemory is = refl

end_is : {T : Type 0} (s : Result T PullEnd) (e x : PullEnd) → IsErrAnd s (λ y. y ≡ e) → IsErrOf s x → e ≡ x
end_is s e x err is = let p = err_from_is_err_and s err in cc (p.1, p.2, is)

pub host_no_refusal : {T : Type 0} (s : Result T PullEnd) (end : HostEnd) → IsErrAnd s (λ e. e ≡ of_host end) → (r : Refusal) → IsErrOf s (pull_ends.Refused r) → ⊥
host_no_refusal s end err r is = no_refusal end r (end_is s (of_host end) (pull_ends.Refused r) err is)

pub host_no_remote : {T : Type 0} (s : Result T PullEnd) (end : HostEnd) → IsErrAnd s (λ e. e ≡ of_host end) → IsErrOf s pull_ends.RemoteFault → ⊥
host_no_remote s end err is = no_remote end (end_is s (of_host end) pull_ends.RemoteFault err is)

pub host_fault : {T U : Type 0} (r : Result T HostEnd) (s : Result U PullEnd) (end : HostEnd) → r ≡ Err end → IsErrAnd s (λ e. e ≡ of_host end) → IsErrOf s pull_ends.HostFault → IsErrOf r host_ends.Fault
host_fault r s end was err is = was ∙ ap (λ (x : HostEnd). Err x) (is_fault end (end_is s (of_host end) pull_ends.HostFault err is))

pub host_starved : {T U : Type 0} (r : Result T HostEnd) (s : Result U PullEnd) (end : HostEnd) → r ≡ Err end → IsErrAnd s (λ e. e ≡ of_host end) → IsErrOf s pull_ends.NoMemory → IsErrOf r host_ends.NoMemory
host_starved r s end was err is = was ∙ ap (λ (x : HostEnd). Err x) (is_starved end (end_is s (of_host end) pull_ends.NoMemory err is))

pub refuses_end : {T : Type 0} (first : Option Refusal) (s : Result T PullEnd) (e : PullEnd) → IsErrAnd s (λ y. y ≡ e) → RefusesBy (λ r. first ≡ Some r) e → Refuses first s
refuses_end first s e err by = let p = err_from_is_err_and s err in subst (Refuses first) (sym p.1) (subst (RefusesBy (λ r. first ≡ Some r)) (sym p.2) by)

pub host_refuses : {T : Type 0} (first : Option Refusal) (s : Result T PullEnd) (end : HostEnd) → IsErrAnd s (λ e. e ≡ of_host end) → Refuses first s
host_refuses first s end err = refuses_end first s (of_host end) err (host_refused first end)

-- ---- an end that is passed on

pub passes : {T U : Type 0} (r : Result T PullEnd) (s : Result U PullEnd) (e x : PullEnd) → r ≡ Err e → IsErrAnd s (λ y. y ≡ e) → IsErrOf s x → IsErrOf r x
passes r s e x was err is = was ∙ ap (λ (y : PullEnd). Err y) (end_is s e x err is)

pub refuses_on : {T U : Type 0} (first : Option Refusal) (r : Result T PullEnd) (s : Result U PullEnd) (e : PullEnd) → r ≡ Err e → IsErrAnd s (λ y. y ≡ e) → Refuses first r → Refuses first s
refuses_on first r s e was err refuses = refuses_end first s e err (subst (Refuses first) was refuses)

pub remotes_after : {F : Type 0} {first before now : ℕ} → first ≤ before → IsRemotes F before now → IsRemotes F first now
remotes_after {first = first} {before = before} {now = now} le cause = record { later = omega (arith, le, cause.later); rose = λ is. Rose-later first before now le (cause.rose is) }

-- ---- what was looked at

module _ {A B : Type 0} {first : Result A PullEnd} {u w : Outside} (looks : Looks first u w) where
  -- at another end
  pub looks_to : (result : Result B PullEnd) → (IsErrOf result pull_ends.HostFault → IsErrOf first pull_ends.HostFault) → (IsErrOf result pull_ends.RemoteFault → IsErrOf first pull_ends.RemoteFault) → Looks result u w
  looks_to result host remote = record {
    unchanged = looks.unchanged;
    same = looks.same;
    host = record { later = looks.host.later; fault = λ is. looks.host.fault (host is) };
    remote = remotes_on remote looks.remote;
  }

  -- where there was no memory after it
  pub looks_starved : (result : Result B PullEnd) → IsErrAnd result (λ e. e ≡ pull_ends.NoMemory) → Looks result u w
  looks_starved result err = let p = err_from_is_err_and result err in
      looks_to result (λ is. absurd (cc (p.1, p.2, is))) (λ is. absurd (cc (p.1, p.2, is)))
