-- How a walk ends.
use Rattle.std.specs.Result.{IsErrAnd}
use Rattle.std.specs.Prelude.{IsErrOf}
use Rattle.std.proofs.Common.{refl, ◌≡◌, ap, Err, sym, Result, ◌∙◌, ℕ}
use Rattle.std.proofs.lemmas.Result.{err_from_is_err_and}
use Rattle.fp_host.specs.declared.host.HostEnd.TheVariants as host_ends
use Rattle.fp_host.specs.declared.host.HostEnd.{HostEnd}
use Rattle.ost_walk.specs.Ends.{of_host, RefusesBy, IsRemotes}
use Rattle.ost_walk.specs.declared.ends.WalkEnd.TheVariants as ends
use Rattle.ost_walk.specs.declared.ends.WalkEnd.{WalkEnd}
use Rattle.ost_walk.specs.declared.ends.WalkFault.{WalkFault}

host_fault : (e : HostEnd) → of_host e ≡ ends.HostFault → e ≡ host_ends.Fault
host_fault host_ends.Fault is = refl
host_fault host_ends.NoMemory is = absurd (cc is)

-- and of one whose end is that of a host's
pub host_end : {T U : Type 0} (r : Result T HostEnd) (s : Result U WalkEnd) (e : HostEnd) → r ≡ Err e → IsErrAnd s (λ end. end ≡ of_host e) → IsErrOf s ends.HostFault → IsErrOf r host_ends.Fault
host_end r s e is err fault =
    let p = err_from_is_err_and s err in
    let q : p.0 ≡ ends.HostFault = cc (p.1, fault) in
    is ∙ ap (λ (y : HostEnd). Err y) (host_fault e (sym p.2 ∙ q))

-- nothing is refused by an end of which nothing is refused
pub never_refused : (P : WalkFault → Type 0) (end : WalkEnd) → RefusesBy (λ w. ⊥) end → RefusesBy P end
never_refused P (ends.Refused w) none = absurd none
never_refused P ends.HostFault none = tt
never_refused P ends.RemoteFault none = tt
never_refused P ends.NoMemory none = tt

pub remotes_on : {F G : Type 0} {before now : ℕ} → (G → F) → IsRemotes F before now → IsRemotes G before now
remotes_on passes cause = record { later = cause.later; rose = λ is. cause.rose (passes is) }
