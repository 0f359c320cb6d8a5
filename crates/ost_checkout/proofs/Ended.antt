-- How a checkout ends where one of its parts does.
use Rattle.std.proofs.Common.{◌≡◌, Result, Err, refl, ◌∙◌, ap}
use Rattle.std.specs.Prelude.{IsErrOf}
use Rattle.std.specs.Result.{IsErrAnd}
use Rattle.std.proofs.lemmas.Result.{err_from_is_err_and}
use Rattle.fp_host.specs.declared.host.HostEnd.{HostEnd}
use Rattle.fp_host.specs.declared.host.HostEnd.TheVariants as host_ends
use Rattle.ost_checkout.specs.declared.ends.CheckoutEnd.{CheckoutEnd}
use Rattle.ost_checkout.specs.declared.ends.CheckoutEnd.TheVariants as ends
use Rattle.ost_checkout.specs.Ends.{of_host}

not_reserved_end : (end : HostEnd) → of_host end ≡ ends.ReservedName → ⊥
not_reserved_end host_ends.Fault is = cc is
not_reserved_end host_ends.NoMemory is = cc is

fault_of_host : (end : HostEnd) → of_host end ≡ ends.Fault → end ≡ host_ends.Fault
fault_of_host host_ends.Fault is = refl
fault_of_host host_ends.NoMemory is = absurd (cc is)

-- a part never says that a name is reserved
pub never_reserved : {T : Type 0} (s : Result T CheckoutEnd) (end : HostEnd) → IsErrAnd s (λ e. e ≡ of_host end) → IsErrOf s ends.ReservedName → ⊥
never_reserved s end err is = let p = err_from_is_err_and s err in not_reserved_end end (cc (p.1, p.2, is))

-- and its fault is passed on
pub host_fault : {T U : Type 0} (r : Result T HostEnd) (s : Result U CheckoutEnd) (end : HostEnd) → r ≡ Err end → IsErrAnd s (λ e. e ≡ of_host end) → IsErrOf s ends.Fault → IsErrOf r host_ends.Fault
host_fault r s end was err fault =
    let p = err_from_is_err_and s err in
    was ∙ ap (λ (x : HostEnd). Err x) (fault_of_host end (cc (p.1, p.2, fault)))
