-- What the end of a function tells, from what the ends of its calls tell.
use Rattle.std.proofs.Common.{◌≡◌, ℕ, ◌≤◌, Option, Result, Err, refl, subst}
use Rattle.std.specs.Prelude.{IsErr, IsErrOf, OnOk}
use Rattle.std.specs.Result.{IsErrAnd}
use Rattle.std.proofs.lemmas.Result.{IfOk-from_err}
use Rattle.fp_host.specs.Paths.{Elements, Slot}
use Rattle.fp_host.specs.View.{View, IsTree}
use Rattle.fp_host.specs.Outcome.{Spot}
use Rattle.fp_host.specs.Moments.{Moments, Goes, Makes, HasCause}
use Rattle.fp_host.specs.Causes.{IsCaused, end_of}
use Rattle.fp_host.specs.Frame.{Keeps, Frame, AtEnd, Observes}
use Rattle.fp_host.specs.declared.host.HostError.{HostError}
use Rattle.fp_host.specs.declared.host.HostError.TheVariants.{Clash}
use Rattle.fp_host.specs.declared.host.HostEnd.{HostEnd}
use Rattle.fp_host.specs.declared.host.HostEnd.TheVariants.{Fault}
use Rattle.fp_host.proofs.Goes.{goes_on, begins, stays, ends, ends_tree, makes_goes}
use Rattle.fp_host.proofs.Cause.{caused, passed_on, by_from}
use Rattle.fp_host.proofs.Framed.{IsTold}

pub ends_goes : {a b : Option Moments} {R Q : View → View → Type 0} → IsTold a → Goes a b R Q → AtEnd Q a b
ends_goes told call = record { goes = begins told call (λ u w t r. tt) (λ u w t r q. q) }

-- a call's clause
pub ends_call : {a b : Option Moments} {S : View → View → Type 0} → IsTold a → Makes S a b → AtEnd S a b
ends_call told call = ends_goes told (makes_goes call)

pub ends_frame : {a b : Option Moments} {G : Elements → Spot → Type 0} {W : Elements → Slot → Type 0} {A : Elements → Type 0} → IsTold a → Frame G W A a b → AtEnd (Keeps G W A) a b
ends_frame told frame = ends_goes told frame.goes

pub ends_looks : {a b : Option Moments} {T : View → Type 0} → IsTold a → Observes T a b → AtEnd (λ u w. (w ≡ u) × T u) a b
ends_looks told looks = ends_goes told looks.goes

pub ends_start : {a : Option Moments} → IsTold a → AtEnd (λ u w. w ≡ u) a a
ends_start told = record { goes = stays told (λ u. tt) (λ u t. refl) }

pub ends_to : {a b : Option Moments} {Q Q' : View → View → Type 0} → AtEnd Q a b → ((u w : View) → Q u w → Q' u w) → AtEnd Q' a b
ends_to first weaker = record { goes = ends first.goes weaker }

-- the last view of a told host is a tree
pub ends_in_tree : {a b : Option Moments} {Q Q' : View → View → Type 0} → IsTold b → AtEnd Q a b → ((u w : View) → IsTree w → Q u w → Q' u w) → AtEnd Q' a b
ends_in_tree told first more = record { goes = ends_tree told first.goes more }

pub ends_on : {a b c : Option Moments} {Q T Q' : View → View → Type 0} → AtEnd T b c → AtEnd Q a b → IsTold b → ((u v w : View) → IsTree v → Q u v → T v w → Q' u w) → AtEnd Q' a c
ends_on second first told step = record { goes = goes_on told first.goes second.goes (λ u v w t r q s. tt) (λ u v w t r q s e. step u v w t q e) }

-- what is known of the last view beside
pub goes_known : {a b : Option Moments} {R T Q : View → View → Type 0} → Goes a b R T → AtEnd Q a b → Goes a b R (λ u w. T u w × Q u w)
goes_known {Q = Q} first second = record {
  untold = first.untold;
  told = λ m e.
      let one = first.told m e in
      let two = second.goes.told m e in
      let same : two.0 ≡ one.0 = cc (one.1, two.1) in
      (one.0, one.1, one.2, (one.3, subst (λ (n : Moments). Q m.now n.now) same two.3));
}

-- what holds of each view holds of the last one
pub goes_last : {a b : Option Moments} {R Q : View → View → Type 0} → Goes a b R Q → Goes a b R R
goes_last first = record {
  untold = first.untold;
  told = λ m e. let one = first.told m e in (one.0, one.1, one.2, one.2.last);
}

-- two things that one end tells
pub ends_both : {a b : Option Moments} {Q T : View → View → Type 0} → AtEnd Q a b → AtEnd T a b → AtEnd (λ u w. Q u w × T u w) a b
ends_both {Q = Q} {T = T} first second = record {
  goes = record {
    untold = first.goes.untold;
    told = λ m e.
        let one = first.goes.told m e in
        let two = second.goes.told m e in
        let same : two.0 ≡ one.0 = cc (one.1, two.1) in
        (one.0, one.1, one.2, (one.3, subst (λ (n : Moments). T m.now n.now) same two.3));
  };
}

-- what is promised at Ok alone, at the exit of an error
pub ends_err : {T E : Type 0} (X : Type 0) (r : Result T E) → IsErr r → OnOk r X
ends_err X r err = IfOk-from_err r (λ t. X) err

-- the fault of a host's call is passed on by a `?`
pub call_caused : {T U : Type 0} {a b c : Option Moments} {Q S : View → View → Type 0} (C D : View → Type 0) (fa fb fc : ℕ) (e : HostError) (s : Result U HostEnd)
    → IsTold a → fa ≤ fb → AtEnd Q a b → Makes S b c → HasCause {T = T} b fb fc (Err e) → IsErrAnd s (λ end. end ≡ end_of e)
    → ((v w : View) → S v w → e ≡ Clash → D v → ⊥) → ((u v : View) → IsTree u → Q u v → C u → D v) → IsCaused (IsErrOf s Fault) a C fa fc
call_caused {T = T} C D fa fb fc e s told le first call cause err clash can = caused {T = T} (IsErrOf s Fault) C D fa fb fc e told le first call cause (by_from e s err) clash can

-- and so is that of a function lower down
pub fault_caused : {T U : Type 0} {a b : Option Moments} {Q : View → View → Type 0} (C D : View → Type 0) (fa fb fc : ℕ) (r : Result T HostEnd) (s : Result U HostEnd)
    → IsTold a → fa ≤ fb → AtEnd Q a b → IsCaused (IsErrOf r Fault) b D fb fc → (IsErrOf s Fault → IsErrOf r Fault) → ((u v : View) → IsTree u → Q u v → C u → D v) → IsCaused (IsErrOf s Fault) a C fa fc
fault_caused C D fa fb fc r s told le first call passes can = passed_on (IsErrOf s Fault) (IsErrOf r Fault) C D fa fb fc told le first call passes can

-- the first view of a told host is a tree
pub from_tree : {a b : Option Moments} {Q : View → View → Type 0} → IsTold a → AtEnd Q a b → AtEnd (λ u w. IsTree u × Q u w) a b
from_tree told first = record { goes = begins told first.goes (λ u w tree r. tt) (λ u w tree r q. (tree, q)) }

-- and so is the last one
pub to_tree : {a b : Option Moments} {Q : View → View → Type 0} → IsTold b → AtEnd Q a b → AtEnd (λ u w. IsTree w × Q u w) a b
to_tree told first = ends_in_tree told first (λ u w tree q. (tree, q))
