-- When a call over a host may answer a fault.
use Rattle.std.proofs.Common.{◌≡◌, ℕ, ◌≤◌, Option, Some, Err, refl, arith}
use Rattle.std.proofs.Common.{sym, ◌∙◌, ap, subst}
use Rattle.std.specs.Prelude.{IsErrOf, Result}
use Rattle.std.specs.Result.{IsErrAnd}
use Rattle.std.proofs.lemmas.Result.{err_from_is_err_and}
use Rattle.fp_host.specs.Reads.{Reads}
use Rattle.fp_host.specs.Causes.{IsCaused, end_of}
use Rattle.fp_host.specs.declared.host.HostEnd.{HostEnd}
use Rattle.fp_host.specs.declared.host.HostEnd.TheVariants.{Fault}
use Rattle.fp_host.specs.Paths.{Elements}
use Rattle.fp_host.specs.View.{View, IsTree}
use Rattle.fp_host.specs.Calls.{Change, Can, CanCreate, Step, StepOf, Creates, CreatesOf}
use Rattle.fp_host.specs.Moments.{Moments, Makes, Rose, HasCause}
use Rattle.fp_host.specs.Frame.{AtEnd}
use Rattle.fp_host.specs.declared.host.HostError.{HostError}
use Rattle.fp_host.specs.declared.host.HostError.TheVariants.{Failed, Clash, NoMemory}

pub Rose-later : (a b c : ℕ) → a ≤ b → Rose b c → Rose a c
Rose-later a b c le rose = omega arith

clash_of : (change : Change) (e : HostError) (v w : View) → StepOf change (Err e) v w → e ≡ Clash → Can change v → ⊥
clash_of change Clash v w how is can = how.0 can
clash_of change Failed v w how is can = cc
clash_of change NoMemory v w how is can = how

pub clash_step : {change : Change} {e : HostError} {v w : View} → Step change (Err e) v w → e ≡ Clash → Can change v → ⊥
clash_step {change = change} {e = e} {v = v} {w = w} step = clash_of change e v w step.how

create_of : (p : Elements) (mode : ℕ) (e : HostError) (v w : View) → CreatesOf p mode (Err e) v w → e ≡ Clash → CanCreate p mode v → ⊥
create_of p mode Clash v w how is can = how.0 can
create_of p mode Failed v w how is can = cc
create_of p mode NoMemory v w how is can = how

pub clash_create : {p : Elements} {mode : ℕ} {e : HostError} {v w : View} → Creates p mode (Err e) v w → e ≡ Clash → CanCreate p mode v → ⊥
clash_create {p = p} {mode = mode} {e = e} {v = v} {w = w} step = create_of p mode e v w step.how

-- A call that the condition at the start allows doesn't clash, so its fault is the host's.
rose : {T : Type 0} {b c : Option Moments} {Q S : View → View → Type 0} (m : Moments) (C D : View → Type 0) (fa fb fc : ℕ) (e : HostError)
    → IsTree m.now → fa ≤ fb → AtEnd Q (Some m) b → Makes S b c → HasCause {T = T} b fb fc (Err e) → end_of e ≡ Fault
    → ((v w : View) → S v w → e ≡ Clash → D v → ⊥) → ((u v : View) → IsTree u → Q u v → C u → D v) → C m.now → Rose fa fc
rose m C D fa fb fc Failed tree le first second cause fault clash can cond = Rose-later fa fb fc le (cause.failed refl)
rose m C D fa fb fc NoMemory tree le first second cause fault clash can cond = absurd (cc fault)
rose m C D fa fb fc Clash tree le first second cause fault clash can cond =
    let one = first.goes.told m refl in
    let two = second.told one.0 one.1 in
    absurd (clash one.0.now two.0.now two.3 refl (can m.now one.0.now tree one.3 cond))

-- the error of a host's call that becomes the end of this function
pub caused : {T : Type 0} {a b c : Option Moments} {Q S : View → View → Type 0} (F : Type 0) (C D : View → Type 0) (fa fb fc : ℕ) (e : HostError)
    → ((m : Moments) → a ≡ Some m → IsTree m.now) → fa ≤ fb → AtEnd Q a b → Makes S b c → HasCause {T = T} b fb fc (Err e) → (F → end_of e ≡ Fault)
    → ((v w : View) → S v w → e ≡ Clash → D v → ⊥) → ((u v : View) → IsTree u → Q u v → C u → D v) → IsCaused F a C fa fc
caused {T = T} {b = b} {Q = Q} F C D fa fb fc e tree le first second cause faulted clash can = record {
  later = omega (arith, cause.later);
  fault = λ is m told cond. rose {T = T} m C D fa fb fc e (tree m told) le (subst (λ (o : Option Moments). AtEnd Q o b) told first) second cause (faulted is) clash can cond;
}

-- at the exit of a `?`
pub by_from : {U : Type 0} (e : HostError) (s : Result U HostEnd) → IsErrAnd s (λ end. end ≡ end_of e) → IsErrOf s Fault → end_of e ≡ Fault
by_from e s err is = let p = err_from_is_err_and s err in cc (p.1, p.2, is)

pub clash_reads : {T : Type 0} (can : Type 0) (told : T → Type 0) (e : HostError) → Reads can told (Err e) → e ≡ Clash → can → ⊥
clash_reads can told Clash reads is ok = reads ok
clash_reads can told Failed reads is ok = cc
clash_reads can told NoMemory reads is ok = cc

-- The fault of a function lower down is passed on, where what is known before it makes its condition hold.
pub passed_on : {a b : Option Moments} {Q : View → View → Type 0} (F E : Type 0) (C D : View → Type 0) (fa fb fc : ℕ)
    → ((m : Moments) → a ≡ Some m → IsTree m.now) → fa ≤ fb → AtEnd Q a b → IsCaused E b D fb fc → (F → E) → ((u v : View) → IsTree u → Q u v → C u → D v) → IsCaused F a C fa fc
passed_on F E C D fa fb fc tree le first call passes can = record {
  later = omega (arith, call.later);
  fault = λ is m told cond.
      let one = first.goes.told m told in
      Rose-later fa fb fc le (call.fault (passes is) one.0 one.1 (can m.now one.0.now (tree m told) one.3 cond));
}

-- the error of a `?` that stays what it is
pub same_fault : {T U : Type 0} (r : Result T HostEnd) (s : Result U HostEnd) (e : HostEnd) → r ≡ Err e → IsErrAnd s (λ end. end ≡ e) → IsErrOf s Fault → IsErrOf r Fault
same_fault r s e is err fault =
    let p = err_from_is_err_and s err in
    let q : p.0 ≡ Fault = cc (p.1, fault) in
    is ∙ ap (λ (x : HostEnd). Err x) (sym p.2 ∙ q)
