-- What a call that prints leaves.
use Rattle.std.proofs.Common.{◌≡◌, inl, inr, ℕ, List, ◌++◌, Option, Result, Ok, Err, IsErr, IsErrAnd, refl, sym, subst}
use Rattle.fp_host.specs.View.{View}
use Rattle.fp_host.specs.Calls.{says, done, Step, Called}
use Rattle.fp_host.specs.declared.host.HostError.{HostError}
use Rattle.fp_host.specs.declared.host.HostError.TheVariants as error
use Rattle.fp_host.specs.declared.host.HostEnd.{HostEnd}
use Rattle.fp_host.specs.declared.host.HostEnd.TheVariants as end
use Rattle.fp_host.specs.Causes.{end_of}
use Rattle.fp_host.specs.Moments.{Moments, Makes, Goes}
use Rattle.fp_host.proofs.Framed.{IsTold}
use Rattle.fp_host.proofs.Goes.{begins, makes_goes}
use Rattle.fl_change.specs.Says.{Says, WasSaid, SaidBy}
use Rattle.fp_host.proofs.Follow.{follows_refl, follows_say, called}

said_done : (text : List ℕ) (v : View) → Says text v (done (says text) v)
said_done text v = record { printed = inr refl; follows = follows_say v (v.printed ++ text); untouched = record { names = λ q. refl; earlier = λ q. refl; files = λ id. refl; dirty = λ id. refl; stood = refl }; shown = λ q. refl }

said_none : (text : List ℕ) (v : View) → Says text v v
said_none text v = record { printed = inl refl; follows = follows_refl; untouched = record { names = λ q. refl; earlier = λ q. refl; files = λ id. refl; dirty = λ id. refl; stood = refl }; shown = λ q. refl }

says_called : {text : List ℕ} {v w : View} → Called (says text) v w → Says text v w
says_called {text = text} {v = v} call = elim call.went [
  | inl same ↦ subst (Says text v) (sym same) (said_none text v)
  | inr went ↦ elim went.1 [
    | inl half ↦ subst (Says text v) (sym half) (said_none text v)
    | inr all ↦ subst (Says text v) (sym all) (said_done text v)
  ]
]

pub says_step : {text : List ℕ} {r : Result (Unit {0}) HostError} {v w : View} → Step (says text) r v w → Says text v w
says_step step = says_called (called step)

was_done : (text : List ℕ) (v : View) → WasSaid text v (done (says text) v)
was_done text v = record { printed = refl; follows = follows_say v (v.printed ++ text); untouched = record { names = λ q. refl; earlier = λ q. refl; files = λ id. refl; dirty = λ id. refl; stood = refl }; shown = λ q. refl }

pub was_said : {text : List ℕ} {v w : View} → Step (says text) (Ok tt) v w → WasSaid text v w
was_said {text = text} {v = v} step = subst (WasSaid text v) (sym step.how.1) (was_done text v)

-- the clause of a call that prints, by the text that it is to be
says_text : {text piece : List ℕ} {r : Result (Unit {0}) HostError} {v w : View} → piece ≡ text → Step (says piece) r v w → Says text v w
says_text {r = r} {v = v} {w = w} same step = says_step (subst (λ (t : List ℕ). Step (says t) r v w) same step)

said_err : (text : List ℕ) (e : HostError) (r : Result (Unit {0}) HostEnd) (v w : View) → IsErr r → IsErrAnd r (λ end. end ≡ end_of e) → Step (says text) (Err e) v w → SaidBy text r v w
said_err text e (Ok u) v w err is step = absurd (cc err)
said_err text e (Err end.Fault) v w err is step = tt
said_err text error.Failed (Err end.NoMemory) v w err is step = cc is
said_err text error.Clash (Err end.NoMemory) v w err is step = cc is
said_err text error.NoMemory (Err end.NoMemory) v w err is step = absurd step.how

pub goes_err : {a b : Option Moments} (text piece : List ℕ) (e : HostError) (r : Result (Unit {0}) HostEnd) → IsTold a → piece ≡ text → Makes (Step (says piece) (Err e)) a b → IsErr r → IsErrAnd r (λ end. end ≡ end_of e) → Goes a b (Says text) (SaidBy text r)
goes_err text piece e r told same call err is = begins told (makes_goes call) (λ u w t s. says_text same s) (λ u w t s q. said_err text e r u w err is (subst (λ (l : List ℕ). Step (says l) (Err e) u w) same q))

pub goes_ok : {a b : Option Moments} (text piece : List ℕ) → IsTold a → piece ≡ text → Makes (Step (says piece) (Ok tt)) a b → Goes a b (Says text) (WasSaid text)
goes_ok text piece told same call = begins told (makes_goes call) (λ u w t s. says_text same s) (λ u w t s q. was_said (subst (λ (l : List ℕ). Step (says l) (Ok tt) u w) same q))
