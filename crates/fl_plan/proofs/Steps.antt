-- Steps of a plan, one after another.
use Rattle.std.proofs.Common.{◌≡◌, ℕ, List, Option, Some, Result, Ok, Err, sym, ◌∙◌, ap, subst, arith}
use Rattle.fp_host.specs.View.{View}
use Rattle.fp_host.specs.Outcome.{shows}
use Rattle.fp_host.specs.Moments.{Moments}
use Rattle.fp_host.specs.Remote.{Holdings}
use Rattle.fp_host.proofs.Cause.{Rose-later}
use Rattle.fp_host.proofs.Framed.{IsTold}
use Rattle.fp_host.proofs.Looking.{looks_start, looks_within}
use Rattle.fp_small.specs.Places.{repo}
use Rattle.fp_small.specs.declared.refusal.Refusal.{Refusal}
use Rattle.ost_model.specs.Objects.{Have, store, supply}
use Rattle.ost_model.specs.Remotes.{Stores, Supplies, remote}
use Rattle.ost_walk.specs.Ends.{Outside, outside}
use Rattle.ost_walk.specs.declared.pull_end.PullEnd.{PullEnd}
use Rattle.ost_walk.specs.declared.pull_end.PullEnd.TheVariants as ends
use Rattle.ost_walk.specs.PullEnds.{Answers, Looks, NoFault, RefusesBy, Tells}
use Rattle.ost_head.proofs.Looking.{looks_none}
use Rattle.fl_plan.specs.Answers.{and_then, mapped, Asks, Plans}

-- ---- looking

-- what was looked at before a result that is no fault
pub looks_to : {A B : Type 0} {first : Result A PullEnd} {u w : Outside} (result : Result B PullEnd) → Looks first u w → NoFault result → Looks result u w
looks_to result looks none = record {
  unchanged = looks.unchanged;
  same = looks.same;
  host = record { later = looks.host.later; fault = λ is. absurd (none.host is) };
  remote = record { later = looks.remote.later; rose = λ is. absurd (none.remote is) };
}

-- an end is passed on
pub looks_err : {A B : Type 0} {u w : Outside} (end : PullEnd) → Looks {A = A} (Err end) u w → Looks {A = B} (Err end) u w
looks_err {A = A} {B = B} end looks = record {
  unchanged = looks.unchanged;
  same = looks.same;
  host = record { later = looks.host.later; fault = λ is. looks.host.fault (again ends.HostFault is) };
  remote = record { later = looks.remote.later; rose = λ is. looks.remote.rose (again ends.RemoteFault is) };
}
  where
    again : (e : PullEnd) → ◌≡◌ {A = Result B PullEnd} (Err end) (Err e) → ◌≡◌ {A = Result A PullEnd} (Err end) (Err e)
    again e is = cc is

-- two calls, one after another, of which the first was no error
pub looks_on : {A B : Type 0} {first : Result A PullEnd} {second : Result B PullEnd} {u v w : Outside} → IsTold v.told → Looks first u v → Looks second v w → Looks second u w
looks_on told before after = record {
  unchanged = looks_within after.unchanged before.unchanged told;
  same = after.same ∙ before.same;
  host = record {
    later = omega (arith, before.host.later, after.host.later);
    fault = λ is m at _. let n = before.unchanged.goes.told m at in Rose-later _ _ _ before.host.later (after.host.fault is n.0 n.1 tt);
  };
  remote = record {
    later = omega (arith, before.remote.later, after.remote.later);
    rose = λ is. Rose-later _ _ _ before.remote.later (after.remote.rose is);
  };
}

-- the store's objects stay
pub stores_on : {A : Type 0} {first : Result A PullEnd} {u w : Outside} {stored : Have} → Looks first u w → Stores repo u.told stored → Stores repo w.told stored
stores_on looks s =
    let n = looks.unchanged.goes.told s.moments s.told_is in
    record { moments = n.0; told_is = n.1; is = s.is ∙ ap (λ (v : View). store repo (shows v)) (sym n.3.0) }

-- the objects of the store and of the remote at a url
pub supplies : {told : Option Moments} {holds : Option Holdings} {stored : Have} (held : Holdings) (url : List ℕ) → holds ≡ Some held → Stores repo told stored
    → Supplies repo (Some url) told holds (supply stored (remote held (Some url)))
supplies held url is s = record { moments = s.moments; held = held; told_is = s.told_is; holdings_are = is; is = ap (λ (h : Have). supply h (remote held (Some url))) s.is }

-- ---- ends

pub ok_no_fault : {A : Type 0} (a : A) → NoFault {A = A} (Ok a)
ok_no_fault a = record { host = λ is. absurd (cc is); remote = λ is. absurd (cc is) }

pub refused_no_fault : {A : Type 0} (r : Refusal) → NoFault {A = A} (Err (ends.Refused r))
refused_no_fault r = record { host = λ is. absurd (cc is); remote = λ is. absurd (cc is) }

pub starved_no_fault : {A : Type 0} → NoFault {A = A} (Err ends.NoMemory)
starved_no_fault = record { host = λ is. absurd (cc is); remote = λ is. absurd (cc is) }

-- a refusal of a step is that of the whole
pub refused_on : (P Q : Refusal → Type 0) (end : PullEnd) → ((r : Refusal) → P r → Q r) → RefusesBy P end → RefusesBy Q end
refused_on P Q (ends.Refused r) leads is = leads r is
refused_on P Q ends.HostFault leads is = tt
refused_on P Q ends.RemoteFault leads is = tt
refused_on P Q ends.NoMemory leads is = tt

-- ---- steps of a plan

module _ {A B : Type 0} {u w : Outside} where
  -- a step, and what follows it
  pub plans_on : {v : Outside} {first : Holdings → Have → Result A Refusal} {next : Holdings → Have → Result B Refusal} {second : Result B PullEnd} (whole : Holdings → Have → Result B Refusal) (a : A)
      → IsTold v.told → Plans first (Ok a) u v → Plans next second v w
      → ((held : Holdings) (stored : Have) → first held stored ≡ Ok a → whole held stored ≡ next held stored) → Plans whole second u w
  plans_on {second = second} whole a told before after same = record {
    looks = looks_on told before.looks after.looks;
    tells = λ held stored holds stores. subst (Answers second) (sym (same held stored (before.tells held stored holds stores))) (after.tells held stored (before.looks.same ∙ holds) (stores_on before.looks stores));
  }

  -- a step, and what takes nothing but memory
  pub plans_to : {first : Holdings → Have → Result A Refusal} (whole : Holdings → Have → Result B Refusal) (a : A) (result : Result B PullEnd)
      → Plans first (Ok a) u w → NoFault result
      → ((held : Holdings) (stored : Have) → first held stored ≡ Ok a → Answers result (whole held stored)) → Plans whole result u w
  plans_to whole a result before none answers = record {
    looks = looks_to result before.looks none;
    tells = λ held stored holds stores. answers held stored (before.tells held stored holds stores);
  }

  -- a step whose end is that of the whole
  pub plans_err : {first : Holdings → Have → Result A Refusal} (whole : Holdings → Have → Result B Refusal) (end : PullEnd)
      → Plans first (Err end) u w
      → ((held : Holdings) (stored : Have) (r : Refusal) → first held stored ≡ Err r → whole held stored ≡ Err r) → Plans whole (Err end) u w
  plans_err {first = first} whole end before same = record {
    looks = looks_err end before.looks;
    tells = λ held stored holds stores. refused_on (λ r. first held stored ≡ Err r) (λ r. whole held stored ≡ Err r) end (same held stored) (before.tells held stored holds stores);
  }

-- the same by another name
pub plans_same : {A : Type 0} {u w : Outside} {result : Result A PullEnd} {first : Holdings → Have → Result A Refusal} (whole : Holdings → Have → Result A Refusal)
    → ((held : Holdings) (stored : Have) → whole held stored ≡ first held stored) → Plans first result u w → Plans whole result u w
plans_same {result = result} whole same plans = record {
  looks = plans.looks;
  tells = λ held stored holds stores. subst (Answers result) (sym (same held stored)) (plans.tells held stored holds stores);
}

-- what takes nothing but memory
pub plans_none : {A : Type 0} {u : Outside} (whole : Holdings → Have → Result A Refusal) (result : Result A PullEnd) → IsTold u.told → NoFault result
    → ((held : Holdings) (stored : Have) → Answers result (whole held stored)) → Plans whole result u u
plans_none whole result told none answers = record { looks = looks_none result told none; tells = λ held stored holds stores. answers held stored }

-- memory ran out before anything was looked at
pub starved_here : {B : Type 0} {u : Outside} (whole : Holdings → Have → Result B Refusal) → IsTold u.told → Plans whole (Err ends.NoMemory) u u
starved_here whole told = plans_none whole (Err ends.NoMemory) told starved_no_fault (λ held stored. tt)

-- memory ran out after a step
pub plans_starved : {A B : Type 0} {u w : Outside} {first : Holdings → Have → Result A Refusal} (whole : Holdings → Have → Result B Refusal) (a : A)
    → Plans first (Ok a) u w → Plans whole (Err ends.NoMemory) u w
plans_starved whole a before = plans_to whole a (Err ends.NoMemory) before starved_no_fault (λ held stored is. tt)

-- ---- questions to remotes

module _ {A : Type 0} {told : Option Moments} {faults : ℕ} {old new : Option Holdings} {before now : ℕ} where
  -- remotes alone are asked
  pub asks_looks : {answer : Holdings → A} {result : Result A PullEnd} → IsTold told → Asks answer result old new before now → Looks result (outside told faults old before) (outside told faults new now)
  asks_looks is asks = record {
    unchanged = looks_start is;
    same = asks.same;
    host = record { later = omega arith; fault = λ e. absurd (asks.host e) };
    remote = asks.remote;
  }

  -- a question as a step of a plan
  pub asks_plans : {answer : Holdings → A} {result : Result A PullEnd} → IsTold told → Asks answer result old new before now
      → Plans (λ held stored. Ok (answer held)) result (outside told faults old before) (outside told faults new now)
  asks_plans {answer = answer} {result = result} is asks = record {
    looks = asks_looks is asks;
    tells = λ held stored holds stores. go held result (asks.tells held holds);
  }
    where
      ends_by : (held : Holdings) (end : PullEnd) → RefusesBy (λ r. ⊥) end → RefusesBy (λ r. ◌≡◌ {A = Result A Refusal} (Ok (answer held)) (Err r)) end
      ends_by held (ends.Refused r) t = absurd t
      ends_by held ends.HostFault t = tt
      ends_by held ends.RemoteFault t = tt
      ends_by held ends.NoMemory t = tt

      go : (held : Holdings) (r : Result A PullEnd) → Tells (λ x. x ≡ answer held) r → Answers r (Ok (answer held))
      go held (Ok a) t = ap (λ (x : A). Ok x) (sym t)
      go held (Err end) t = ends_by held end t

  -- a question, and what follows it
  pub asks_on : {B : Type 0} {w : Outside} {answer : Holdings → A} {next : Holdings → Have → Result B Refusal} {second : Result B PullEnd} (whole : Holdings → Have → Result B Refusal) (a : A)
      → IsTold told → Asks answer (Ok a) old new before now → Plans next second (outside told faults new now) w
      → ((held : Holdings) (stored : Have) → a ≡ answer held → whole held stored ≡ next held stored) → Plans whole second (outside told faults old before) w
  asks_on {answer = answer} whole a is asks after same = plans_on whole a is (asks_plans is asks) after (λ held stored e. same held stored (inner held e))
    where
      inner : (held : Holdings) → ◌≡◌ {A = Result A Refusal} (Ok (answer held)) (Ok a) → a ≡ answer held
      inner held e = cc e

  -- a question that ends in a fault
  pub asks_err : {B : Type 0} {answer : Holdings → A} (whole : Holdings → Have → Result B Refusal) (end : PullEnd)
      → IsTold told → Asks answer (Err end) old new before now → Plans whole (Err end) (outside told faults old before) (outside told faults new now)
  asks_err {answer = answer} whole end is asks = plans_err whole end (asks_plans is asks) (λ held stored r e. absurd (off held r e))
    where
      off : (held : Holdings) (r : Refusal) → ◌≡◌ {A = Result A Refusal} (Ok (answer held)) (Err r) → ⊥
      off held r e = cc e

-- ---- steps by their answers

pub then_ok : {A B : Type 0} (first : Result A Refusal) (a : A) (next : A → Result B Refusal) → first ≡ Ok a → and_then first next ≡ next a
then_ok first a next is = ap (λ r. and_then r next) is

pub then_err : {A B : Type 0} (first : Result A Refusal) (r : Refusal) (next : A → Result B Refusal) → first ≡ Err r → and_then first next ≡ Err r
then_err first r next is = ap (λ x. and_then x next) is

pub mapped_ok : {A B : Type 0} (first : Result A Refusal) (a : A) (f : A → B) → first ≡ Ok a → mapped f first ≡ Ok (f a)
mapped_ok first a f is = ap (mapped f) is

pub mapped_err : {A B : Type 0} (first : Result A Refusal) (r : Refusal) (f : A → B) → first ≡ Err r → mapped f first ≡ Err r
mapped_err first r f is = ap (mapped f) is
