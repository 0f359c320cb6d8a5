-- Calls that only look, one after another.
use Rattle.std.proofs.Common.{◌≡◌, ℕ, List, Option, Some, None, Result, Ok, Err, refl, sym, ap, subst, ◌∙◌, arith}
use Rattle.fp_base.proofs.Options.{or_alone}
use Rattle.fp_host.specs.Paths.{Elements}
use Rattle.fp_host.specs.View.{View}
use Rattle.fp_host.specs.Outcome.{shows}
use Rattle.fp_host.specs.Moments.{Moments, Rose}
use Rattle.fp_host.specs.Remote.{Holdings, nothing}
use Rattle.ost_model.specs.Objects.{Have, store, supply}
use Rattle.fp_host.proofs.Cause.{Rose-later}
use Rattle.fp_host.proofs.Framed.{IsTold}
use Rattle.fp_host.proofs.Looking.{looks_start, looks_within}
use Rattle.ost_walk.specs.declared.ends.WalkEnd.{WalkEnd}
use Rattle.ost_walk.specs.declared.ends.WalkEnd.TheVariants as ends
use Rattle.ost_walk.specs.Ends.{NoFault, Outside, Observes}
use Rattle.ost_model.specs.Remotes.{Supplies, Stores, remote}

-- what was looked at before a result that is no fault
pub looks_to : {A B : Type 0} {first : Result A WalkEnd} {u w : Outside} (result : Result B WalkEnd) → Observes first u w → NoFault result → Observes result u w
looks_to result looks none = record {
  still = looks.still;
  same = looks.same;
  host = record { later = looks.host.later; fault = λ is. absurd (none.host is) };
  remote = record { later = looks.remote.later; rose = λ is. absurd (none.remote is) };
}

-- nothing was looked at
pub looks_none : {A : Type 0} {u : Outside} (result : Result A WalkEnd) → IsTold u.told → NoFault result → Observes result u u
looks_none result told none = record {
  still = looks_start told;
  same = refl;
  host = record { later = omega arith; fault = λ is. absurd (none.host is) };
  remote = record { later = omega arith; rose = λ is. absurd (none.remote is) };
}

-- a value is no fault
pub looks_ok : {A B : Type 0} {first : Result A WalkEnd} {u w : Outside} (b : B) → Observes first u w → Observes (Ok b) u w
looks_ok b looks = looks_to (Ok b) looks (record { host = λ is. absurd (cc is); remote = λ is. absurd (cc is) })

-- an error that is passed on
pub looks_err : {A B : Type 0} {u w : Outside} {end : WalkEnd} → Observes {A = A} (Err end) u w → Observes {A = B} (Err end) u w
looks_err {A = A} {B = B} {end = end} looks = record {
  still = looks.still;
  same = looks.same;
  host = record { later = looks.host.later; fault = λ is. looks.host.fault (again ends.HostFault is) };
  remote = record { later = looks.remote.later; rose = λ is. looks.remote.rose (again ends.RemoteFault is) };
}
  where
    again : (e : WalkEnd) → ◌≡◌ {A = Result B WalkEnd} (Err end) (Err e) → ◌≡◌ {A = Result A WalkEnd} (Err end) (Err e)
    again e is = cc is

-- two calls, one after another, of which the first was no error
pub looks_on : {A B : Type 0} {first : Result A WalkEnd} {second : Result B WalkEnd} {u v w : Outside} → IsTold v.told → Observes first u v → Observes second v w → Observes second u w
looks_on told before after = record {
  still = looks_within after.still before.still told;
  same = after.same ∙ before.same;
  host = record {
    later = omega (arith, before.host.later, after.host.later);
    fault = λ is m at _. let n = before.still.goes.told m at in Rose-later _ _ _ before.host.later (after.host.fault is n.0 n.1 tt);
  };
  remote = record {
    later = omega (arith, before.remote.later, after.remote.later);
    rose = λ is. Rose-later _ _ _ before.remote.later (after.remote.rose is);
  };
}

-- the objects that are given stay the same
pub supplied : {A : Type 0} {first : Result A WalkEnd} {u w : Outside} {root : Elements} {url : Option (List ℕ)} {have : Have} → Observes first u w → Supplies root url u.told u.holdings have → Supplies root url w.told w.holdings have
supplied {root = root} {url = url} looks s =
    let n = looks.still.goes.told s.moments s.told_is in
    record {
      moments = n.0;
      held = s.held;
      told_is = n.1;
      holdings_are = looks.same ∙ s.holdings_are;
      is = s.is ∙ ap (λ (v : View). supply (store root (shows v)) (remote s.held url)) (sym n.3.0);
    }

-- ---- the store alone

supply_alone : (own : Have) (held : Holdings) → supply own (remote held None) ≡ own
supply_alone own held = λ i d kind. or_alone (own d kind) i

-- without a remote the objects are those of the store
pub stored : {root : Elements} {url : Option (List ℕ)} {told : Option Moments} {have : Have} → url ≡ None → Stores root told have → Supplies root url told (Some (λ u p. nothing)) have
stored {root = root} {told = told} {have = have} none s = subst (λ (u : Option (List ℕ)). Supplies root u told (Some (λ u p. nothing)) have) (sym none) (record {
  moments = s.moments;
  held = λ u p. nothing;
  told_is = s.told_is;
  holdings_are = refl;
  is = s.is ∙ sym (supply_alone (store root (shows s.moments.now)) (λ u p. nothing));
})

-- a count that stands at nothing doesn't rise
pub never_rose : Rose 0 0 → ⊥
never_rose r = omega (arith, r)
