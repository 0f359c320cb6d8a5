-- Calls that only look, one after another.
use Rattle.std.proofs.Common.{◌≡◌, ℕ, List, Option, Some, None, Result, Ok, Err, refl, sym, ◌∙◌, ap, subst, arith}
use Rattle.fp_host.proofs.Cause.{Rose-later}
use Rattle.fp_host.proofs.Framed.{IsTold}
use Rattle.fp_host.proofs.Looking.{looks_start, looks_within}
use Rattle.ost_walk.specs.declared.ends.WalkEnd.{WalkEnd}
use Rattle.ost_walk.specs.declared.ends.WalkEnd.TheVariants as walks
use Rattle.ost_walk.specs.Ends.{Outside, Observes}
use Rattle.ost_walk.specs.declared.pull_end.PullEnd.{PullEnd}
use Rattle.ost_walk.specs.declared.pull_end.PullEnd.TheVariants as ends
use Rattle.ost_walk.specs.PullEnds.{of_walk, NoFault, Looks}

-- what was looked at before a result that is no fault
pub looks_to : {A B : Type 0} {first : Result A WalkEnd} {u w : Outside} (result : Result B PullEnd) → Observes first u w → NoFault result → Looks result u w
looks_to result looks none = record {
  unchanged = looks.still;
  same = looks.same;
  host = record { later = looks.host.later; fault = λ is. absurd (none.host is) };
  remote = record { later = looks.remote.later; rose = λ is. absurd (none.remote is) };
}

-- nothing was looked at
pub looks_none : {A : Type 0} {u : Outside} (result : Result A PullEnd) → IsTold u.told → NoFault result → Looks result u u
looks_none result told none = record {
  unchanged = looks_start told;
  same = refl;
  host = record { later = omega arith; fault = λ is. absurd (none.host is) };
  remote = record { later = omega arith; rose = λ is. absurd (none.remote is) };
}

host_of : (end : WalkEnd) → of_walk end ≡ ends.HostFault → end ≡ walks.HostFault
host_of (walks.Refused w) is = absurd (cc is)
host_of walks.HostFault is = refl
host_of walks.RemoteFault is = absurd (cc is)
host_of walks.NoMemory is = absurd (cc is)

remote_of : (end : WalkEnd) → of_walk end ≡ ends.RemoteFault → end ≡ walks.RemoteFault
remote_of (walks.Refused w) is = absurd (cc is)
remote_of walks.HostFault is = absurd (cc is)
remote_of walks.RemoteFault is = refl
remote_of walks.NoMemory is = absurd (cc is)

-- the end of a walk is passed on
pub looks_err : {A B : Type 0} {u w : Outside} (end : WalkEnd) (p : PullEnd) → p ≡ of_walk end → Observes {A = A} (Err end) u w → Looks {A = B} (Err p) u w
looks_err {A = A} {B = B} end p is looks = record {
  unchanged = looks.still;
  same = looks.same;
  host = record { later = looks.host.later; fault = λ e. looks.host.fault (ap (λ (x : WalkEnd). Err x) (host_of end (sym is ∙ same ends.HostFault e))) };
  remote = record { later = looks.remote.later; rose = λ e. looks.remote.rose (ap (λ (x : WalkEnd). Err x) (remote_of end (sym is ∙ same ends.RemoteFault e))) };
}
  where
    same : (q : PullEnd) → ◌≡◌ {A = Result B PullEnd} (Err p) (Err q) → p ≡ q
    same q e = cc e

-- two calls, one after another, of which the first was no error
pub looks_on : {A B : Type 0} {first : Result A WalkEnd} {second : Result B PullEnd} {u v w : Outside} → IsTold v.told → Observes first u v → Looks second v w → Looks second u w
looks_on told before after = record {
  unchanged = looks_within after.unchanged before.still told;
  same = after.same ∙ before.same;
  host = record {
    later = omega (arith, before.host.later, after.host.later);
    fault = λ is m at _. let n = before.still.goes.told m at in Rose-later _ _ _ before.host.later (after.host.fault is n.0 n.1 tt);
  };
  remote = record {
    later = omega (arith, before.remote.later, after.remote.later);
    rose = λ is. Rose-later _ _ _ before.remote.later (after.remote.rose is);
  };
}
