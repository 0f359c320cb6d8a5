use Rattle.std.proofs.Common.{rules, ◌≡◌, ◌∷◌, ◌++◌, [], Result, Ok, refl, subst, arith}
use Rattle.fp_host.specs.Moments.{Goes}
use Rattle.fp_host.proofs.Goes.{stays, goes_on}
use Rattle.fp_host.proofs.Cause.{Rose-later}
use Rattle.bus_proxy.specs.declared.proxy.Next.{Next}
use Rattle.bus_proxy.specs.declared.proxy.Next.TheVariants as next
use Rattle.bus_proxy.specs.declared.error.FilterError.{FilterError}
use Rattle.bus_proxy.specs.Arrivals.{events}
use Rattle.bus_proxy.specs.Outs.{forwarded}
use Rattle.bus_proxy.specs.Filters.{Gives}
use Rattle.fl_filter.specs.declared.end.FilterEnd.{FilterEnd}
use Rattle.fl_filter.specs.Printed.{end_by, end_of as end_of_host, PrintsFirst, Printed, remaining}
use Rattle.fl_filter.proofs.Speaking.{by_err}
use Rattle.fl_filter.proofs.Remaining.{ready_none, ready_out, ready_quiet, next_fails, line_fails, none_left, left_of, all_taken, host_fault}
use Rattle.fl_filter.proofs.printing.print_ready.Goals as goal

pub loop-out-init : goal.loop-out-init
loop-out-init g c = record {
  ready = λ s fed taken given at. ready_none c.args.filter.now s fed taken given (g.met.H.Host.is_tree c.args.host.now) at;
  goes = stays (g.met.H.Host.is_tree c.args.host.now) (λ u. tt) (λ u t. tt);
  later = omega arith;
}

pub returns-in_err-out-clause-any_moment : goal.returns-in_err-out-clause-any_moment
returns-in_err-out-clause-any_moment g c = λ s fed taken given lines at remain.
    let r = c.loop-out.invariant.ready s fed taken given at in
    by_err (λ (x : Result (Unit {0}) FilterEnd). Goes (g.H.Host.moments c.args.host.now) (g.H.Host.moments c.loop-out.host) (PrintsFirst lines) (Printed (remaining fed lines) x))
    c.from_residual.result (end_by c.in_err-out.field-0.0) c.from_residual.ensures.1
    (next_fails c.loop-out.filter c.next.new.self s fed r.taken given r.now lines c.in_err-out.field-0.0 remain r.at (c.in_err-out.ensures.at s fed r.taken (given ++ r.now) r.at) (r.far lines remain))

pub loop-out-preserved : goal.loop-out-preserved
loop-out-preserved g c = record {
  ready = λ s fed taken given at.
      let r = c.loop-out.invariant.ready s fed taken given at in
      let is : c.next.result ≡ Ok next.Quiet = search rules in
      ready_quiet c.loop-out.filter c.next.new.self s fed given r
      (subst (λ (x : Result Next FilterError). Gives x c.next.new.self s fed r.taken (given ++ r.now)) is (c.next.ensures.at s fed r.taken (given ++ r.now) r.at));
  goes = c.loop-out.invariant.goes;
  later = c.loop-out.invariant.later;
}

pub loop-out-preserved-in_ok-print_one-in-Out : goal.loop-out-preserved-in_ok-print_one-in-Out
loop-out-preserved-in_ok-print_one-in-Out g c = record {
  ready = λ s fed taken given at.
      let r = c.loop-out.invariant.ready s fed taken given at in
      let is : c.next.result ≡ Ok (next.Out c.in-Out.out) = search rules in
      ready_out c.loop-out.filter c.next.new.self s fed given c.in-Out.out (g.met.H.Host.is_tree c.loop-out.host) r
      (subst (λ (x : Result Next FilterError). Gives x c.next.new.self s fed r.taken (given ++ r.now)) is (c.next.ensures.at s fed r.taken (given ++ r.now) r.at))
      c.in_ok-print_one-in-Out.ensures.any_moment;
  goes = goes_on (g.met.H.Host.is_tree c.loop-out.host) c.loop-out.invariant.goes c.in_ok-print_one-in-Out.ensures.any_moment (λ u v w t a q p. tt) (λ u v w t a q p k. tt);
  later = omega (arith, c.loop-out.invariant.later, c.print_one.ensures.fault_has_cause.later);
}

pub loop-out-preserved-in_ok-print_one-in-Out-2 : goal.loop-out-preserved-in_ok-print_one-in-Out-2
loop-out-preserved-in_ok-print_one-in-Out-2 g c = record {
  ready = λ s fed taken given at.
      let r = c.loop-out.invariant.ready s fed taken given at in
      let is : c.next.result ≡ Ok (next.Out c.in-Out.out) = search rules in
      ready_out c.loop-out.filter c.next.new.self s fed given c.in-Out.out (g.met.H.Host.is_tree c.loop-out.host) r
      (subst (λ (x : Result Next FilterError). Gives x c.next.new.self s fed r.taken (given ++ r.now)) is (c.next.ensures.at s fed r.taken (given ++ r.now) r.at))
      c.in_ok-print_one-in-Out.ensures.any_moment;
  goes = goes_on (g.met.H.Host.is_tree c.loop-out.host) c.loop-out.invariant.goes c.in_ok-print_one-in-Out.ensures.any_moment (λ u v w t a q p. tt) (λ u v w t a q p k. tt);
  later = omega (arith, c.loop-out.invariant.later, c.print_one.ensures.fault_has_cause.later);
}

pub returns-in_err-print_one-in-Out-clause-any_moment : goal.returns-in_err-print_one-in-Out-clause-any_moment
returns-in_err-print_one-in-Out-clause-any_moment g c = λ s fed taken given lines at remain.
    let r = c.loop-out.invariant.ready s fed taken given at in
    let out = c.in-Out.out in
    let is : c.next.result ≡ Ok (next.Out out) = search rules in
    let gives = subst (λ (x : Result Next FilterError). Gives x c.next.new.self s fed r.taken (given ++ r.now)) is (c.next.ensures.at s fed r.taken (given ++ r.now) r.at) in
    let left = left_of c.next.new.self s fed (gives.0 ∷ r.taken) ((given ++ r.now) ++ out ∷ []) gives.2 in
    by_err (λ (x : Result (Unit {0}) FilterEnd). Goes (g.H.Host.moments c.args.host.now) (g.H.Host.moments c.print_one.new.host) (PrintsFirst lines) (Printed (remaining fed lines) x))
    c.from_residual-in_err-print_one-in-Out.result (end_of_host c.in_err-print_one-in-Out.field-0.0) c.from_residual-in_err-print_one-in-Out.ensures.1
    (line_fails fed given r.now left.0 (forwarded s (events fed)) out lines c.in_err-print_one-in-Out.field-0.0 (g.met.H.Host.is_tree c.loop-out.host) remain left.1 (r.far lines remain) c.in_err-print_one-in-Out.ensures.any_moment)

pub returns-in-NotYet-clause-any_moment : goal.returns-in-NotYet-clause-any_moment
returns-in-NotYet-clause-any_moment g c = λ s fed taken given lines at remain.
    let r = c.loop-out.invariant.ready s fed taken given at in
    let is : c.next.result ≡ Ok next.NotYet = search rules in
    let gives = subst (λ (x : Result Next FilterError). Gives x c.next.new.self s fed r.taken (given ++ r.now)) is (c.next.ensures.at s fed r.taken (given ++ r.now) r.at) in
    none_left c.next.new.self s fed r.taken given r.now lines remain gives.0 gives.1 (r.far lines remain)

pub returns-in-NotYet-clause-at : goal.returns-in-NotYet-clause-at
returns-in-NotYet-clause-at g c = λ s fed taken given at.
    let r = c.loop-out.invariant.ready s fed taken given at in
    let is : c.next.result ≡ Ok next.NotYet = search rules in
    let gives = subst (λ (x : Result Next FilterError). Gives x c.next.new.self s fed r.taken (given ++ r.now)) is (c.next.ensures.at s fed r.taken (given ++ r.now) r.at) in
    (all_taken c.next.new.self s fed r.taken (given ++ r.now) gives.0 gives.1.all, record { all = refl; sound = gives.1.sound })

pub returns-in_err-print_one-in-Out-clause-fault_has_cause : goal.returns-in_err-print_one-in-Out-clause-fault_has_cause
returns-in_err-print_one-in-Out-clause-fault_has_cause g c = record {
  later = omega (arith, c.loop-out.invariant.later, c.print_one.ensures.fault_has_cause.later);
  fault = λ faulted m is k.
      let there = c.loop-out.invariant.goes.told m is in
      Rose-later _ _ _ c.loop-out.invariant.later
      (c.in_err-print_one-in-Out.ensures.fault_has_cause.fault
      (host_fault c.in_err-print_one-in-Out.field-0.0 c.from_residual-in_err-print_one-in-Out.result c.from_residual-in_err-print_one-in-Out.ensures.1 faulted) there.0 there.1 tt);
}
