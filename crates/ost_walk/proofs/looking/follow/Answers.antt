use Rattle.std.proofs.Common.{◌≡◌, ◌-◌, ℕ, drop, sym, subst, arith}
use Rattle.fp_host.specs.Paths.{Elements}
use Rattle.ost_model.specs.Look.{look_fault}
use Rattle.ost_walk.specs.Ends.{RefusesBy, IsFirst}
use Rattle.ost_walk.specs.Looked.{IsHere}
use Rattle.ost_walk.proofs.Followed.{fault_above, one_less, some_left}
use Rattle.ost_walk.proofs.Quiet.{looks_on, looks_ok, supplied}
use Rattle.ost_walk.proofs.looking.follow.Goals as goal

pub follow_one-requires-clause-some : goal.follow_one-requires-clause-some
follow_one-requires-clause-some g c = some_left c.loop-left.left c.args.path.now c.in_ok-step.step (omega (arith, c.loop-left-test.true)) c.loop-left.invariant.within c.in_ok-step.ensures

pub returns-in-Err-clause-looks : goal.returns-in-Err-clause-looks
returns-in-Err-clause-looks g c = looks_on (g.met.H.Host.is_tree c.loop-left.host) c.loop-left.invariant.looks c.in-Err.ensures.looks

pub returns-in-Err-clause-tells : goal.returns-in-Err-clause-tells
returns-in-Err-clause-tells g c have commit s root =
    let path = c.args.path.now in
    let up = one_less c.loop-left.left path c.in_ok-step.step (omega (arith, c.loop-left-test.true)) c.in_ok-step.ensures in
    fault_above have commit path (c.loop-left.left - 1) c.in-Err.end
    (subst (λ (p : Elements). RefusesBy (IsFirst (look_fault have commit p)) c.in-Err.end) c.in_ok-step.ensures
    (c.in-Err.ensures.tells have commit (supplied c.loop-left.invariant.looks s) (subst (λ (p : Elements). IsHere have commit p c.loop-left.here) (sym up) (c.loop-left.invariant.here have commit s root))))

pub loop-left-preserved : goal.loop-left-preserved
loop-left-preserved g c = record {
  looks = looks_ok tt (looks_on (g.met.H.Host.is_tree c.loop-left.host) c.loop-left.invariant.looks c.in-Ok.ensures.looks);
  within = omega (arith, c.loop-left.invariant.within);
  low = c.in-Ok.ensures.low;
  here = λ have commit s root.
      let up = one_less c.loop-left.left c.args.path.now c.in_ok-step.step (omega (arith, c.loop-left-test.true)) c.in_ok-step.ensures in
      subst (λ (p : Elements). IsHere have commit p c.in-Ok.next) c.in_ok-step.ensures
      (c.in-Ok.ensures.tells have commit (supplied c.loop-left.invariant.looks s) (subst (λ (p : Elements). IsHere have commit p c.loop-left.here) (sym up) (c.loop-left.invariant.here have commit s root)));
}

pub returns-clause-tells : goal.returns-clause-tells
returns-clause-tells g c have commit s root =
    let none : c.loop-left.left ≡ 0 = omega (arith, c.loop-left-test.false) in
    subst (λ (n : ℕ). IsHere have commit (drop n c.args.path.now) c.loop-left.here) none (c.loop-left.invariant.here have commit s root)
