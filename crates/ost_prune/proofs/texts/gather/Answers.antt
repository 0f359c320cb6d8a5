use Rattle.std.proofs.Common.{arith}
use Rattle.std.specs.HashSet.{contains_text}
use Rattle.ost_model.proofs.Stored.{still_stored}
use Rattle.fp_host.proofs.Looking.{looks_within}
use Rattle.ost_prune.proofs.Used.{next_gathered, all_gathered, next_refused}
use Rattle.ost_prune.proofs.texts.gather.Goals as goal

pub loop-commit-preserved : goal.loop-commit-preserved
loop-commit-preserved g c =
    let t = g.met.H.Host.is_tree in
    record {
      still = looks_within c.in-Ok.ensures.unchanged c.loop-commit.invariant.still (t c.loop-commit.host);
      later = omega (arith, c.loop-commit.invariant.later, c.add_order.ensures.fault_has_cause.later);
      gathered = λ have s. next_gathered c.args.places.now.root have c.args.keep.now c.loop-commit.commit-index c.commit-item.result (contains_text c.loop-commit.texts) (contains_text c.add_order.new.texts) c.loop-commit-test.true c.commit-item.is
          (c.loop-commit.invariant.gathered have s) (c.in-Ok.ensures.tells have (still_stored c.loop-commit.invariant.still s));
    }

pub returns-in-Err-clause-unchanged : goal.returns-in-Err-clause-unchanged
returns-in-Err-clause-unchanged g c = looks_within c.in-Err.ensures.unchanged c.loop-commit.invariant.still (g.met.H.Host.is_tree c.loop-commit.host)

pub returns-in-Err-clause-tells : goal.returns-in-Err-clause-tells
returns-in-Err-clause-tells g c have s =
    next_refused c.args.places.now.root have c.args.keep.now c.loop-commit.commit-index c.commit-item.result (contains_text c.loop-commit.texts) c.in-Err.end c.loop-commit-test.true c.commit-item.is
    (c.loop-commit.invariant.gathered have s) (c.in-Err.ensures.tells have (still_stored c.loop-commit.invariant.still s))

pub returns-clause-tells : goal.returns-clause-tells
returns-clause-tells g c have s = all_gathered c.args.places.now.root have c.args.keep.now c.loop-commit.commit-index (contains_text c.loop-commit.texts) (omega (arith, c.loop-commit-test.false, c.loop-commit.auto.commit-index-end)) (c.loop-commit.invariant.gathered have s)
