use Rattle.std.proofs.Common.{Option, refl, ◌∙◌, subst, arith, rules}
use Rattle.fp_host.specs.Remote.{Holdings}
use Rattle.fp_host.proofs.Looking.{looks_start, looks_within}
use Rattle.ost_pull.specs.Batches.{AddsTurn}
use Rattle.ost_pull.proofs.Batched.{next_ready, next_long, none_ready}
use Rattle.ost_pull.proofs.batches.read_batch.Goals as goal

pub loop-at-init : goal.loop-at-init
loop-at-init g c =
    let t = g.met.H.Host.is_tree in
    record {
      still = looks_start (t c.args.host.now);
      same = refl;
      long = search rules;
      ready = none_ready c.args.objects.now _ _;
      later = omega arith;
      remote_later = omega arith;
    }

pub loop-at-preserved : goal.loop-at-preserved
loop-at-preserved g c =
    let t = g.met.H.Host.is_tree in
    let before = c.loop-at.invariant in
    let o = c.index-objects-at.result in
    let adds = subst (λ (holds : Option Holdings). AddsTurn c.args.root.now c.args.url.now (g.H.Host.moments c.add.new.host) holds (o.0, o.1) c.loop-at.batch.turns.items c.add.new.batch.turns.items c.loop-at.batch.items.items c.add.new.batch.items.items) before.same c.in-Ok.ensures.adds in
    record {
      still = looks_within c.add.ensures.unchanged before.still (t c.loop-at.host);
      same = c.add.ensures.same ∙ before.same;
      long = next_long c.loop-at.at (o.0, o.1) c.loop-at.batch.turns.items c.add.new.batch.turns.items c.loop-at.batch.items.items c.add.new.batch.items.items before.long adds;
      ready = next_ready c.args.objects.now c.loop-at.at (o.0, o.1) c.loop-at.batch.turns.items c.add.new.batch.turns.items c.loop-at.batch.items.items c.add.new.batch.items.items c.loop-at-test.true c.index-objects-at.is before.long (t c.loop-at.host) c.add.ensures.unchanged before.ready adds;
      later = omega (arith, before.later, c.add.ensures.fault_has_cause.later);
      remote_later = omega (arith, before.remote_later, c.add.ensures.remote_fault_has_cause.later);
    }

pub returns-in-Err-clause-unchanged : goal.returns-in-Err-clause-unchanged
returns-in-Err-clause-unchanged g c = looks_within c.add.ensures.unchanged c.loop-at.invariant.still (g.met.H.Host.is_tree c.loop-at.host)
