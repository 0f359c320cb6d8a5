use Rattle.std.proofs.Common.{refl}
use Rattle.fp_small.proofs.Ordered.{inserted_on, inserted_here, inserted_last, before-from_ge, not_before-from_ge}
use Rattle.fp_small.proofs.ordering.place_of.Goals as goal

pub loop-place-init : goal.loop-place-init
loop-place-init g c = λ item e. refl

pub loop-place-preserved : goal.loop-place-preserved
loop-place-preserved g c = λ item e. inserted_on g.T.Named.name_of c.args.items.now c.loop-place.place c.index-items-place.result item c.loop-place-test.true c.index-items-place.is
    (rw (c.name.ensures, ← e) at (before-from_ge c.name.result.now c.args.name.now c.ge.result c.ge.ensures c.if-ge.false)) (c.loop-place.invariant item e)

pub returns-then-ge-clause-before : goal.returns-then-ge-clause-before
returns-then-ge-clause-before g c = λ item e. inserted_here g.T.Named.name_of c.args.items.now c.loop-place.place c.index-items-place.result item c.loop-place-test.true c.index-items-place.is
    (rw (c.name.ensures, ← e) at (not_before-from_ge c.name.result.now c.args.name.now c.ge.result c.ge.ensures c.if-ge.true)) (c.loop-place.invariant item e)

pub returns-clause-before : goal.returns-clause-before
returns-clause-before g c = λ item e. inserted_last g.T.Named.name_of c.args.items.now c.loop-place.place item c.loop-place-test.false (c.loop-place.invariant item e)
