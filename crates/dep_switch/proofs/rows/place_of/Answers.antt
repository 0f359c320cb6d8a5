use Rattle.std.proofs.Common.{refl}
use Rattle.fp_small.proofs.Ordered.{inserted_on, inserted_here, inserted_last, before-from_ge, not_before-from_ge}
use Rattle.dep_switch.proofs.rows.place_of.Goals as goal

pub loop-place-init : goal.loop-place-init
loop-place-init g c = λ row e. refl

pub loop-place-preserved : goal.loop-place-preserved
loop-place-preserved g c = λ row e. inserted_on g.T.Named.name_of c.args.rows.now c.loop-place.place c.index-rows-place.result row c.loop-place-test.true c.index-rows-place.is
    (rw (c.key.ensures, ← e) at (before-from_ge c.key.result.now c.args.name.now c.ge.result c.ge.ensures c.if-ge.false)) (c.loop-place.invariant row e)

pub returns-then-ge-clause-before : goal.returns-then-ge-clause-before
returns-then-ge-clause-before g c = λ row e. inserted_here g.T.Named.name_of c.args.rows.now c.loop-place.place c.index-rows-place.result row c.loop-place-test.true c.index-rows-place.is
    (rw (c.key.ensures, ← e) at (not_before-from_ge c.key.result.now c.args.name.now c.ge.result c.ge.ensures c.if-ge.true)) (c.loop-place.invariant row e)

pub returns-clause-before : goal.returns-clause-before
returns-clause-before g c = λ row e. inserted_last g.T.Named.name_of c.args.rows.now c.loop-place.place row c.loop-place-test.false (c.loop-place.invariant row e)
