use Rattle.std.proofs.Common.{◌+◌, sym, refl, subst, arith, rules}
use Rattle.fp_memhost.proofs.Opened.{StoodFrom, stood_more}
use Rattle.fp_memhost.proofs.opening.remembered.Goals as goal

pub loop-path-preserved : goal.loop-path-preserved
loop-path-preserved c =
    subst (StoodFrom (c.loop-path.path-index + 1) c.args.names.now) (sym c.in_ok-push.ensures.items)
    (stood_more c.loop-path.path-index c.args.names.now c.loop-path.stood.items c.loop-path-item.result _ c.loop-path.invariant (omega arith) c.loop-path-item.is (search rules))
