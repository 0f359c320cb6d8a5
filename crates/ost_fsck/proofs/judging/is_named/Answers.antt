use Rattle.fp_host.proofs.Looking.{looks_within}
use Rattle.ost_fsck.proofs.Judged.{named_after, unnamed_after}
use Rattle.ost_fsck.proofs.judging.is_named.Goals as goal

pub returns-then-branch-clause-unchanged : goal.returns-then-branch-clause-unchanged
returns-then-branch-clause-unchanged g c = looks_within c.has_object.ensures.unchanged c.are_bits_good.ensures.unchanged (g.met.H.Host.is_tree c.are_bits_good.new.host)

pub returns-then-branch-clause-tells : goal.returns-then-branch-clause-tells
returns-then-branch-clause-tells g c =
    let t = g.met.H.Host.is_tree in
    named_after c.args.root.now c.in_ok-path.path c.args.digest.now c.args.kind _ c.in_ok-path.ensures _ c.has_object.result c.in_ok-are_bits_good.ensures.tells (t c.args.host.now) (t c.are_bits_good.new.host) c.if-branch.true c.are_bits_good.ensures.unchanged c.has_object.ensures.tells

pub returns-clause-tells : goal.returns-clause-tells
returns-clause-tells g c = unnamed_after c.args.root.now c.in_ok-path.path c.args.digest.now c.args.kind _ c.in_ok-path.ensures c.in_ok-are_bits_good.ensures.tells c.if-branch.false
