use Rattle.std.proofs.Common.{ℕ, List, [], ◌∷◌, length, ap, arith, length-append}
use Rattle.fp_base.specs.declared.object.ObjKind.{ObjKind}
use Rattle.fp_base.specs.declared.object.ObjKind.TheVariants as kinds
use Rattle.ost_walk.proofs.Listed.{next_listed, all_listed, stopped}
use Rattle.ost_walk.proofs.listing.add_files.Goals as goal

pub returns-in-Err-clause-tells : goal.returns-in-Err-clause-tells
returns-in-Err-clause-tells c have = stopped c.args.files.now c.loop-file.file-index c.file-item.result c.in-Err.end c.loop-file-test.true c.file-item.is (c.loop-file.invariant.listed have) c.in-Err.ensures.tells
    c.in-Err.ensures.refused_unchanged

pub loop-file-preserved : goal.loop-file-preserved
loop-file-preserved c = record {
  listed = λ have. next_listed c.args.files.now c.loop-file.file-index c.file-item.result c.loop-file-test.true c.file-item.is (c.loop-file.invariant.listed have) c.in-Ok.ensures.tells c.in-Ok.ensures.on_success;
  more = omega (arith, c.loop-file.invariant.more, ap (λ (l : List (List ℕ × ObjKind)). length l) c.in-Ok.ensures.on_success, length-append c.loop-file.done.items ((c.file-item.result.digest, kinds.File) ∷ []));
  most = λ le. c.in-Ok.ensures.most;
}

pub returns-clause-tells : goal.returns-clause-tells
returns-clause-tells c have = all_listed c.args.files.now c.loop-file.file-index (omega (arith, c.loop-file-test.false, c.loop-file.auto.file-index-end)) (c.loop-file.invariant.listed have)
