use Rattle.std.proofs.Common.{◌≡◌, arith, rules}
use Rattle.std.proofs.lemmas.List.Sums.{count_by-le-length}
use Rattle.fp_host.proofs.Ending.{ends_to}
use Rattle.par_digest.specs.Digests.{item_digests}
use Rattle.ost_fsck.specs.Batches.{seen_by}
use Rattle.ost_fsck.proofs.Batched.{checked}
use Rattle.ost_fsck.proofs.batch.check_batch.Goals as goal

pub returns-clause-few : goal.returns-clause-few
returns-clause-few g c =
    let digests = c.as_slice.result.now in
    omega (arith, c.in_ok-judge_all.ensures.count, count_by-le-length (λ row. (seen_by digests row).is_object) c.in_ok-rows.rows.items, c.in_ok-rows.ensures.long)

pub returns-clause-tells : goal.returns-clause-tells
returns-clause-tells g c =
    let of : c.as_slice.result.now ≡ item_digests c.read_all.new.items.items = search rules in
    ends_to c.in_ok-rows.ensures.tells (λ u w is. checked c.args.root.now c.args.paths.now u c.read_all.new.items.items c.in_ok-rows.rows.items c.as_slice.result.now _ _ _ of is c.in_ok-judge_all.ensures.found c.in_ok-judge_all.ensures.count)
