use Rattle.fp_host.proofs.Looking.{looks_within}
use Rattle.ost_pull.proofs.Trusted.{told_if_true, good_there, good_true}
use Rattle.ost_pull.proofs.trusting.check_named.Goals as goal

pub returns-then-is_good_if_true-clause-there : goal.returns-then-is_good_if_true-clause-there
returns-then-is_good_if_true-clause-there g c m at =
    good_there c.args.digest.now _ (told_if_true c.args.root.now c.args.digest.now c.in_ok-got.got c.in_ok-got.ensures.tells (λ o is. c.is_good_if_true.ensures c.if-is_good_if_true.true c.args.digest.now o is) m at)

pub returns-then-is_good_if_true-clause-tells : goal.returns-then-is_good_if_true-clause-tells
returns-then-is_good_if_true-clause-tells g c m at files =
    good_true c.args.root.now c.args.digest.now m.now c.as_bytes-bytes.ensures.good files
    (told_if_true c.args.root.now c.args.digest.now c.in_ok-got.got c.in_ok-got.ensures.tells (λ o is. c.is_good_if_true.ensures c.if-is_good_if_true.true c.args.digest.now o is) m at)

pub returns-clause-unchanged : goal.returns-clause-unchanged
returns-clause-unchanged g c = looks_within c.check_stored.ensures.unchanged c.get.ensures.unchanged (g.met.H.Host.is_tree c.get.new.host)
