use Rattle.std.proofs.lemmas.Result.{IfOk-weaker}
use Rattle.fp_host.proofs.Ending.{ends_looks, ends_both, ends_on, ends_to}
use Rattle.fp_host.proofs.Looking.{looks_start, looks_within}
use Rattle.ost_export.proofs.Staged.{both_said, none_said}
use Rattle.ost_export.proofs.staging.is_lacking.Goals as goal

pub returns-in_err-none-clause-unchanged : goal.returns-in_err-none-clause-unchanged
returns-in_err-none-clause-unchanged g c = let t = g.met.H.Host.is_tree in looks_within c.is_absent.ensures.unchanged (looks_start (t c.args.host.now)) (t c.args.host.now)

pub returns-then-none-clause-unchanged : goal.returns-then-none-clause-unchanged
returns-then-none-clause-unchanged g c =
    let t = g.met.H.Host.is_tree in
    looks_within c.is_absent-then-none.ensures.unchanged (looks_within c.is_absent.ensures.unchanged (looks_start (t c.args.host.now)) (t c.args.host.now)) (t c.is_absent.new.host)

pub returns-then-none-clause-tells : goal.returns-then-none-clause-tells
returns-then-none-clause-tells g c =
    let t = g.met.H.Host.is_tree in
    IfOk-weaker c.is_absent-then-none.result _ _
    (λ b tells. ends_on (ends_both tells (ends_looks (t c.is_absent.new.host) c.is_absent-then-none.ensures.unchanged)) (ends_both (ends_looks (t c.args.host.now) c.is_absent.ensures.unchanged) c.in_ok-none.ensures.tells) (t c.is_absent.new.host)
    (λ u v w tree q s. both_said c.args.root.now c.args.work.now (c.args.digest.now, c.args.kind) b c.in_ok-name.ensures c.in_ok-place.ensures c.if-none.true q.0.0 q.1 s.0)) c.is_absent-then-none.ensures.tells

pub returns-clause-unchanged : goal.returns-clause-unchanged
returns-clause-unchanged g c = let t = g.met.H.Host.is_tree in looks_within c.is_absent.ensures.unchanged (looks_start (t c.args.host.now)) (t c.args.host.now)

pub returns-clause-tells : goal.returns-clause-tells
returns-clause-tells g c = ends_to c.in_ok-none.ensures.tells (λ u w said. none_said c.args.root.now c.args.work.now (c.args.digest.now, c.args.kind) u c.in_ok-name.ensures c.if-none.false said)
