use Rattle.std.proofs.Common.{◌≡◌, ◌+◌, ◌-◌, ◌&&◌, drop, ap, sym, ◌∙◌, arith}
use Rattle.fp_host.specs.Reads.{is_ascending}
use Rattle.fp_host.proofs.Ascending.{is_ascending-drop, is_ascending-last}
use Rattle.fp_system.proofs.names.are_ascending.Goals as goal

pub returns-then-not-is_before : goal.returns-then-not-is_before
returns-then-not-is_before c =
    let step = is_ascending-drop c.args.names.now c.loop-i.i _ _ c.loop-i.auto.i c.loop-i-test.true c.index-names-i.is c.index-names-i-in-loop-i.is in
    sym (c.loop-i.invariant ∙ step ∙ ap (λ b. b && is_ascending (drop c.loop-i.i c.args.names.now)) (sym c.is_before.ensures ∙ c.if-not-is_before.true))

pub loop-i-preserved : goal.loop-i-preserved
loop-i-preserved c =
    let step = is_ascending-drop c.args.names.now c.loop-i.i _ _ c.loop-i.auto.i c.loop-i-test.true c.index-names-i.is c.index-names-i-in-loop-i.is in
    let same : c.loop-i.i ≡ c.loop-i.i + 1 - 1 = omega arith in
    c.loop-i.invariant ∙ step ∙ ap (λ b. b && is_ascending (drop c.loop-i.i c.args.names.now)) (sym c.is_before.ensures ∙ c.if-not-is_before.false) ∙ ap (λ k. is_ascending (drop k c.args.names.now)) same

pub returns : goal.returns
returns c = sym (c.loop-i.invariant ∙ is_ascending-last c.args.names.now (c.loop-i.i - 1) (omega arith))
