use Rattle.std.proofs.Common.{◌≡◌, ◌+◌, ◌-◌, ◌&&◌, drop, ap, sym, ◌∙◌, arith}
use Rattle.fp_host.specs.Reads.{is_ascending}
use Rattle.fp_host.proofs.Ascending.{is_ascending-drop, is_ascending-last}
use Rattle.fp_small.proofs.old_pins.are_ascending.Goals as goal

pub returns-then-not-comes_before : goal.returns-then-not-comes_before
returns-then-not-comes_before c =
    let step = is_ascending-drop c.args.pins.now c.loop-i.i _ _ c.loop-i.auto.i c.loop-i-test.true c.index-pins-i.is c.index-pins-i-in-loop-i.is in
    sym (c.loop-i.invariant ∙ step ∙ ap (λ b. b && is_ascending (drop c.loop-i.i c.args.pins.now)) (sym c.comes_before.ensures ∙ c.if-not-comes_before.true))

pub loop-i-preserved : goal.loop-i-preserved
loop-i-preserved c =
    let step = is_ascending-drop c.args.pins.now c.loop-i.i _ _ c.loop-i.auto.i c.loop-i-test.true c.index-pins-i.is c.index-pins-i-in-loop-i.is in
    let same : c.loop-i.i ≡ c.loop-i.i + 1 - 1 = omega arith in
    c.loop-i.invariant ∙ step ∙ ap (λ b. b && is_ascending (drop c.loop-i.i c.args.pins.now)) (sym c.comes_before.ensures ∙ c.if-not-comes_before.false) ∙ ap (λ k. is_ascending (drop k c.args.pins.now)) same

pub returns : goal.returns
returns c = sym (c.loop-i.invariant ∙ is_ascending-last c.args.pins.now (c.loop-i.i - 1) (omega arith))
