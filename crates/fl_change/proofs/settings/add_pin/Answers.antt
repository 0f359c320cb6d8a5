use Rattle.std.proofs.Common.{◌<◌, ◌≤◌, List, ℕ, length, Contains, IsTrue, ◌↔◌, ap, subst, arith}
use Rattle.fp_small.specs.declared.op.Op.TheVariants as ops
use Rattle.fl_change.proofs.Trying.{pin_exists, pin_full, pin_new}
use Rattle.fl_change.proofs.settings.add_pin.Goals as goal

pub returns-then-has_pin-clause-asked : goal.returns-then-has_pin-clause-asked
returns-then-has_pin-clause-asked c = pin_exists c.has_pin.result c.args.state.now.pins c.args.pin.now _ (subst (λ (l : List (List ℕ)). (IsTrue c.has_pin.result ↔ Contains l c.args.pin.now)) c.as_slice-pins.ensures c.has_pin.ensures) c.if-has_pin.true c.in_ok-copy.ensures

pub returns-then-pins-ge-MOST_PINS-clause-asked : goal.returns-then-pins-ge-MOST_PINS-clause-asked
returns-then-pins-ge-MOST_PINS-clause-asked c = pin_full c.has_pin.result c.args.state.now.pins c.args.pin.now (subst (λ (l : List (List ℕ)). (IsTrue c.has_pin.result ↔ Contains l c.args.pin.now)) c.as_slice-pins.ensures c.has_pin.ensures) c.if-has_pin.false (subst (λ (l : List (List ℕ)). 1024 ≤ length l) c.as_slice-pins.ensures (omega (arith, c.if-pins-ge-MOST_PINS.true)))

pub returns-clause-asked : goal.returns-clause-asked
returns-clause-asked c = (pin_new c.has_pin.result c.args.state.now.pins c.args.pin.now (subst (λ (l : List (List ℕ)). (IsTrue c.has_pin.result ↔ Contains l c.args.pin.now)) c.as_slice-pins.ensures c.has_pin.ensures) c.if-has_pin.false (subst (λ (l : List (List ℕ)). length l < 1024) c.as_slice-pins.ensures (omega (arith, c.if-pins-ge-MOST_PINS.false))), ap (λ (p : List ℕ). ops.AddPin p) c.in_ok-copy-2.ensures)
