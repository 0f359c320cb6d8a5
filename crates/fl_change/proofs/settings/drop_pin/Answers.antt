use Rattle.std.proofs.Common.{List, ℕ, Contains, IsTrue, ◌↔◌, ap, subst}
use Rattle.fp_small.specs.declared.op.Op.TheVariants as ops
use Rattle.fl_change.proofs.Trying.{pin_lacking, pin_there}
use Rattle.fl_change.proofs.settings.drop_pin.Goals as goal

pub returns-then-not-has_pin-clause-asked : goal.returns-then-not-has_pin-clause-asked
returns-then-not-has_pin-clause-asked c = pin_lacking c.has_pin.result c.args.state.now.pins c.args.pin.now _ (subst (λ (l : List (List ℕ)). (IsTrue c.has_pin.result ↔ Contains l c.args.pin.now)) c.as_slice.ensures c.has_pin.ensures) c.if-not-has_pin.true c.in_ok-copy.ensures

pub returns-clause-asked : goal.returns-clause-asked
returns-clause-asked c = (pin_there c.has_pin.result c.args.state.now.pins c.args.pin.now (subst (λ (l : List (List ℕ)). (IsTrue c.has_pin.result ↔ Contains l c.args.pin.now)) c.as_slice.ensures c.has_pin.ensures) c.if-not-has_pin.false, ap (λ (p : List ℕ). ops.DropPin p) c.in_ok-copy-2.ensures)
