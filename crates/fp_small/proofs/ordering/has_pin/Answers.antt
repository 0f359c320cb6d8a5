use Rattle.std.proofs.Common.{◌∙◌, sym, ℕ, List, Contains, subst}
use Rattle.std.proofs.lemmas.Bool.{false≢true}
use Rattle.std.proofs.lemmas.List.{take_all}
use Rattle.fp_small.proofs.NamingLemmas.{not_further}
use Rattle.fp_small.proofs.ordering.has_pin.Goals as goal

pub loop-other-preserved : goal.loop-other-preserved
loop-other-preserved c = not_further c.args.pins.now c.args.pin.now c.other-item.result c.loop-other.other-index c.loop-other-test.true c.loop-other.invariant c.other-item.is (rw (c.as_str.ensures.text, c.as_str-in-loop-other.ensures.text) at (sym c.if-eq.false ∙ c.eq.ensures))

pub returns : goal.returns
returns c = (λ t. absurd (false≢true t), λ has. absurd (c.loop-other.invariant (subst (λ (l : List (List ℕ)). Contains l c.args.pin.now) (sym (take_all c.loop-other.other-index c.args.pins.now c.loop-other-test.false)) has)))
