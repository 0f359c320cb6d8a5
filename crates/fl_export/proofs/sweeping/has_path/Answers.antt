use Rattle.std.proofs.Common.{inl, inr, ◌∙◌, sym, subst, Contains, List}
use Rattle.std.proofs.lemmas.Bool.{false≢true}
use Rattle.std.proofs.lemmas.List.{take_all}
use Rattle.fp_host.specs.Paths.{Elements}
use Rattle.fl_export.proofs.Swept.{took_cases}
use Rattle.fl_export.proofs.sweeping.has_path.Goals as goal

pub loop-other-preserved : goal.loop-other-preserved
loop-other-preserved c = λ has. elim (took_cases c.args.paths.now c.loop-other.other-index c.other-item.result c.loop-other-test.true c.other-item.is c.args.path.now has) [
  | inl before ↦ c.loop-other.invariant before
  | inr same ↦ false≢true (sym c.if-is_same.false ∙ c.is_same.ensures.1 (sym same))
]

pub returns : goal.returns
returns c = (λ t. absurd (false≢true t), λ has. absurd (c.loop-other.invariant (subst (λ (l : List Elements). Contains l c.args.path.now) (sym (take_all c.loop-other.other-index c.args.paths.now c.loop-other-test.false)) has)))
