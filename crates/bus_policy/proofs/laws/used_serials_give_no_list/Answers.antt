use Rattle.std.proofs.Common.{◌≡◌, Bool, ap, refl}
use Rattle.std.specs.Prelude.{if◌then◌else◌}
use Rattle.bus_policy.specs.declared.verdict.Verdict.TheVariants as verdict
use Rattle.bus_policy.specs.Driver.{handler_of}
use Rattle.bus_policy.specs.Verdicts.{verdict_in}
use Rattle.bus_policy.proofs.laws.used_serials_give_no_list.Goals as goal

pub returns-clause-silent : goal.returns-clause-silent
unfolding verdict_in handler_of
returns-clause-silent c = λ bytes e. ap (λ (b : Bool). if b then verdict.FilterNameList else verdict.Drop) e

pub returns-clause-answered : goal.returns-clause-answered
unfolding verdict_in handler_of
returns-clause-answered c = λ bytes e. ap (λ (b : Bool). if b then verdict.FilterNameList else verdict.Drop) e

pub returns-clause-unwanted : goal.returns-clause-unwanted
unfolding verdict_in handler_of
returns-clause-unwanted c = λ bytes. refl

pub returns-clause-text : goal.returns-clause-text
unfolding verdict_in handler_of
returns-clause-text c = λ bytes. refl

pub returns-clause-peer : goal.returns-clause-peer
unfolding verdict_in handler_of
returns-clause-peer c = λ bytes. refl
