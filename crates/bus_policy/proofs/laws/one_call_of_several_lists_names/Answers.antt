use Rattle.std.proofs.Common.{◌≡◌, Bool, ap, refl}
use Rattle.std.specs.Prelude.{if◌then◌else◌}
use Rattle.bus_policy.specs.declared.verdict.Verdict.TheVariants as verdict
use Rattle.bus_policy.specs.Driver.{handler_of}
use Rattle.bus_policy.specs.Verdicts.{verdict_in}
use Rattle.bus_policy.proofs.laws.one_call_of_several_lists_names.Goals as goal

pub returns-clause-earlier : goal.returns-clause-earlier
unfolding verdict_in handler_of
returns-clause-earlier c = λ bytes e. ap (λ (b : Bool). if b then verdict.FilterNameList else verdict.Drop) e

pub returns-clause-latest : goal.returns-clause-latest
unfolding verdict_in handler_of
returns-clause-latest c = λ bytes e. ap (λ (b : Bool). if b then verdict.FilterNameList else verdict.Drop) e

pub returns-clause-none : goal.returns-clause-none
unfolding verdict_in handler_of
returns-clause-none c = λ bytes e. ap (λ (b : Bool). if b then verdict.FilterNameList else verdict.Drop) e

pub returns-clause-one : goal.returns-clause-one
unfolding verdict_in handler_of
returns-clause-one c = λ bytes. refl
