use Rattle.fp_name.proofs.Pins.{pin_ref, pin_matches-ref}
use Rattle.fp_name.proofs.laws.refs_are_patterns.Goals as goal

pub returns-clause-pattern : goal.returns-clause-pattern
returns-clause-pattern c = pin_ref

pub returns-clause-alone : goal.returns-clause-alone
returns-clause-alone c = pin_matches-ref
