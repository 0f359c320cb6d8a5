use Rattle.fl_meta.proofs.Same.{same_exact, same_itself}
use Rattle.fl_meta.proofs.laws.permissions_are_equal_by_parts.Goals as goal

pub returns : goal.returns
returns c = λ p q. (same_exact p q, same_itself p q)
