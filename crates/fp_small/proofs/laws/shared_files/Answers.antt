use Rattle.std.proofs.Common.{inl, refl}
use Rattle.fp_small.proofs.Sharing.{shares_same, shares_empty, shares_on, shares_to, shares_made}
use Rattle.fp_small.proofs.laws.shared_files.Goals as goal

pub returns-clause-same : goal.returns-clause-same
returns-clause-same c = λ p v w same. shares_same same

pub returns-clause-empty : goal.returns-clause-empty
returns-clause-empty c = λ p v w keeps. shares_empty keeps

pub returns-clause-on : goal.returns-clause-on
returns-clause-on c = λ p u v w first second keeps. shares_on first second keeps

pub returns-clause-wider : goal.returns-clause-wider
returns-clause-wider c = λ p q u w first. shares_to (λ x is. inl is) first

pub returns-clause-made : goal.returns-clause-made
returns-clause-made c = λ p bytes u w made. shares_made refl made
