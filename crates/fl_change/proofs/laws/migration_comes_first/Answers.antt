use Rattle.std.proofs.Common.{refl}
use Rattle.fl_change.proofs.laws.migration_comes_first.Goals as goal

pub returns-clause-migrates : goal.returns-clause-migrates
returns-clause-migrates c held x more next one goes = rw (one, goes) refl

pub returns-clause-stays : goal.returns-clause-stays
returns-clause-stays c held x more two = rw two refl
