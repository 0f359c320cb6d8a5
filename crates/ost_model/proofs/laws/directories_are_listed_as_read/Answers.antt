use Rattle.ost_model.proofs.Pending.{with_heads, as_read}
use Rattle.ost_model.proofs.laws.directories_are_listed_as_read.Goals as goal

pub returns-clause-heads : goal.returns-clause-heads
returns-clause-heads c = with_heads

pub returns-clause-all : goal.returns-clause-all
returns-clause-all c = as_read
