use Rattle.ost_store.proofs.Gathered.{gathers_made, gathers_nowhere, gathers_placed}
use Rattle.ost_store.proofs.laws.gathered_files.Goals as goal

pub returns-clause-made : goal.returns-clause-made
returns-clause-made c = λ p bytes u w made. gathers_made made

pub returns-clause-nowhere : goal.returns-clause-nowhere
returns-clause-nowhere c = λ p q bytes u w made none gathers. gathers_nowhere made none gathers

pub returns-clause-placed : goal.returns-clause-placed
returns-clause-placed c = λ t p u v w gathers places was. gathers_placed gathers places was
