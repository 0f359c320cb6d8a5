use Rattle.ost_model.proofs.Pending.{walked_dir, walked_end, walked_fault}
use Rattle.ost_model.proofs.laws.walks_meet_the_order.Goals as goal

pub returns-clause-goes_on : goal.returns-clause-goes_on
returns-clause-goes_on c = λ have test commit done o left v w low reads clean. walked_dir o v w low reads clean

pub returns-clause-ends : goal.returns-clause-ends
returns-clause-ends c = λ have test commit done w. walked_end w

pub returns-clause-first : goal.returns-clause-first
returns-clause-first c = λ have test commit done left next more p f w splits found. walked_fault next more w splits found
