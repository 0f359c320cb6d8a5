use Rattle.ost_store.proofs.Staying.{held_stays, staged_again, ready_stays, shown_stays}
use Rattle.ost_store.proofs.laws.what_stays_is_kept.Goals as goal

pub returns-clause-held : goal.returns-clause-held
returns-clause-held c = λ q object u w s. held_stays q u w s object

pub returns-clause-staged : goal.returns-clause-staged
returns-clause-staged c = λ q object u w s un. staged_again q u w s object un

pub returns-clause-ready : goal.returns-clause-ready
returns-clause-ready c = λ q d kind u w s tree next un. ready_stays q u w s tree next d kind un

pub returns-clause-shown : goal.returns-clause-shown
returns-clause-shown c = λ q u w s tree next. shown_stays q u w s tree next
