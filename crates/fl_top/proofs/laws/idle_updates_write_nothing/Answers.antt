use Rattle.fl_top.proofs.Idle.{second_answers, second_writes_nothing}
use Rattle.fl_top.proofs.laws.idle_updates_write_nothing.Goals as goal

pub returns-clause-answer : goal.returns-clause-answer
returns-clause-answer c words first given held u v shown was same counts = second_answers words was.update first held was.sound was.holds was.ran given shown same counts

pub returns-clause-unwritten : goal.returns-clause-unwritten
returns-clause-unwritten c words first second held u v w was again step runs = second_writes_nothing words was.update first held was.sound was.holds was.ran second again step runs
