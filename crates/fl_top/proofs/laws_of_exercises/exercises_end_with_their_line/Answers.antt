use Rattle.fl_gen.specs.Exercise.{exercise_changes}
use Rattle.fl_change.specs.Answer.{ops_of}
use Rattle.fl_change.specs.Turns.{changing}
use Rattle.fl_change.specs.World.{worlds_after}
use Rattle.fl_top.specs.Exercising.{end_answer}
use Rattle.fl_top.proofs.Followed.{refused_is, done_is}
use Rattle.fl_top.proofs.laws_of_exercises.exercises_end_with_their_line.Goals as goal

pub returns-clause-refused : goal.returns-clause-refused
returns-clause-refused c apps held x r is =
    let a = changing (exercise_changes apps) held x in
    refused_is a (end_answer apps held (worlds_after held x (ops_of a))) r is

pub returns-clause-done : goal.returns-clause-done
returns-clause-done c apps held x none =
    let a = changing (exercise_changes apps) held x in
    done_is a (end_answer apps held (worlds_after held x (ops_of a))) none
