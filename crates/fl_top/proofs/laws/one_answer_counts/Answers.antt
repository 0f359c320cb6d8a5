use Rattle.fl_top.specs.Answer.{answer}
use Rattle.fl_top.proofs.Over.{one_answer, sound_counts, words_count}
use Rattle.fl_top.proofs.laws.one_answer_counts.Goals as goal

pub returns-clause-same : goal.returns-clause-same
returns-clause-same c words given disk shown other one two = one_answer (answer words given) disk shown other one two

pub returns-clause-sound : goal.returns-clause-sound
returns-clause-sound c words given v sound = sound_counts (answer words given) v sound

pub returns-clause-no_command : goal.returns-clause-no_command
returns-clause-no_command c words given disk none = words_count words given disk none
