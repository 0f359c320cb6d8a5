use Rattle.fl_top.proofs.Joining.{history_sound, history_reached}
use Rattle.fl_top.proofs.laws.runs_join.Goals as goal

pub returns-clause-sound : goal.returns-clause-sound
returns-clause-sound c u w stretches sound history = history_sound sound history

pub returns-clause-reached : goal.returns-clause-reached
returns-clause-reached c u w stretches sound history = history_reached sound history
