use Rattle.std.proofs.Common.{refl, length}
use Rattle.std.proofs.lemmas.Bool.{le-leb, lt-leb}
use Rattle.fp_keyfile.specs.KeyFile.{text_of}
use Rattle.dep_states.specs.Shown.{small_most}
use Rattle.fl_change.specs.Overrides.{changed_row}
use Rattle.fl_change.proofs.laws_of_overrides.changed_overrides_answer.Goals as goal

pub returns-clause-limit : goal.returns-clause-limit
returns-clause-limit c held x name options long = rw (lt-leb (length (text_of (changed_row x.state.overrides name options).file)) small_most long) refl

pub returns-clause-done : goal.returns-clause-done
returns-clause-done c held x name options short = rw (le-leb (length (text_of (changed_row x.state.overrides name options).file)) small_most short) refl
