use Rattle.fl_gen.specs.Exercise.{install_of}
use Rattle.fl_gen.proofs.Counting.{starts, series_push}
use Rattle.fl_gen.proofs.commands.push_installs.Goals as goal

pub loop-number-init : goal.loop-number-init
loop-number-init c = starts install_of c.args.changes.now

pub loop-number-preserved : goal.loop-number-preserved
loop-number-preserved c = series_push install_of c.loop-number.number c.args.changes.now c.loop-number.changes c.push.new.self c.in_ok-install.field-0 c.loop-number.invariant c.in_ok-push.ensures.ok c.in_ok-install.ensures
