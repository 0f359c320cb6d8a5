use Rattle.std.proofs.Common.{ap}
use Rattle.fp_name.specs.Refs.{Ref}
use Rattle.fl_words.specs.declared.command.Change.TheVariants as changes
use Rattle.fl_gen.specs.Exercise.{uninstall_of}
use Rattle.fl_gen.proofs.Counting.{starts, series_push}
use Rattle.fl_gen.proofs.commands.push_uninstalls.Goals as goal

pub loop-half-init : goal.loop-half-init
loop-half-init c = starts uninstall_of c.args.changes.now

pub loop-half-preserved : goal.loop-half-preserved
loop-half-preserved c = series_push uninstall_of c.loop-half.half c.args.changes.now c.loop-half.changes c.push.new.self (changes.Uninstall c.in_ok-name.name) c.loop-half.invariant c.in_ok-push.ensures.ok (ap (λ (r : Ref). changes.Uninstall r) c.in_ok-name.ensures)
