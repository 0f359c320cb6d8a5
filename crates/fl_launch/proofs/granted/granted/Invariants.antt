use Rattle.std.proofs.Common.{◌≡◌, take}
use Rattle.fl_launch.specs.Granted.{granted}
use Rattle.fl_launch.proofs.granted.granted.Given as goal

abbrev pub invariant-loop-mention : goal.invariant-loop-mention
invariant-loop-mention l = l.kept.items ≡ granted (take l.mention-index l.grants)
