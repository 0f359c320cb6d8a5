use Rattle.std.proofs.Common.{◌≡◌, take}
use Rattle.fl_launch.specs.Granted.{known}
use Rattle.fl_launch.proofs.granted.known.Given as goal

abbrev pub invariant-loop-mention : goal.invariant-loop-mention
invariant-loop-mention l = l.kept.items ≡ known (take l.mention-index l.grants)
