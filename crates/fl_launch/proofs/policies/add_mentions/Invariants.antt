use Rattle.std.proofs.Common.{◌≡◌, ◌++◌, take}
use Rattle.fl_launch.specs.Policies.{rules_of}
use Rattle.fl_launch.proofs.policies.add_mentions.Given as goal

abbrev pub invariant-loop-mention : goal.invariant-loop-mention
invariant-loop-mention l = l.policy ≡ l.initial.policy ++ rules_of l.bus (take l.mention-index l.mentions)
