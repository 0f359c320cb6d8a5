use Rattle.std.proofs.Common.{◌≡◌, take}
use Rattle.fl_options.specs.Rules.{policy_of}
use Rattle.fl_options.proofs.words.policy_of.Given as goal

abbrev pub invariant-loop-word : goal.invariant-loop-word
invariant-loop-word l = l.policy ≡ policy_of (take l.word-index l.words)
