use Rattle.std.proofs.Common.{◌≡◌, take}
use Rattle.fl_options.specs.Options.{layer_of}
use Rattle.fl_options.proofs.options.layer_of.Given as goal

abbrev pub invariant-loop-word : goal.invariant-loop-word
invariant-loop-word l = l.layer ≡ layer_of (take l.word-index l.words)
