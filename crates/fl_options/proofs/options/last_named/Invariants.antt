use Rattle.std.proofs.Common.{◌≡◌, None, drop}
use Rattle.std.specs.Option.{option_copied}
use Rattle.fl_options.specs.Options.{command_after}
use Rattle.fl_options.proofs.options.last_named.Given as goal

abbrev pub invariant-loop-word : goal.invariant-loop-word
invariant-loop-word l = command_after None l.words ≡ command_after (option_copied l.last) (drop l.word-index l.words)
