use Rattle.std.proofs.Common.{◌≡◌, false, drop}
use Rattle.gv_value.specs.Texts.{are_elements}
use Rattle.gv_value.proofs.texts.are_elements.Given as goal

abbrev pub invariant-loop-letter : goal.invariant-loop-letter
invariant-loop-letter l = are_elements l.begun (drop l.letter-index l.text) ≡ are_elements false l.text
