use Rattle.std.proofs.Common.{take}
use Rattle.std.specs.HashSet.{contains_text}
use Rattle.ost_prune.specs.Texts.{AddsTexts}
use Rattle.ost_prune.proofs.texts.add_texts.Given as goal

abbrev pub invariant-loop-object : goal.invariant-loop-object
invariant-loop-object l = AddsTexts l.root (take l.object-index l.objects) (contains_text l.fn.texts) (contains_text l.texts)
