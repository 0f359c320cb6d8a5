use Rattle.std.proofs.Common.{◌≡◌, take}
use Rattle.fl_context.specs.Latest.{mentions_of, merged_onto}
use Rattle.fl_context.proofs.latest.take_layer.Given as goal

abbrev pub invariant-loop-mention : goal.invariant-loop-mention
invariant-loop-mention l = mentions_of l.latest ≡ merged_onto (mentions_of l.initial.latest) (take l.mention-index l.mention-items)
