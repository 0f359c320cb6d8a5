use Rattle.std.proofs.Common.{◌≡◌, [], take}
use Rattle.fl_context.specs.Grants.{joined}
use Rattle.fl_context.specs.Latest.{mentions_of, merged_onto}
use Rattle.fl_context.proofs.folding.merge.Given as goal

abbrev pub invariant-loop-layer : goal.invariant-loop-layer
invariant-loop-layer l = mentions_of l.latest ≡ merged_onto [] (joined (take l.layer-index l.layers))
