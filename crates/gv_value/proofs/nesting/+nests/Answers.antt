use Rattle.std.proofs.Common.{ap, sym, ◌∙◌}
use Rattle.gv_value.specs.Shape.{nests_within}
use Rattle.gv_value.specs.Views.{shapes_of}
use Rattle.gv_value.proofs.Nodes.{nests-tuple}
use Rattle.gv_value.proofs.nesting.+nests.Goals as goal

pub nests_within-returns-in-Tuple : goal.nests_within-returns-in-Tuple
nests_within-returns-in-Tuple t c =
    c.all_nest_within.ensures ∙ sym (nests-tuple c.args.room (shapes_of c.in-Tuple.members.now) c.if-room-eq0.false) ∙ ap (nests_within c.args.room) c.in-Tuple.ensures
