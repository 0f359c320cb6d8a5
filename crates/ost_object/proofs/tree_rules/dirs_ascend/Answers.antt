use Rattle.std.proofs.Common.{◌-◌, sym, ◌∙◌, arith}
use Rattle.ost_model.specs.Readers.{dir_name}
use Rattle.ost_object.specs.Views.{dir_row}
use Rattle.ost_object.proofs.Names.{ascends_end}
use Rattle.ost_object.proofs.tree_rules.dirs_ascend.Goals as goal

pub returns : goal.returns
returns c = sym (ascends_end dir_name dir_row c.args.dirs.now (c.loop-i.i - 1) (grind (arith, c.loop-i-test.false, c.loop-i.invariant.begun))) ∙ c.loop-i.invariant.same
