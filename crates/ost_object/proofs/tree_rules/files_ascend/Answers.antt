use Rattle.std.proofs.Common.{◌-◌, sym, ◌∙◌, arith}
use Rattle.ost_model.specs.Readers.{file_name}
use Rattle.ost_object.specs.Views.{file_row}
use Rattle.ost_object.proofs.Names.{ascends_end}
use Rattle.ost_object.proofs.tree_rules.files_ascend.Goals as goal

pub returns : goal.returns
returns c = sym (ascends_end file_name file_row c.args.files.now (c.loop-i.i - 1) (grind (arith, c.loop-i-test.false, c.loop-i.invariant.begun))) ∙ c.loop-i.invariant.same
