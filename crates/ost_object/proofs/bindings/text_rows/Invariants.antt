use Rattle.std.proofs.Common.{◌≡◌, drop}
use Rattle.gv_value.specs.Views.{plains}
use Rattle.ost_model.specs.Fields.{text_in, each_of}
use Rattle.ost_object.proofs.Rows.{remainder}
use Rattle.ost_object.proofs.bindings.text_rows.Given as goal

abbrev pub invariant-loop-value : goal.invariant-loop-value
invariant-loop-value l = each_of text_in (plains l.values) ≡ remainder l.texts.items (each_of text_in (plains (drop l.value-index l.values)))
