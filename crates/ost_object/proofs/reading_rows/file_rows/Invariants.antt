use Rattle.std.proofs.Common.{◌≡◌, map}
use Rattle.gv_value.specs.Shape.{tuple}
use Rattle.gv_decode.specs.Stepped.{elements_left, IsOpen}
use Rattle.ost_model.specs.Fields.{file_in}
use Rattle.ost_model.specs.Readers.{has_long}
use Rattle.ost_object.specs.Parts.{file_shapes, AreLeft, rows_passing}
use Rattle.ost_object.specs.Views.{file_row}
use Rattle.ost_object.proofs.Rows.{remainder}
use Rattle.ost_object.proofs.reading_rows.file_rows.Given as goal

abbrev pub invariant-loop-files : goal.invariant-loop-files
invariant-loop-files l = record {
  ready : IsOpen l.left;
  values : AreLeft (tuple file_shapes) (elements_left l.left);
  so_far : remainder (map file_row l.files.items) (rows_passing has_long file_in (tuple file_shapes) (elements_left l.left)) ≡ rows_passing has_long file_in (tuple file_shapes) (elements_left l.rows);
}

abbrev pub decreases-loop-files : goal.decreases-loop-files
decreases-loop-files l = l.left.left
