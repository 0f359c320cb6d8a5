use Rattle.std.proofs.Common.{◌≡◌, map}
use Rattle.gv_value.specs.Shape.{tuple}
use Rattle.gv_decode.specs.Stepped.{elements_left, IsOpen}
use Rattle.ost_model.specs.Fields.{dir_in}
use Rattle.ost_model.specs.Readers.{has_both_long}
use Rattle.ost_object.specs.Parts.{dir_shapes, AreLeft, rows_passing}
use Rattle.ost_object.specs.Views.{dir_row}
use Rattle.ost_object.proofs.Rows.{remainder}
use Rattle.ost_object.proofs.reading_rows.dir_rows.Given as goal

abbrev pub invariant-loop-dirs : goal.invariant-loop-dirs
invariant-loop-dirs l = record {
  ready : IsOpen l.left;
  values : AreLeft (tuple dir_shapes) (elements_left l.left);
  so_far : remainder (map dir_row l.dirs.items) (rows_passing has_both_long dir_in (tuple dir_shapes) (elements_left l.left)) ≡ rows_passing has_both_long dir_in (tuple dir_shapes) (elements_left l.rows);
}

abbrev pub decreases-loop-dirs : goal.decreases-loop-dirs
decreases-loop-dirs l = l.left.left
