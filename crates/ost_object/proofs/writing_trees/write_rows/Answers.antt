use Rattle.std.proofs.Common.{sym, ◌∙◌, refl}
use Rattle.ost_model.specs.Fields.{tree_in}
use Rattle.ost_model.specs.Readers.{tree_breaks}
use Rattle.ost_model.specs.Types.{tree_shape}
use Rattle.ost_object.specs.Views.{rows_view}
use Rattle.ost_object.proofs.OneTree.{tree_value, tree_is, tree_says, rows_are}
use Rattle.ost_object.proofs.Trees.{names_left}
use Rattle.ost_object.proofs.Written.{refused, written, spells_as}
use Rattle.ost_object.proofs.writing_trees.write_rows.Goals as goal

pub returns-in-Some : goal.returns-in-Some
returns-in-Some c =
    let y = rows_view c.args.files.now c.args.dirs.now in
    refused tree_shape tree_in tree_breaks y c.in-Some.rule (names_left y c.in_ok-file_values.ensures.long c.in_ok-dir_values.ensures.long ∙ sym c.broken_name.ensures ∙ c.in-Some.is)

pub returns-in-None : goal.returns-in-None
returns-in-None c =
    let y = rows_view c.args.files.now c.args.dirs.now in
    written tree_shape tree_in tree_breaks c.spelled_rows.result y (tree_value y)
    (names_left y c.in_ok-file_values.ensures.long c.in_ok-dir_values.ensures.long ∙ sym c.broken_name.ensures ∙ c.in-None.is)
    (tree_says y) (λ w fit is. tree_is w y is)
    (spells_as c.spelled_rows.result tree_shape tree_shape _ (tree_value y) refl (rows_are _ _ _ _ c.in_ok-file_values.ensures.values c.in_ok-dir_values.ensures.values) c.spelled_rows.ensures)
