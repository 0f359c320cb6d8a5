use Rattle.std.proofs.Common.{sym, subst, map}
use Rattle.std.specs.Prelude.{Result}
use Rattle.gv_value.proofs.Known.{AllBelow-fits}
use Rattle.fp_base.specs.declared.rule.Rule.{Rule}
use Rattle.ost_model.specs.Fields.{TreeView}
use Rattle.ost_object.specs.Answers.{Reads}
use Rattle.ost_object.specs.Views.{file_row, dir_row, tree_view}
use Rattle.ost_object.proofs.Judging.{reads-err}
use Rattle.ost_object.proofs.ReadTrees.{files-break, dirs-break, names-decide}
use Rattle.ost_object.proofs.reading_trees.tree_of_rows.Goals as goal

pub returns-in_err-files : goal.returns-in_err-files
returns-in_err-files c =
    let f = c.args.files.now in
    let d = c.args.dirs.now in
    let e = c.in_err-files.field-0.0 in
    reads-err tree_view c.from_residual.result e _ c.from_residual.ensures.1
    (files-break f d c.requires.files c.requires.dirs (AllBelow-fits f c.type_inv.files) (AllBelow-fits d c.type_inv.dirs) e c.in_err-files.ensures)

pub returns-in_err-dirs : goal.returns-in_err-dirs
returns-in_err-dirs c =
    let f = c.args.files.now in
    let d = c.args.dirs.now in
    let e = c.in_err-dirs.field-0.0 in
    reads-err tree_view c.from_residual-in_err-dirs.result e _ c.from_residual-in_err-dirs.ensures.1
    (dirs-break f d c.requires.files c.requires.dirs (AllBelow-fits f c.type_inv.files) (AllBelow-fits d c.type_inv.dirs)
    (map file_row c.in_ok-files.files.items) c.in_ok-files.ensures e c.in_err-dirs.ensures)

pub returns : goal.returns
returns c =
    let f = c.args.files.now in
    let d = c.args.dirs.now in
    let is = names-decide f d c.requires.files c.requires.dirs (AllBelow-fits f c.type_inv.files) (AllBelow-fits d c.type_inv.dirs)
    (map file_row c.in_ok-files.files.items) c.in_ok-files.ensures (map dir_row c.in_ok-dirs.dirs.items) c.in_ok-dirs.ensures in
    subst (λ (r : Result TreeView Rule). Reads tree_view c.named.result r) (sym is) c.named.ensures
