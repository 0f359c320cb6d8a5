use Rattle.std.proofs.Common.{◌≡◌, ℕ, List, Some, sym, ap, ◌∙◌}
use Rattle.gv_value.proofs.Known.{AllBelow-fits}
use Rattle.fp_base.specs.declared.rule.Rule.TheVariants as broken
use Rattle.ost_object.specs.Views.{dir_row}
use Rattle.ost_object.proofs.Judging.{finds-err}
use Rattle.ost_object.proofs.ReadTrees.{dir_with, dir-passes, tree-misses, meta-misses}
use Rattle.ost_object.proofs.reading_rows.dir_of_parts.Goals as goal

pub returns-in_err-tree : goal.returns-in_err-tree
returns-in_err-tree c =
    let n = c.args.name.now in
    let t = c.args.tree.now in
    let m = c.args.meta.now in
    let e = c.in_err-tree.field-0.0 in
    finds-err dir_row broken.Digest c.from_residual.result e _ c.from_residual.ensures.1
    (tree-misses n t m c.requires.name c.requires.tree c.requires.meta (AllBelow-fits t c.type_inv.tree) (AllBelow-fits m c.type_inv.meta) broken.Digest e c.in_err-tree.ensures)

pub returns-in_err-meta : goal.returns-in_err-meta
returns-in_err-meta c =
    let n = c.args.name.now in
    let t = c.args.tree.now in
    let m = c.args.meta.now in
    let e = c.in_err-meta.field-0.0 in
    finds-err dir_row broken.Digest c.from_residual-in_err-meta.result e _ c.from_residual-in_err-meta.ensures.1
    (meta-misses n t m c.requires.name c.requires.tree c.requires.meta (AllBelow-fits t c.type_inv.tree) (AllBelow-fits m c.type_inv.meta) broken.Digest e c.in_err-meta.ensures)

pub returns : goal.returns
returns c =
    let n = c.args.name.now in
    let t = c.args.tree.now in
    let m = c.args.meta.now in
    dir-passes n t m c.requires.name c.requires.tree c.requires.meta (AllBelow-fits t c.type_inv.tree) (AllBelow-fits m c.type_inv.meta) c.in_ok-tree.tree c.in_ok-meta.meta c.in_ok-tree.ensures c.in_ok-meta.ensures
    ∙ ap (λ (x : List ℕ). Some (dir_with x c.in_ok-tree.tree c.in_ok-meta.meta)) (sym c.in_ok-name.ensures)
