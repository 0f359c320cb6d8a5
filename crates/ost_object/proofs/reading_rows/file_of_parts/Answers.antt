use Rattle.std.proofs.Common.{◌≡◌, ℕ, List, Some, sym, ap, ◌∙◌}
use Rattle.gv_value.proofs.Known.{AllBelow-fits}
use Rattle.fp_base.specs.declared.rule.Rule.TheVariants as broken
use Rattle.ost_object.specs.Views.{file_row}
use Rattle.ost_object.proofs.Judging.{finds-err}
use Rattle.ost_object.proofs.ReadTrees.{file_with, file-passes, file-misses}
use Rattle.ost_object.proofs.reading_rows.file_of_parts.Goals as goal

pub returns-in_err-digest : goal.returns-in_err-digest
returns-in_err-digest c =
    let n = c.args.name.now in
    let d = c.args.digest.now in
    let e = c.in_err-digest.field-0.0 in
    finds-err file_row broken.Digest c.from_residual.result e _ c.from_residual.ensures.1
    (file-misses n d c.requires.name c.requires.digest (AllBelow-fits d c.type_inv.digest) broken.Digest e c.in_err-digest.ensures)

pub returns : goal.returns
returns c =
    let n = c.args.name.now in
    let d = c.args.digest.now in
    file-passes n d c.requires.name c.requires.digest (AllBelow-fits d c.type_inv.digest) c.in_ok-digest.digest c.in_ok-digest.ensures
    ∙ ap (λ (t : List ℕ). Some (file_with t c.in_ok-digest.digest)) (sym c.in_ok-name.ensures)
