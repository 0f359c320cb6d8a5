use Rattle.std.proofs.Common.{◌≡◌, map, sym, subst, refl}
use Rattle.std.specs.Option.{IsSome}
use Rattle.gv_value.specs.Shape.{Shape, tuple}
use Rattle.gv_decode.specs.Stepped.{elements_left, elements_of}
use Rattle.fp_base.specs.declared.rule.Rule.TheVariants as broken
use Rattle.ost_model.specs.Fields.{file_in}
use Rattle.ost_model.specs.Readers.{has_long}
use Rattle.ost_model.specs.Types.{related_shape}
use Rattle.ost_object.specs.Answers.{Tries}
use Rattle.ost_object.specs.Parts.{file_shapes}
use Rattle.ost_object.specs.Views.{file_row}
use Rattle.ost_object.proofs.ByParts.{checked-short, array-there, all-left, array-passes}
use Rattle.ost_object.proofs.reading_rows.files_of.Goals as goal

pub rows_of-requires : goal.rows_of-requires
rows_of-requires c =
    let bytes = c.args.bytes.now in
    record { short = checked-short related_shape bytes c.requires; there = subst (λ (s : Shape). IsSome (elements_of s bytes)) (sym c.in_ok-of.ensures) (array-there (tuple file_shapes) bytes c.requires) }

pub file_rows-requires : goal.file_rows-requires
file_rows-requires c =
    let bytes = c.args.bytes.now in
    let left = elements_left c.in_ok-rows.rows in
    record { ready = c.in_ok-rows.ensures.ready; of = c.in_ok-row.ensures; values = all-left (tuple file_shapes) bytes left refl c.requires (subst (λ (s : Shape). elements_of s bytes ≡ left) c.in_ok-of.ensures c.in_ok-rows.ensures.found) }

pub returns : goal.returns
returns c =
    let bytes = c.args.bytes.now in
    let left = elements_left c.in_ok-rows.rows in
    let is = array-passes has_long file_in (tuple file_shapes) bytes left refl c.requires (subst (λ (s : Shape). elements_of s bytes ≡ left) c.in_ok-of.ensures c.in_ok-rows.ensures.found) in
    subst (Tries broken.Digest (λ files. map file_row files.items) c.file_rows.result) is c.file_rows.ensures
