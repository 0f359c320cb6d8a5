use Rattle.std.proofs.Common.{◌≡◌, map, sym, subst, refl}
use Rattle.std.specs.Option.{IsSome}
use Rattle.gv_value.specs.Shape.{Shape, tuple}
use Rattle.gv_decode.specs.Stepped.{elements_left, elements_of}
use Rattle.fp_base.specs.declared.rule.Rule.TheVariants as broken
use Rattle.ost_model.specs.Fields.{dir_in}
use Rattle.ost_model.specs.Readers.{has_both_long}
use Rattle.ost_model.specs.Types.{dirs_shape}
use Rattle.ost_object.specs.Answers.{Tries}
use Rattle.ost_object.specs.Parts.{dir_shapes}
use Rattle.ost_object.specs.Views.{dir_row}
use Rattle.ost_object.proofs.ByParts.{checked-short, array-there, all-left, array-passes}
use Rattle.ost_object.proofs.reading_rows.dirs_of.Goals as goal

pub rows_of-requires : goal.rows_of-requires
rows_of-requires c =
    let bytes = c.args.bytes.now in
    record { short = checked-short dirs_shape bytes c.requires; there = subst (λ (s : Shape). IsSome (elements_of s bytes)) (sym c.in_ok-of.ensures) (array-there (tuple dir_shapes) bytes c.requires) }

pub dir_rows-requires : goal.dir_rows-requires
dir_rows-requires c =
    let bytes = c.args.bytes.now in
    let left = elements_left c.in_ok-rows.rows in
    record { ready = c.in_ok-rows.ensures.ready; of = c.in_ok-row.ensures; values = all-left (tuple dir_shapes) bytes left refl c.requires (subst (λ (s : Shape). elements_of s bytes ≡ left) c.in_ok-of.ensures c.in_ok-rows.ensures.found) }

pub returns : goal.returns
returns c =
    let bytes = c.args.bytes.now in
    let left = elements_left c.in_ok-rows.rows in
    let is = array-passes has_both_long dir_in (tuple dir_shapes) bytes left refl c.requires (subst (λ (s : Shape). elements_of s bytes ≡ left) c.in_ok-of.ensures c.in_ok-rows.ensures.found) in
    subst (Tries broken.Digest (λ dirs. map dir_row dirs.items) c.dir_rows.result) is c.dir_rows.ensures
