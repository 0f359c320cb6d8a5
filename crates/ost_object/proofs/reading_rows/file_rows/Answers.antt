use Rattle.std.proofs.Common.{◌≡◌, [], ◌∷◌, ◌++◌, map, ap, ◌∙◌, rules}
use Rattle.fp_base.specs.declared.rule.Rule.TheVariants as broken
use Rattle.gv_value.specs.Shape.{Shape, tuple}
use Rattle.gv_decode.specs.Stepped.{elements_left}
use Rattle.ost_model.specs.Fields.{file_in}
use Rattle.ost_model.specs.Readers.{has_long}
use Rattle.ost_object.specs.Parts.{file_shapes, rows_passing}
use Rattle.ost_object.specs.Views.{file_row}
use Rattle.ost_object.proofs.ByParts.{left-there, left-first, next-is, none-is, rows-more, rows-miss, rows-end}
use Rattle.ost_object.proofs.Judging.{finds-err}
use Rattle.ost_object.proofs.Rows.{remainder}
use Rattle.ost_object.proofs.reading_rows.file_rows.Goals as goal

-- the type of a row
abbrev of : Shape
of = tuple file_shapes

pub next_row-requires : goal.next_row-requires
next_row-requires c = let l = c.loop-files in record { ready = l.invariant.ready; there = left-there of (elements_left l.left) l.invariant.values }

pub file_entry-requires : goal.file_entry-requires
file_entry-requires c =
    let l = c.loop-files in
    let x = c.in-Some.row in
    let others = c.in-Some.others in
    let next = next-is c.in_ok-row.field-0 x others l.left (search rules) c.in_ok-row.ensures in
    record { of = c.requires.of; value = (left-first of x.now (elements_left l.left) (elements_left others) next.0 l.invariant.values).0 }

pub returns-in_err-file_entry : goal.returns-in_err-file_entry
returns-in_err-file_entry c =
    let l = c.loop-files in
    let x = c.in-Some.row in
    let others = c.in-Some.others in
    let next = next-is c.in_ok-row.field-0 x others l.left (search rules) c.in_ok-row.ensures in
    let e = c.in_err-file_entry.field-0.0 in
    finds-err (λ files. map file_row files.items) broken.Digest c.from_residual-in_err-file_entry.result e _ c.from_residual-in_err-file_entry.ensures.1
    (rows-miss has_long file_in of file_row l.files.items x.now (elements_left l.left) (elements_left others) _ l.invariant.so_far next.0 broken.Digest e c.in_err-file_entry.ensures)

pub loop-files-preserved : goal.loop-files-preserved
loop-files-preserved c =
    let l = c.loop-files in
    let x = c.in-Some.row in
    let others = c.in-Some.others in
    let next = next-is c.in_ok-row.field-0 x others l.left (search rules) c.in_ok-row.ensures in
    let entry = c.in_ok-file_entry.field-0 in
    let pushed : c.push.new.self.items ≡ l.files.items ++ entry ∷ [] = search rules in
    record {
      ready = next.1.ready;
      values = (left-first of x.now (elements_left l.left) (elements_left others) next.0 l.invariant.values).1;
      so_far = ap (λ xs. remainder (map file_row xs) (rows_passing has_long file_in of (elements_left others))) pushed
          ∙ rows-more has_long file_in of file_row l.files.items x.now (elements_left l.left) (elements_left others) _ l.invariant.so_far next.0 entry c.in_ok-file_entry.ensures;
    }

pub returns : goal.returns
returns c =
    let l = c.loop-files in
    rows-end has_long file_in of file_row l.files.items (elements_left l.left) _ l.invariant.so_far (none-is c.in_ok-row.field-0 l.left (search rules) c.in_ok-row.ensures)
