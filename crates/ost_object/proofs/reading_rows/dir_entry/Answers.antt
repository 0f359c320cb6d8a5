use Rattle.std.proofs.Common.{◌≡◌, Some, option_and_then, sym, ap, ◌∙◌, subst, refl}
use Rattle.gv_value.specs.Tree.{Tree}
use Rattle.gv_value.specs.Views.{shape_of}
use Rattle.gv_decode.specs.Decoded.{slices}
use Rattle.fp_base.specs.declared.rule.Rule.TheVariants as broken
use Rattle.ost_model.specs.Fields.{dir_in}
use Rattle.ost_model.specs.Readers.{has_both_long}
use Rattle.ost_object.specs.Answers.{Tries, passing}
use Rattle.ost_object.specs.Parts.{dir_shapes}
use Rattle.ost_object.specs.Views.{dir_row}
use Rattle.ost_object.proofs.ByParts.{members-there, parts-of}
use Rattle.ost_object.proofs.reading_rows.dir_entry.Goals as goal

pub members_of-requires : goal.members_of-requires
members_of-requires c =
    let there = members-there dir_shapes (shape_of c.args.of.now) c.args.bytes.now c.requires.of c.requires.value in
    record { short = there.0; there = there.1 }

pub dir_of_members-requires : goal.dir_of_members-requires
dir_of_members-requires c =
    let found = c.in_ok-members.ensures ∙ ap (λ xs. Some (slices xs)) (sym c.deref.ensures.value) in
    (parts-of dir_shapes (shape_of c.args.of.now) c.args.bytes.now c.requires.of c.requires.value (slices c.deref.result.now) refl found).each

pub returns : goal.returns
returns c =
    let found = c.in_ok-members.ensures ∙ ap (λ xs. Some (slices xs)) (sym c.deref.ensures.value) in
    let parts = parts-of dir_shapes (shape_of c.args.of.now) c.args.bytes.now c.requires.of c.requires.value (slices c.deref.result.now) refl found in
    subst (λ (v : Tree). Tries broken.Digest dir_row c.dir_of_members.result (option_and_then (passing has_both_long) (dir_in v))) (sym parts.tree) c.dir_of_members.ensures
