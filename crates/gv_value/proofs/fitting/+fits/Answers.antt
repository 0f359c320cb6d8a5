use Rattle.std.proofs.Common.{◌≡◌, ◌-◌, suc, length, ap, ap₂, sym, ◌∙◌, subst}
use Rattle.std.proofs.lemmas.Bool.{eqb-false}
use Rattle.gv_value.specs.Parts.{part_tree, IsHeld}
use Rattle.gv_value.specs.Shape.{Shape}
use Rattle.gv_value.specs.Spelling.{fits_within}
use Rattle.gv_value.specs.Views.{shape_of, plain}
use Rattle.gv_value.specs.declared.parts.Parts.{Parts}
use Rattle.gv_value.proofs.FitSteps.{array_of_bytes, counts_differ, in_room}
use Rattle.gv_value.proofs.fitting.+fits.Goals as goal

pub array_fits-returns-else-is_empty : goal.array_fits-returns-else-is_empty
array_fits-returns-else-is_empty t c =
    subst (λ (p : Parts). c.is_byte.result ≡ fits_within (suc c.args.room) (Shape.array (shape_of c.args.element.now)) (part_tree p)) (sym c.in-Bytes.is)
    (array_of_bytes c.args.room (shape_of c.args.element.now) c.in-Bytes.bytes.now c.is_byte.result c.is_byte.ensures (subst IsHeld c.in-Bytes.is c.requires)
    (eqb-false (length c.in-Bytes.bytes.now) 0 (sym c.if-is_empty.ensures)))

pub each_fits-returns-then-members-items : goal.each_fits-returns-then-members-items
each_fits-returns-then-members-items t c = counts_differ (fits_within c.args.room) c.args.members.now c.args.items.now c.if-members-items.true

pub fits_within-returns-in-Basic : goal.fits_within-returns-in-Basic
fits_within-returns-in-Basic t c = c.basic_fits.ensures c.args.room ∙ ap₂ (fits_within c.args.room) c.in-Basic.ensures c.parts-parts.ensures.tree

pub fits_within-returns-in-Variant : goal.fits_within-returns-in-Variant
fits_within-returns-in-Variant t c =
    in_room c.args.room (shape_of c.args.of.now) (plain c.args.value.now) c.variant_fits.result c.if-room-eq0.false
    (c.variant_fits.ensures ∙ ap₂ (fits_within (suc (c.args.room - 1))) c.in-Variant.ensures c.parts-parts.ensures.tree)

pub fits_within-returns-in-Maybe : goal.fits_within-returns-in-Maybe
fits_within-returns-in-Maybe t c =
    in_room c.args.room (shape_of c.args.of.now) (plain c.args.value.now) c.maybe_fits.result c.if-room-eq0.false
    (c.maybe_fits.ensures ∙ ap₂ (fits_within (suc (c.args.room - 1))) c.in-Maybe.ensures c.parts-parts.ensures.tree)

pub fits_within-returns-in-Entry : goal.fits_within-returns-in-Entry
fits_within-returns-in-Entry t c =
    in_room c.args.room (shape_of c.args.of.now) (plain c.args.value.now) c.entry_fits.result c.if-room-eq0.false
    (c.entry_fits.ensures ∙ ap₂ (fits_within (suc (c.args.room - 1))) c.in-Entry.ensures c.parts-parts.ensures.tree)
