use Rattle.std.proofs.Common.{◌≡◌, ◌+◌, ◌*◌, drop}
use Rattle.gv_value.specs.Spelling.{all_fit, each_fits, fits_within}
use Rattle.gv_value.specs.Views.{shape_of, shapes_of, plains}
use Rattle.gv_value.proofs.fitting.+fits.Given as goal

abbrev pub decreases-fits_within : goal.decreases-fits_within
decreases-fits_within l = 3 * l.room

abbrev pub decreases-variant_fits : goal.decreases-variant_fits
decreases-variant_fits l = 3 * l.room + 2

abbrev pub decreases-array_fits : goal.decreases-array_fits
decreases-array_fits l = 3 * l.room + 2

abbrev pub decreases-maybe_fits : goal.decreases-maybe_fits
decreases-maybe_fits l = 3 * l.room + 2

abbrev pub decreases-tuple_fits : goal.decreases-tuple_fits
decreases-tuple_fits l = 3 * l.room + 2

abbrev pub decreases-entry_fits : goal.decreases-entry_fits
decreases-entry_fits l = 3 * l.room + 2

abbrev pub decreases-all_fit : goal.decreases-all_fit
decreases-all_fit l = 3 * l.room + 1

abbrev pub decreases-each_fits : goal.decreases-each_fits
decreases-each_fits l = 3 * l.room + 1

abbrev pub invariant-all_fit-loop-item : goal.invariant-all_fit-loop-item
invariant-all_fit-loop-item l =
    all_fit (fits_within l.room (shape_of l.element)) (plains (drop l.item-index l.items)) ≡ all_fit (fits_within l.room (shape_of l.element)) (plains l.items)

abbrev pub invariant-each_fits-loop-i : goal.invariant-each_fits-loop-i
invariant-each_fits-loop-i l =
    each_fits (fits_within l.room) (shapes_of (drop l.i l.members)) (plains (drop l.i l.items)) ≡ each_fits (fits_within l.room) (shapes_of l.members) (plains l.items)
