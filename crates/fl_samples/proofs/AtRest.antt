-- The small installation is at rest, and every stop leaves the exported files of its application.
use Rattle.std.proofs.Common.{◌≡◌, Option, sym, ◌∙◌, subst}
use Rattle.fp_host.specs.Outcome.{shows}
use Rattle.fp_host.specs.Remote.{Holdings}
use Rattle.fp_host.specs.View.{View}
use Rattle.dep_states.specs.Settled.{Settled}
use Rattle.dep_states.proofs.Sparing.{settled_same}
use Rattle.fl_top.specs.Exports.{HasExports, LeavesExports, IsAtRest, IsInStep}
use Rattle.fl_samples.specs.Image.{whole_disk, whole_state}
use Rattle.fl_samples.specs.Views.{whole_view}
use Rattle.fl_samples.proofs.WholeExports.{whole_placed}
use Rattle.fl_samples.proofs.WholeSettled.{whole_settled}
use Rattle.fl_samples.proofs.WholeShown.{whole_shows}
use Rattle.fl_samples.proofs.WholeView.{whole_tree, whole_quiet, whole_seen}

pub whole_exports : HasExports whole_disk
whole_exports = record { state = whole_state; shown = whole_shows; are = whole_placed }

-- ---- at every stop

whole_shown : shows whole_view ≡ whole_disk
whole_shown = λ i p. whole_seen p i

pub whole_at_rest : IsAtRest whole_view
whole_at_rest = record { settled = subst Settled (sym whole_shown) whole_settled; exports = subst HasExports (sym whole_shown) whole_exports }

whole_leaves : LeavesExports whole_view
whole_leaves disk left = subst HasExports (sym (settled_same whole_tree whole_quiet disk left ∙ whole_shown)) whole_exports

pub whole_in_step : (holds : Option Holdings) (u : View) → IsInStep ⊥ holds u whole_view
whole_in_step holds u = record { exports = whole_leaves; rests = λ held is before. whole_at_rest }
