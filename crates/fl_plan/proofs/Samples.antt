-- The targets, the unused runtimes and the operations of the small installation, computed.
use Rattle.std.proofs.Common.{◌≡◌, [], ◌∷◌, true, false, None, refl}
use Rattle.std.specs.Prelude.{codes}
use Rattle.fp_name.specs.Pins.{pin_matches}
use Rattle.fp_small.specs.declared.op.Op.TheVariants.{Install, Update}
use Rattle.fl_plan.specs.Extensions.{is_done}
use Rattle.fl_plan.specs.Offers.{offer_with}
use Rattle.fl_plan.specs.Plans.{number_after, op_of}
use Rattle.fl_plan.specs.Sample.{app, locale, unneeded, pinned, platform, missing, lab, installation, metas, point, points}
use Rattle.fl_plan.specs.Targets.{targets_of}
use Rattle.fl_plan.specs.Unused.{unused_of}

pub sample_targets : targets_of installation None ≡ locale ∷ unneeded ∷ pinned ∷ platform ∷ app ∷ []
sample_targets = refl

-- ---- what is unused

pub sample_unused : unused_of installation metas (points app) ≡ unneeded ∷ []
unfolding pin_matches
sample_unused = refl

pub sample_of_named : unused_of installation metas (points platform) ≡ unneeded ∷ []
unfolding pin_matches
sample_of_named = refl

pub sample_of_pinned : unused_of installation metas (points pinned) ≡ unneeded ∷ []
unfolding pin_matches
sample_of_pinned = refl

pub sample_of_unused : unused_of installation metas (points unneeded) ≡ locale ∷ unneeded ∷ []
unfolding pin_matches
sample_of_unused = refl

pub sample_no_points : unused_of installation metas [] ≡ locale ∷ unneeded ∷ []
unfolding pin_matches
sample_no_points = refl

-- ---- what is to come

pub sample_filled : is_done installation [] (point (missing ∷ locale ∷ [])) ≡ true
sample_filled = refl

pub sample_open : is_done installation [] (point (missing ∷ [])) ≡ false
sample_open = refl

pub sample_coming : is_done installation (offer_with lab missing [] ∷ []) (point (missing ∷ [])) ≡ true
sample_coming = refl

pub sample_manual : is_done installation [] (record (point (missing ∷ [])) { auto = false }) ≡ true
sample_manual = refl

pub sample_update : op_of installation (offer_with lab app []) ≡ Update app (codes "lab") []
sample_update = refl

pub sample_install : op_of installation (offer_with lab missing []) ≡ Install missing (codes "lab") []
sample_install = refl

pub sample_number : number_after installation (offer_with lab app [] ∷ offer_with lab missing [] ∷ []) ≡ 6
sample_number = refl
