-- Which targets of an update of all are passed over.
use Rattle.std.proofs.Common.{◌≡◌, ℕ, List, false, refl}
use Rattle.fp_name.specs.Refs.{Ref}
use Rattle.fp_small.specs.declared.refusal.Refusal.{Refusal}
use Rattle.fp_small.specs.declared.refusal.Refusal.TheVariants as refusals
use Rattle.fl_change.specs.Refs.{is_no_offer}

pub is_no_offer-alone : (r : Refusal) → ((remote : List ℕ) (missed : Ref) → r ≡ refusals.NoSuchRef remote missed → ⊥) → is_no_offer r ≡ false
is_no_offer-alone (refusals.NoSuchRef remote missed) not = absurd (not remote missed refl)
is_no_offer-alone _ not = refl
