-- The runtime that is installed along with an application.
use Rattle.std.specs.Prelude.{ℕ, List, Option, Some, None, option_map, Result, Ok, Err, if◌then◌else◌}
use Rattle.fp_host.specs.Remote.{Holdings}
use Rattle.fp_name.specs.Refs.{Ref}
use Rattle.fp_small.specs.declared.op.Op.{Op}
use Rattle.fp_small.specs.declared.op.Op.TheVariants.{Install}
use Rattle.fp_small.specs.declared.refusal.Refusal.{Refusal}
use Rattle.fp_small.specs.declared.refusal.Refusal.TheVariants as refusals
use Rattle.fp_small.specs.declared.state.State.{State}
use Rattle.ost_model.specs.Objects.{Have}
use Rattle.fl_extension.specs.Found.{has_ref}
use Rattle.fl_plan.specs.Answers.{mapped}
use Rattle.fl_plan.specs.Offers.{in_turn, first_offer, chosen}
use Rattle.fl_plan.specs.declared.offer.Offer.{Offer}
use Rattle.fl_plan.specs.declared.offer.Chosen.{Chosen}

-- The offer of the runtime with its head checked; refused with `RuntimeMissing` if there is no
-- offer
abbrev pub if_offered : Holdings → Have → Ref → Option Offer → Result (Option Chosen) Refusal
if_offered held stored runtime None = Err (refusals.RuntimeMissing runtime)
if_offered held stored runtime (Some offer) = mapped (λ c. Some c) (chosen held stored offer)

-- The runtime that has to be installed along: none if it is installed, else its offer by the remote
-- with this name, or by the first other remote that offers it
unfoldable pub runtime_for : Holdings → Have → State → List ℕ → Ref → Result (Option Chosen) Refusal
runtime_for held stored state own runtime =
    if has_ref state runtime then Ok None
    else if_offered held stored runtime (first_offer held (in_turn own state.remotes) runtime)

-- The runtime that has to be installed along, if one is named; a runtime names none
abbrev pub if_named : Holdings → Have → State → List ℕ → Option Ref → Result (Option Chosen) Refusal
if_named held stored state own None = Ok None
if_named held stored state own (Some runtime) = runtime_for held stored state own runtime

-- The install of an offer
abbrev pub install_of : Offer → Op
install_of offer = Install offer.name offer.remote.name offer.commit

-- The install of the runtime that was found, if there is one
abbrev pub install_in : Option Chosen → Option Op
install_in found = option_map (λ c. install_of c.offer) found

-- The install of a runtime, unless it is installed, for an application from the remote with this
-- name
abbrev pub runtime_install : Holdings → Have → State → List ℕ → Ref → Result (Option Op) Refusal
runtime_install held stored state own runtime =
    mapped install_in (runtime_for held stored state own runtime)
