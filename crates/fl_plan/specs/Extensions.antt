-- The extensions that are installed along with a runtime and a target.
use Rattle.std.specs.Prelude.{Bool, not, ◌||◌, List, [], ◌∷◌, ◌++◌, Option, Some, None, option_to_list, Result, Ok, if◌then◌else◌}
use Rattle.std.specs.List.{list_any}
use Rattle.std.specs.Str.{bytes_eq}
use Rattle.fp_host.specs.Remote.{Holdings}
use Rattle.fp_name.specs.Refs.{Ref, ref_text}
use Rattle.fp_small.specs.declared.refusal.Refusal.{Refusal}
use Rattle.fp_small.specs.declared.state.State.{State}
use Rattle.fp_small.specs.declared.state.RemoteRow.{RemoteRow}
use Rattle.ost_model.specs.Objects.{Have}
use Rattle.fl_extension.specs.declared.point.Point.{Point}
use Rattle.fl_extension.specs.Found.{has_ref}
use Rattle.fl_plan.specs.Answers.{and_then, mapped}
use Rattle.fl_plan.specs.Offers.{first_of, offer_of, chosen}
use Rattle.fl_installed.specs.Metadata.{points_in}
use Rattle.fl_plan.specs.declared.offer.Offer.{Offer}
use Rattle.fl_plan.specs.declared.offer.Chosen.{Chosen}

-- Tests whether the ref is in the plan
abbrev pub is_coming : List Offer → Ref → Bool
is_coming plan name = list_any (λ offer. bytes_eq (ref_text offer.name) (ref_text name)) plan

-- Tests whether one of the point's candidates is installed or in the plan
abbrev pub is_filled : State → List Offer → Point → Bool
is_filled state plan point = list_any (λ c. has_ref state c || is_coming plan c) point.candidates

-- Tests whether nothing has to be installed for the point: it isn't automatic, or it is filled
abbrev pub is_done : State → List Offer → Point → Bool
is_done state plan point = not point.auto || is_filled state plan point

-- The offer with its head checked, if there is one
abbrev pub if_any : Holdings → Have → Option Offer → Result (Option Offer) Refusal
if_any held stored None = Ok None
if_any held stored (Some offer) = mapped (λ c. Some c.offer) (chosen held stored offer)

-- The offer that a plan needs for a point: the first of its candidates that the remote offers, if
-- the point is automatic and no candidate is installed or in the plan
unfoldable pub extension_at : Holdings → Have → State → RemoteRow → List Offer → Point
    → Result (Option Offer) Refusal
extension_at held stored state remote plan point =
    if is_done state plan point then Ok None
    else if_any held stored (first_of (offer_of held remote) point.candidates)

-- The plan with the extensions for these points, in their order
abbrev pub with_points : Holdings → Have → State → RemoteRow → List Point → List Offer
    → Result (List Offer) Refusal
with_points held stored state remote [] plan = Ok plan
with_points held stored state remote (point ∷ points) plan =
    and_then (extension_at held stored state remote plan point)
    (λ more. with_points held stored state remote points (plan ++ option_to_list more))

-- The plan with the extensions of an application or a runtime, from the owner's remote
unfoldable pub with_extensions : Holdings → Have → State → Chosen → List Offer
    → Result (List Offer) Refusal
with_extensions held stored state owner plan =
    with_points held stored state owner.offer.remote
    (points_in owner.offer.name owner.metadata) plan

-- The plan with the extensions of the runtime, if it is installed along
abbrev pub with_runtime : Holdings → Have → State → Option Chosen → List Offer
    → Result (List Offer) Refusal
with_runtime held stored state None plan = Ok plan
with_runtime held stored state (Some runtime) plan = with_extensions held stored state runtime plan
