-- The operations of an install or an update of a ref.
use Rattle.std.specs.Prelude.{ℕ, Bool, false, not, leb, ◌+◌, List, [], ◌∷◌, ◌++◌, length, map, count_by, Option, Some, None, option_map, option_to_list, Result, Ok, Err, if◌then◌else◌}
use Rattle.std.specs.Str.{bytes_eq}
use Rattle.fp_base.specs.declared.what.What.TheVariants as whats
use Rattle.fp_host.specs.Remote.{Holdings}
use Rattle.fp_name.specs.Refs.{Ref}
use Rattle.fp_small.specs.declared.limits.TheConstants.{MOST_REFS}
use Rattle.fp_small.specs.declared.op.Op.{Op}
use Rattle.fp_small.specs.declared.op.Op.TheVariants.{Update}
use Rattle.fp_small.specs.declared.refusal.Refusal.{Refusal}
use Rattle.fp_small.specs.declared.refusal.Refusal.TheVariants as refusals
use Rattle.fp_small.specs.declared.state.State.{State}
use Rattle.fp_small.specs.declared.state.RefRow.{RefRow}
use Rattle.fp_small.specs.declared.state.RemoteRow.{RemoteRow}
use Rattle.ost_model.specs.Objects.{Have}
use Rattle.ost_head.specs.Heads.{head_of}
use Rattle.ost_refs.specs.Offers.{offered}
use Rattle.fl_extension.specs.Found.{has_ref, row_of}
use Rattle.fl_plan.specs.Answers.{and_then, mapped}
use Rattle.fl_plan.specs.Offers.{offer_with, have_at, chosen_with}
use Rattle.fl_installed.specs.Metadata.{runtime_named}
use Rattle.fl_plan.specs.Runtimes.{if_named, install_of}
use Rattle.fl_plan.specs.Extensions.{with_extensions, with_runtime}
use Rattle.fl_plan.specs.declared.offer.Offer.{Offer}
use Rattle.fl_plan.specs.declared.offer.Chosen.{Chosen}

-- ---- operations

-- The operation for an offer: an update if the ref is deployed, else an install
abbrev pub op_of : State → Offer → Op
op_of state offer = if has_ref state offer.name
    then Update offer.name offer.remote.name offer.commit else install_of offer

-- The number of offers whose refs aren't deployed
abbrev pub new_ones : State → List Offer → ℕ
new_ones state plan = count_by (λ offer. not (has_ref state offer.name)) plan

-- The number of deployed refs after all offers of the plan are installed
abbrev pub number_after : State → List Offer → ℕ
number_after state plan = length state.refs + new_ones state plan

-- The operations for a plan, unless too many refs would be deployed
abbrev pub ops_within_limit : State → List Offer → Result (List Op) Refusal
ops_within_limit state plan =
    if leb (number_after state plan) MOST_REFS then Ok (map (op_of state) plan)
    else Err (refusals.Limit whats.Refs (MOST_REFS + 1))

-- ---- the plan

-- The plan without extensions: the runtime, if it is installed along, then the target
abbrev pub begun : Option Chosen → Chosen → List Offer
begun runtime target = option_to_list (option_map (λ c. c.offer) runtime) ++ target.offer ∷ []

-- The whole plan: the runtime, the target, the extensions of the runtime, and those of the target
unfoldable pub extended : Holdings → Have → State → Chosen → Option Chosen
    → Result (List Offer) Refusal
extended held stored state target runtime = and_then
    (with_runtime held stored state runtime (begun runtime target))
    (with_extensions held stored state target)

-- The operations for a target and the runtime that is installed along
abbrev pub plan_with : Holdings → Have → State → Chosen → Option Chosen → Result (List Op) Refusal
plan_with held stored state target runtime =
    and_then (extended held stored state target runtime) (ops_within_limit state)

-- The operations for a target whose head was checked
unfoldable pub planned : Holdings → Have → State → Chosen → Result (List Op) Refusal
planned held stored state target =
    and_then (if_named held stored state target.offer.remote.name
    (runtime_named target.offer.name target.metadata)) (plan_with held stored state target)

-- ---- the target

-- Tests whether a ref with this row is deployed at the commit
abbrev pub is_at : List ℕ → Option RefRow → Bool
is_at commit None = false
is_at commit (Some row) = bytes_eq row.commit commit

-- The time of the deployed commit, if there is one
abbrev pub time_of : Option RefRow → Option ℕ
time_of row = option_map (λ r. r.timestamp) row

-- The offer of the target, with its head checked
unfoldable pub target_of : Holdings → Have → State → Offer → Result Chosen Refusal
target_of held stored state offer = mapped (chosen_with offer)
    (head_of (have_at held stored offer.remote) offer.name offer.commit
    (time_of (row_of state offer.name)))

-- The operations for a target by its remote's offer; none if the offered commit is deployed
unfoldable pub planned_at : Holdings → Have → State → Offer → Result (List Op) Refusal
planned_at held stored state offer =
    if is_at offer.commit (row_of state offer.name) then Ok []
    else and_then (target_of held stored state offer) (planned held stored state)

-- The operations for a ref from a remote: the install of its runtime, if that isn't installed; its
-- own install or update; and the installs of that runtime's extensions and of its own. `held` is
-- the content of the remotes, `stored` the objects of the store.
unfoldable pub plan_of : Holdings → Have → State → RemoteRow → Ref → Result (List Op) Refusal
plan_of held stored state remote name =
    and_then (offered held remote name)
    (λ commit. planned_at held stored state (offer_with remote name commit))
