-- The parts of a plan as steps.
use Rattle.std.proofs.Common.{◌≡◌, ◌≤◌, ◌<◌, ℕ, List, [], ◌++◌, length, get_or, Bool, true, false, Option, Some, None, Result, Ok, Err, refl, sym, ◌∙◌, ap, subst, arith}
use Rattle.std.specs.Prelude.{not, ◌||◌, is_some, option_to_list, IfOk, IfSome, IsSomeAnd, IsErrOf, if◌then◌else◌}
use Rattle.std.specs.Str.{bytes_eq}
use Rattle.std.proofs.lemmas.List.{append-nil}
use Rattle.fp_host.specs.Moments.{Moments}
use Rattle.fp_host.specs.Remote.{Holdings}
use Rattle.fp_host.proofs.Framed.{IsTold}
use Rattle.fp_host.proofs.Looking.{looks_start}
use Rattle.fp_name.specs.Refs.{Ref, ref_text}
use Rattle.fp_small.specs.Config.{name_of}
use Rattle.fp_small.specs.Order.{has_name}
use Rattle.fp_small.specs.declared.op.Op.{Op}
use Rattle.fp_small.specs.declared.state.State.{State}
use Rattle.fp_small.specs.declared.state.RemoteRow.{RemoteRow}
use Rattle.ost_model.specs.Objects.{Have}
use Rattle.ost_walk.specs.Ends.{IsRemotes, Outside, outside}
use Rattle.ost_walk.specs.declared.pull_end.PullEnd.{PullEnd}
use Rattle.ost_walk.specs.declared.pull_end.PullEnd.TheVariants as ends
use Rattle.ost_walk.specs.PullEnds.{Answers, NoFault}
use Rattle.ost_refs.specs.Offers.{offered}
use Rattle.fl_extension.specs.declared.point.Point.{Point}
use Rattle.fl_extension.specs.Found.{has_ref, row_of}
use Rattle.fl_plan.specs.Answers.{and_then, mapped, Asks, Plans}
use Rattle.fl_plan.specs.Offers.{offer_with, offer_of, first_of, first_offer, in_turn, chosen}
use Rattle.fl_installed.specs.Metadata.{runtime_named, points_in}
use Rattle.fl_installed.proofs.Named.{named_apart}
use Rattle.fl_plan.specs.Runtimes.{if_offered, runtime_for, if_named, install_in, runtime_install}
use Rattle.fl_plan.specs.Extensions.{is_done, is_filled, if_any, extension_at, with_points, with_extensions, with_runtime}
use Rattle.fl_plan.specs.Plans.{ops_within_limit, begun, extended, plan_with, planned, is_at, target_of, planned_at, plan_of}
use Rattle.fl_plan.specs.Allowed.{IsTaken, IsOneOf, IsOfferOf, MayCome, ComesTo, IsPlan}
use Rattle.fl_plan.specs.declared.offer.Offer.{Offer}
use Rattle.fl_plan.specs.declared.offer.Chosen.{Chosen}
use Rattle.fl_plan.proofs.Steps.{plans_on, plans_to, plans_err, plans_same, plans_none, plans_starved, asks_on, ok_no_fault, then_ok, then_err, mapped_ok, mapped_err}
use Rattle.fl_plan.proofs.Turns.{plan_more}
use Rattle.fl_plan.proofs.Apart.{offer_among, one_among, absent_may, candidate_comes}

-- ---- offers

pub found_among : (rows : List RemoteRow) (i : ℕ) (row : RemoteRow) (name : Ref) (found : Option Offer) → i < length rows → row ≡ get_or rows i row → IfSome found (IsTaken row name) → IfSome found (IsOfferOf rows name)
found_among rows i row name None ops_within_limit is taken = tt
found_among rows i row name (Some o) ops_within_limit is taken = offer_among rows i row name o ops_within_limit is taken

pub candidate_among : (names : List Ref) (i : ℕ) (name : Ref) (remote : RemoteRow) (found : Option Offer) → i < length names → name ≡ get_or names i name → IfSome found (IsTaken remote name) → IfSome found (IsOneOf remote names)
candidate_among names i name remote None ops_within_limit is taken = tt
candidate_among names i name remote (Some o) ops_within_limit is taken = one_among names i name remote o ops_within_limit is taken

-- ---- an extension point

extension_done : (held : Holdings) (stored : Have) (state : State) (remote : RemoteRow) (plan : List Offer) (point : Point) → is_done state plan point ≡ true → extension_at held stored state remote plan point ≡ Ok None
unfolding extension_at
extension_done held stored state remote plan point is = ap (λ b. if b then Ok None else if_any held stored (first_of (offer_of held remote) point.candidates)) is

extension_open : (held : Holdings) (stored : Have) (state : State) (remote : RemoteRow) (plan : List Offer) (point : Point) → is_done state plan point ≡ false
    → extension_at held stored state remote plan point ≡ if_any held stored (first_of (offer_of held remote) point.candidates)
unfolding extension_at
extension_open held stored state remote plan point is = ap (λ b. if b then Ok None else if_any held stored (first_of (offer_of held remote) point.candidates)) is

module _ (state : State) (remote : RemoteRow) (plan : List Offer) (point : Point) where
  pub by_switch : point.auto ≡ false → is_done state plan point ≡ true
  by_switch manual = ap (λ b. not b || is_filled state plan point) manual

  pub by_candidates : {b : Bool} → point.auto ≡ true → is_filled state plan point ≡ b → is_done state plan point ≡ b
  by_candidates auto is = ap (λ b. not b || is_filled state plan point) auto ∙ is

  pub point_done : {u : Outside} → IsTold u.told → is_done state plan point ≡ true → Plans (λ held stored. extension_at held stored state remote plan point) (Ok None) u u
  point_done told is = plans_none (λ held stored. extension_at held stored state remote plan point) (Ok None) told (ok_no_fault None) (λ held stored. extension_done held stored state remote plan point is)

  pub point_asked : {told : Option Moments} {faults : ℕ} {old new : Option Holdings} {before now : ℕ} {w : Outside} {result : Result (Option Offer) PullEnd} (found : Option Offer)
      → IsTold told → is_done state plan point ≡ false → Asks (λ held. first_of (offer_of held remote) point.candidates) (Ok found) old new before now
      → Plans (λ held stored. if_any held stored found) result (outside told faults new now) w → Plans (λ held stored. extension_at held stored state remote plan point) result (outside told faults old before) w
  point_asked found told is asks after =
      asks_on (λ held stored. extension_at held stored state remote plan point) found told asks after
      (λ held stored same. extension_open held stored state remote plan point is ∙ ap (if_any held stored) (sym same))

  found_comes : (found : Option Offer) → is_filled state plan point ≡ false → has_name name_of state.remotes remote.name ≡ true → IfSome found (IsOneOf remote point.candidates) → IfSome found (ComesTo state plan)
  found_comes None empty known is = tt
  found_comes (Some o) empty known is = candidate_comes state plan point remote o empty known is

  pub point_good : (found : Option Offer) (result : Result (Option Offer) PullEnd) → is_filled state plan point ≡ false → has_name name_of state.remotes remote.name ≡ true
      → IfSome found (IsOneOf remote point.candidates) → IfOk result (λ more. more ≡ found) → IfOk result (λ more. IfSome more (ComesTo state plan))
  point_good found (Ok more) empty known is same = subst (λ (o : Option Offer). IfSome o (ComesTo state plan)) (sym same) (found_comes found empty known is)
  point_good found (Err end) empty known is same = tt

pub plan_and : (state : State) (plan : List Offer) (more : Option Offer) → IsPlan state plan → IfSome more (ComesTo state plan) → IsPlan state (plan ++ option_to_list more)
plan_and state plan None is comes = subst (IsPlan state) (sym (append-nil plan)) is
plan_and state plan (Some o) is comes = plan_more is comes

-- ---- what is chosen of an offer

module _ (given : Option Offer) (offer : Offer) (is : given ≡ Some offer) where
  any_is : (held : Holdings) (stored : Have) → if_any held stored given ≡ mapped (λ k. Some k.offer) (chosen held stored offer)
  any_is held stored = ap (if_any held stored) is

  pub any_ok : {u w : Outside} (c : Chosen) → Plans (λ held stored. chosen held stored offer) (Ok c) u w → Plans (λ held stored. if_any held stored given) (Ok (Some c.offer)) u w
  any_ok c before =
      plans_to (λ held stored. if_any held stored given) c (Ok (Some c.offer)) before (ok_no_fault (Some c.offer))
      (λ held stored e. any_is held stored ∙ mapped_ok (chosen held stored offer) c (λ k. Some k.offer) e)

  pub any_err : {u w : Outside} (end : PullEnd) → Plans (λ held stored. chosen held stored offer) (Err end) u w → Plans (λ held stored. if_any held stored given) (Err end) u w
  any_err end before =
      plans_err (λ held stored. if_any held stored given) end before
      (λ held stored r e. any_is held stored ∙ mapped_err (chosen held stored offer) r (λ k. Some k.offer) e)

  module _ (runtime : Ref) where
    offered_is : (held : Holdings) (stored : Have) → if_offered held stored runtime given ≡ mapped (λ k. Some k) (chosen held stored offer)
    offered_is held stored = ap (if_offered held stored runtime) is

    pub offered_ok : {u w : Outside} (c : Chosen) → Plans (λ held stored. chosen held stored offer) (Ok c) u w → Plans (λ held stored. if_offered held stored runtime given) (Ok (Some c)) u w
    offered_ok c before =
        plans_to (λ held stored. if_offered held stored runtime given) c (Ok (Some c)) before (ok_no_fault (Some c))
        (λ held stored e. offered_is held stored ∙ mapped_ok (chosen held stored offer) c (λ k. Some k) e)

    pub offered_err : {u w : Outside} (end : PullEnd) → Plans (λ held stored. chosen held stored offer) (Err end) u w → Plans (λ held stored. if_offered held stored runtime given) (Err end) u w
    offered_err end before =
        plans_err (λ held stored. if_offered held stored runtime given) end before
        (λ held stored r e. offered_is held stored ∙ mapped_err (chosen held stored offer) r (λ k. Some k) e)

-- ---- the extensions of an owner

extensions_are : (held : Holdings) (stored : Have) (state : State) (owner : Chosen) (plan : List Offer) (points : List Point) → points ≡ points_in owner.offer.name owner.metadata
    → with_extensions held stored state owner plan ≡ with_points held stored state owner.offer.remote points plan
unfolding with_extensions
extensions_are held stored state owner plan points is = ap (λ (ps : List Point). with_points held stored state owner.offer.remote ps plan) (sym is)

pub extensions_by : {u w : Outside} {result : Result (List Offer) PullEnd} (state : State) (owner : Chosen) (plan : List Offer) (points : List Point) → points ≡ points_in owner.offer.name owner.metadata
    → Plans (λ held stored. with_points held stored state owner.offer.remote points plan) result u w → Plans (λ held stored. with_extensions held stored state owner plan) result u w
extensions_by state owner plan points is plans = plans_same (λ held stored. with_extensions held stored state owner plan) (λ held stored. extensions_are held stored state owner plan points is) plans

module _ (state : State) (target : Chosen) (runtime : Option Chosen) (start : List Offer) (is : start ≡ begun runtime target) where
  extended_is : (held : Holdings) (stored : Have) → extended held stored state target runtime ≡ and_then (with_runtime held stored state runtime start) (with_extensions held stored state target)
  unfolding extended
  extended_is held stored = ap (λ (p : List Offer). and_then (with_runtime held stored state runtime p) (with_extensions held stored state target)) (sym is)

  pub extended_on : {u v w : Outside} {result : Result (List Offer) PullEnd} (plan : List Offer) → IsTold v.told → Plans (λ held stored. with_runtime held stored state runtime start) (Ok plan) u v
      → Plans (λ held stored. with_extensions held stored state target plan) result v w → Plans (λ held stored. extended held stored state target runtime) result u w
  extended_on plan told before after =
      plans_on (λ held stored. extended held stored state target runtime) plan told before after
      (λ held stored e. extended_is held stored ∙ then_ok (with_runtime held stored state runtime start) plan (with_extensions held stored state target) e)

  pub extended_err : {u w : Outside} (end : PullEnd) → Plans (λ held stored. with_runtime held stored state runtime start) (Err end) u w → Plans (λ held stored. extended held stored state target runtime) (Err end) u w
  extended_err end before =
      plans_err (λ held stored. extended held stored state target runtime) end before
      (λ held stored r e. extended_is held stored ∙ then_err (with_runtime held stored state runtime start) r (with_extensions held stored state target) e)

module _ (state : State) (target : Chosen) (runtime : Option Chosen) where
  -- the operations of what is to come
  pub with_ok : {u w : Outside} {result : Result (List Op) PullEnd} (plan : List Offer) → Plans (λ held stored. extended held stored state target runtime) (Ok plan) u w
      → NoFault result → Answers result (ops_within_limit state plan) → Plans (λ held stored. plan_with held stored state target runtime) result u w
  with_ok {result = result} plan before none answers =
      plans_to (λ held stored. plan_with held stored state target runtime) plan result before none
      (λ held stored e. subst (Answers result) (sym (then_ok (extended held stored state target runtime) plan (ops_within_limit state) e)) answers)

  pub with_err : {u w : Outside} (end : PullEnd) → Plans (λ held stored. extended held stored state target runtime) (Err end) u w → Plans (λ held stored. plan_with held stored state target runtime) (Err end) u w
  with_err end before =
      plans_err (λ held stored. plan_with held stored state target runtime) end before
      (λ held stored r e. then_err (extended held stored state target runtime) r (ops_within_limit state) e)

-- ---- the runtime

runtime_there : (held : Holdings) (stored : Have) (state : State) (own : List ℕ) (runtime : Ref) → has_ref state runtime ≡ true → runtime_for held stored state own runtime ≡ Ok None
unfolding runtime_for
runtime_there held stored state own runtime has = ap (λ b. if b then Ok None else if_offered held stored runtime (first_offer held (in_turn own state.remotes) runtime)) has

runtime_sought : (held : Holdings) (stored : Have) (state : State) (own : List ℕ) (runtime : Ref) → has_ref state runtime ≡ false
    → runtime_for held stored state own runtime ≡ if_offered held stored runtime (first_offer held (in_turn own state.remotes) runtime)
unfolding runtime_for
runtime_sought held stored state own runtime none = ap (λ b. if b then Ok None else if_offered held stored runtime (first_offer held (in_turn own state.remotes) runtime)) none

module _ (state : State) (own : List ℕ) (runtime : Ref) where
  pub runtime_none : {u : Outside} → IsTold u.told → has_ref state runtime ≡ true → Plans (λ held stored. runtime_for held stored state own runtime) (Ok None) u u
  runtime_none told has = plans_none (λ held stored. runtime_for held stored state own runtime) (Ok None) told (ok_no_fault None) (λ held stored. runtime_there held stored state own runtime has)

  pub runtime_asked : {told : Option Moments} {faults : ℕ} {old new : Option Holdings} {before now : ℕ} {w : Outside} {result : Result (Option Chosen) PullEnd} (found : Option Offer)
      → IsTold told → has_ref state runtime ≡ false → Asks (λ held. first_offer held (in_turn own state.remotes) runtime) (Ok found) old new before now
      → Plans (λ held stored. if_offered held stored runtime found) result (outside told faults new now) w → Plans (λ held stored. runtime_for held stored state own runtime) result (outside told faults old before) w
  runtime_asked found told none asks after =
      asks_on (λ held stored. runtime_for held stored state own runtime) found told asks after
      (λ held stored same. runtime_sought held stored state own runtime none ∙ ap (if_offered held stored runtime) (sym same))

  chosen_good : (found : Option Offer) (chosen : Chosen) → has_ref state runtime ≡ false → IfSome found (IsOfferOf state.remotes runtime) → Some chosen.offer ≡ found
      → (chosen.offer.name ≡ runtime) × MayCome state chosen.offer
  chosen_good found chosen none is same =
      let good : IfSome (Some chosen.offer) (IsOfferOf state.remotes runtime) = subst (λ (o : Option Offer). IfSome o (IsOfferOf state.remotes runtime)) (sym same) is in
      (good.name_is, absent_may state runtime chosen.offer none good)

  pub runtime_good : (found : Option Offer) (result : Result (Option Chosen) PullEnd) → has_ref state runtime ≡ false → IfSome found (IsOfferOf state.remotes runtime)
      → IfOk result (λ c. IsSomeAnd c (λ chosen. Some chosen.offer ≡ found)) → IfOk result (λ c. IfSome c (λ chosen. (chosen.offer.name ≡ runtime) × MayCome state chosen.offer))
  runtime_good found (Ok (Some chosen)) none is same = chosen_good found chosen none is same
  runtime_good found (Ok None) none is same = absurd same
  runtime_good found (Err end) none is same = tt

  pub runtime_some : (result : Result (Option Chosen) PullEnd) (P : Chosen → Type 0) → has_ref state runtime ≡ false → IfOk result (λ c. IsSomeAnd c P)
      → IfOk result (λ c. is_some c ≡ not (has_ref state runtime))
  runtime_some (Ok (Some chosen)) P none good = sym (ap not none)
  runtime_some (Ok None) P none good = absurd good
  runtime_some (Err end) P none good = tt

  pub no_runtime : {u : Outside} → IsTold u.told → Plans (λ held stored. if_named held stored state own None) (Ok None) u u
  no_runtime told = plans_none (λ held stored. if_named held stored state own None) (Ok None) told (ok_no_fault None) (λ held stored. refl)

  -- its install
  pub install_some : (found : Option Chosen) → is_some (install_in found) ≡ is_some found
  install_some None = refl
  install_some (Some c) = refl

  pub install_ok : {u w : Outside} (found : Option Chosen) → Plans (λ held stored. runtime_for held stored state own runtime) (Ok found) u w
      → Plans (λ held stored. runtime_install held stored state own runtime) (Ok (install_in found)) u w
  install_ok found before =
      plans_to (λ held stored. runtime_install held stored state own runtime) found (Ok (install_in found)) before (ok_no_fault (install_in found))
      (λ held stored e. mapped_ok (runtime_for held stored state own runtime) found install_in e)

  pub install_err : {u w : Outside} (end : PullEnd) → Plans (λ held stored. runtime_for held stored state own runtime) (Err end) u w
      → Plans (λ held stored. runtime_install held stored state own runtime) (Err end) u w
  install_err end before =
      plans_err (λ held stored. runtime_install held stored state own runtime) end before
      (λ held stored r e. mapped_err (runtime_for held stored state own runtime) r install_in e)

-- ---- the target

module _ (state : State) (target : Chosen) (named : Option Ref) (is : named ≡ runtime_named target.offer.name target.metadata) where
  planned_is : (held : Holdings) (stored : Have) → planned held stored state target ≡ and_then (if_named held stored state target.offer.remote.name named) (plan_with held stored state target)
  unfolding planned
  planned_is held stored = ap (λ (n : Option Ref). and_then (if_named held stored state target.offer.remote.name n) (plan_with held stored state target)) (sym is)

  pub planned_on : {u v w : Outside} {result : Result (List Op) PullEnd} (runtime : Option Chosen) → IsTold v.told → Plans (λ held stored. if_named held stored state target.offer.remote.name named) (Ok runtime) u v
      → Plans (λ held stored. plan_with held stored state target runtime) result v w → Plans (λ held stored. planned held stored state target) result u w
  planned_on runtime told before after =
      plans_on (λ held stored. planned held stored state target) runtime told before after
      (λ held stored e. planned_is held stored ∙ then_ok (if_named held stored state target.offer.remote.name named) runtime (plan_with held stored state target) e)

  pub planned_err : {u w : Outside} (end : PullEnd) → Plans (λ held stored. if_named held stored state target.offer.remote.name named) (Err end) u w → Plans (λ held stored. planned held stored state target) (Err end) u w
  planned_err end before =
      plans_err (λ held stored. planned held stored state target) end before
      (λ held stored r e. planned_is held stored ∙ then_err (if_named held stored state target.offer.remote.name named) r (plan_with held stored state target) e)

  pub runtime_apart : (runtime : Option Chosen) → IfSome runtime (λ c. (Some c.offer.name ≡ named) × MayCome state c.offer)
      → IfSome runtime (λ c. MayCome state c.offer × (bytes_eq (ref_text c.offer.name) (ref_text target.offer.name) ≡ false))
  runtime_apart None good = tt
  runtime_apart (Some c) good = (good.1, named_apart target.offer.name target.metadata c.offer.name (good.0 ∙ is))

at_there : (held : Holdings) (stored : Have) (state : State) (offer : Offer) → is_at offer.commit (row_of state offer.name) ≡ true → planned_at held stored state offer ≡ Ok []
unfolding planned_at
at_there held stored state offer is = ap (λ b. if b then Ok [] else and_then (target_of held stored state offer) (planned held stored state)) is

at_moves : (held : Holdings) (stored : Have) (state : State) (offer : Offer) → is_at offer.commit (row_of state offer.name) ≡ false
    → planned_at held stored state offer ≡ and_then (target_of held stored state offer) (planned held stored state)
unfolding planned_at
at_moves held stored state offer is = ap (λ b. if b then Ok [] else and_then (target_of held stored state offer) (planned held stored state)) is

module _ (state : State) (offer : Offer) where
  pub at_none : {u : Outside} → IsTold u.told → is_at offer.commit (row_of state offer.name) ≡ true → Plans (λ held stored. planned_at held stored state offer) (Ok []) u u
  at_none told is = plans_none (λ held stored. planned_at held stored state offer) (Ok []) told (ok_no_fault []) (λ held stored. at_there held stored state offer is)

  pub at_on : {u v w : Outside} {result : Result (List Op) PullEnd} (target : Chosen) → is_at offer.commit (row_of state offer.name) ≡ false → IsTold v.told
      → Plans (λ held stored. target_of held stored state offer) (Ok target) u v → Plans (λ held stored. planned held stored state target) result v w → Plans (λ held stored. planned_at held stored state offer) result u w
  at_on target is told before after =
      plans_on (λ held stored. planned_at held stored state offer) target told before after
      (λ held stored e. at_moves held stored state offer is ∙ then_ok (target_of held stored state offer) target (planned held stored state) e)

  pub at_err : {u w : Outside} (end : PullEnd) → is_at offer.commit (row_of state offer.name) ≡ false → Plans (λ held stored. target_of held stored state offer) (Err end) u w
      → Plans (λ held stored. planned_at held stored state offer) (Err end) u w
  at_err end is before =
      plans_err (λ held stored. planned_at held stored state offer) end before
      (λ held stored r e. at_moves held stored state offer is ∙ then_err (target_of held stored state offer) r (planned held stored state) e)

  pub may_move : is_at offer.commit (row_of state offer.name) ≡ false → IsOfferOf state.remotes offer.name offer → MayCome state offer
  may_move moves is = record { name = is.good; remote = is.remote; commit = is.commit; moves = moves }

-- ---- a plan

plan_is : (held : Holdings) (stored : Have) (state : State) (remote : RemoteRow) (name : Ref) → plan_of held stored state remote name ≡ and_then (offered held remote name) (λ commit. planned_at held stored state (offer_with remote name commit))
unfolding plan_of
plan_is held stored state remote name = refl

module _ (state : State) (remote : RemoteRow) (name : Ref) {told : Option Moments} {faults : ℕ} {old new : Option Holdings} {before now : ℕ} (is_told : IsTold told) (same : new ≡ old) where
  asked : (result : Result (List ℕ) PullEnd) → ((held : Holdings) → old ≡ Some held → Answers result (offered held remote name)) → (IsErrOf result ends.HostFault → ⊥) → IsRemotes (IsErrOf result ends.RemoteFault) before now
      → Plans (λ held stored. offered held remote name) result (outside told faults old before) (outside told faults new now)
  asked result tells host cause = record {
    looks = record {
      unchanged = looks_start is_told;
      same = same;
      host = record { later = omega arith; fault = λ e. absurd (host e) };
      remote = cause;
    };
    tells = λ held stored holds stores. tells held holds;
  }

  pub plan_on : {w : Outside} {result : Result (List Op) PullEnd} (commit : List ℕ) (offer : Offer) → offer ≡ offer_with remote name commit
      → ((held : Holdings) → old ≡ Some held → offered held remote name ≡ Ok commit) → before ≤ now
      → Plans (λ held stored. planned_at held stored state offer) result (outside told faults new now) w → Plans (λ held stored. plan_of held stored state remote name) result (outside told faults old before) w
  plan_on commit offer is tells later after =
      plans_on (λ held stored. plan_of held stored state remote name) commit is_told
      (asked (Ok commit) tells (λ e. absurd (cc e)) (record { later = later; rose = λ e. absurd (cc e) })) after
      (λ held stored e.
      plan_is held stored state remote name ∙ then_ok (offered held remote name) commit (λ c. planned_at held stored state (offer_with remote name c)) e
      ∙ ap (planned_at held stored state) (sym is))

  pub plan_starved : (commit : List ℕ) → ((held : Holdings) → old ≡ Some held → offered held remote name ≡ Ok commit) → before ≤ now
      → Plans (λ held stored. plan_of held stored state remote name) (Err ends.NoMemory) (outside told faults old before) (outside told faults new now)
  plan_starved commit tells later =
      plans_starved (λ held stored. plan_of held stored state remote name) commit
      (asked (Ok commit) tells (λ e. absurd (cc e)) (record { later = later; rose = λ e. absurd (cc e) }))

  pub plan_err : (end : PullEnd) → ((held : Holdings) → old ≡ Some held → Answers {A = List ℕ} (Err end) (offered held remote name)) → (◌≡◌ {A = Result (List ℕ) PullEnd} (Err end) (Err ends.HostFault) → ⊥)
      → IsRemotes (◌≡◌ {A = Result (List ℕ) PullEnd} (Err end) (Err ends.RemoteFault)) before now
      → Plans (λ held stored. plan_of held stored state remote name) (Err end) (outside told faults old before) (outside told faults new now)
  plan_err end tells host cause =
      plans_err (λ held stored. plan_of held stored state remote name) end (asked (Err end) tells host cause)
      (λ held stored r e. plan_is held stored state remote name ∙ then_err (offered held remote name) r (λ c. planned_at held stored state (offer_with remote name c)) e)
