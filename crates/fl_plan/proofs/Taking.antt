-- Each operation of a plan takes up what a remote of the state offers.
use Rattle.std.proofs.Common.{◌≡◌, ◌⊎◌, inl, inr, ℕ, List, [], ◌∷◌, ◌++◌, map, Bool, true, false, leb, Option, Some, None, Result, Ok, Err, refl, sym, ◌∙◌, ap, subst}
use Rattle.std.specs.Prelude.{cond, option_to_list, not, filter, if◌then◌else◌}
use Rattle.std.specs.Option.{option_or}
use Rattle.std.specs.List.{AllByRecursion}
use Rattle.fp_host.specs.Reads.{is_ascending}
use Rattle.fp_host.specs.Remote.{Holdings}
use Rattle.fp_base.specs.declared.what.What.TheVariants as whats
use Rattle.fp_base.proofs.Lists.{all_append}
use Rattle.fp_name.specs.Refs.{Ref}
use Rattle.fp_small.specs.Config.{name_of}
use Rattle.fp_small.specs.declared.op.Op.{Op}
use Rattle.fp_small.specs.declared.op.Op.TheVariants.{Update}
use Rattle.fp_small.specs.declared.refusal.Refusal.{Refusal}
use Rattle.fp_small.specs.declared.refusal.Refusal.TheVariants as refusals
use Rattle.fp_small.specs.declared.state.State.{State}
use Rattle.fp_small.specs.declared.state.RemoteRow.{RemoteRow}
use Rattle.ost_model.specs.Objects.{Have}
use Rattle.ost_head.specs.Heads.{head_of}
use Rattle.ost_refs.specs.Offers.{offered}
use Rattle.dep_states.specs.Shown.{at_name}
use Rattle.dep_states.proofs.Good.{each_found}
use Rattle.fl_extension.specs.declared.point.Point.{Point}
use Rattle.fl_extension.specs.Found.{has_ref, row_of}
use Rattle.fl_installed.specs.Metadata.{runtime_named, points_in}
use Rattle.fl_plan.specs.Answers.{and_then, mapped}
use Rattle.fl_plan.specs.Offers.{offer_with, unless_declined, offer_of, first_of, first_offer, is_remote, in_turn, have_at, chosen_with, chosen}
use Rattle.fl_plan.specs.Runtimes.{install_of, if_offered, runtime_for, if_named}
use Rattle.fl_plan.specs.Extensions.{is_done, if_any, extension_at, with_points, with_extensions, with_runtime}
use Rattle.fl_plan.specs.Plans.{op_of, number_after, ops_within_limit, begun, extended, plan_with, planned, is_at, time_of, target_of, planned_at, plan_of}
use Rattle.fl_plan.specs.declared.offer.Offer.{Offer}
use Rattle.fl_plan.specs.declared.offer.Chosen.{Chosen}
use Rattle.fl_plan.specs.Taking.{IsOffered, IsOf, IsAmong, Settles}

-- ---- lists

filter_by : {A : Type 0} (P : A → Type 0) (b : Bool) (x : A) (xs : List A) → P x → AllByRecursion P xs → AllByRecursion P (cond b (x ∷ xs) xs)
filter_by P true x xs one all = (one, all)
filter_by P false x xs one all = all

all_filter : {A : Type 0} (P : A → Type 0) (test : A → Bool) (xs : List A) → AllByRecursion P xs → AllByRecursion P (filter test xs)
all_filter P test [] all = tt
all_filter P test (x ∷ xs) all = filter_by P (test x) x (filter test xs) all.0 (all_filter P test xs all.1)

-- a remote of the state offers it
record IsOffer (held : Holdings) (remotes : List RemoteRow) (o : Offer) : Type 0 where
  remote : at_name name_of remotes o.remote.name ≡ Some o.remote
  offers : offered held o.remote o.name ≡ Ok o.commit

-- one of the offers is of this ref
abbrev Offers : Ref → List Offer → Type 0
Offers name [] = ⊥
Offers name (o ∷ os) = (o.name ≡ name) ⊎ Offers name os

-- a plan of offers, of which one is of this ref
record IsPlanOf (held : Holdings) (remotes : List RemoteRow) (name : Ref) (plan : List Offer) : Type 0 where
  each : AllByRecursion (IsOffer held remotes) plan
  own : Offers name plan

offers_more : (name : Ref) (xs ys : List Offer) → Offers name xs → Offers name (xs ++ ys)
offers_more name [] ys none = absurd none
offers_more name (x ∷ xs) ys (inl is) = inl is
offers_more name (x ∷ xs) ys (inr more) = inr (offers_more name xs ys more)

offers_last : (xs : List Offer) (o : Offer) → Offers o.name (xs ++ o ∷ [])
offers_last [] o = inl refl
offers_last (x ∷ xs) o = inr (offers_last xs o)

-- ---- steps that end well

then_ok : {A B : Type 0} (first : Result A Refusal) (next : A → Result B Refusal) (b : B) → and_then first next ≡ Ok b → (a : A) × (first ≡ Ok a) × (next a ≡ Ok b)
then_ok (Ok a) next b is = (a, refl, is)
then_ok (Err e) next b is = absurd (cc is)

mapped_ok : {A B : Type 0} (f : A → B) (first : Result A Refusal) (b : B) → mapped f first ≡ Ok b → (a : A) × (first ≡ Ok a) × (f a ≡ b)
mapped_ok f (Ok a) b is = (a, refl, cc is)
mapped_ok f (Err e) b is = absurd (cc is)

or_so : {B : Type 0} (P : B → Type 0) (o rest : Option B) (b : B) → ((b : B) → o ≡ Some b → P b) → ((b : B) → rest ≡ Some b → P b) → option_or o rest ≡ Some b → P b
or_so P (Some c) rest b first later is = first b is
or_so P None rest b first later is = later b is

first_so : {A B : Type 0} (P : B → Type 0) (f : A → Option B) (xs : List A) → AllByRecursion (λ a. (b : B) → f a ≡ Some b → P b) xs → (b : B) → first_of f xs ≡ Some b → P b
first_so P f [] each b is = absurd (cc is)
first_so P f (x ∷ xs) each b is = or_so P (f x) (first_of f xs) b each.0 (first_so P f xs each.1) is

module _ (held : Holdings) where
  -- ---- an offer

  offer_is : (remote : RemoteRow) (name : Ref) (o : Offer) → offer_of held remote name ≡ Some o → (o.remote ≡ remote) × (offered held o.remote o.name ≡ Ok o.commit)
  offer_is remote name o is = by (offered held remote name) refl is
    where
      by : (said : Result (List ℕ) Refusal) → offered held remote name ≡ said → unless_declined remote name said ≡ Some o → (o.remote ≡ remote) × (offered held o.remote o.name ≡ Ok o.commit)
      by (Ok commit) said is =
          let same : offer_with remote name commit ≡ o = cc is in
          (sym (ap (λ (p : Offer). p.remote) same), subst (λ (p : Offer). offered held p.remote p.name ≡ Ok p.commit) same said)
      by (Err refusal) said is = absurd (cc is)

  module _ (remotes : List RemoteRow) where
    offer_at : (remote : RemoteRow) (name : Ref) (o : Offer) → at_name name_of remotes remote.name ≡ Some remote → offer_of held remote name ≡ Some o → IsOffer held remotes o
    offer_at remote name o there is =
        let same = offer_is remote name o is in
        record { remote = subst (λ (r : RemoteRow). at_name name_of remotes r.name ≡ Some r) (sym same.0) there; offers = same.1 }

    module _ (stored : Have) where
      chosen_is : (o : Offer) (c : Chosen) → chosen held stored o ≡ Ok c → c.offer ≡ o
      unfolding chosen
      chosen_is o c is =
          let some = mapped_ok (chosen_with o) (head_of (have_at held stored o.remote) o.name o.commit None) c is in
          sym (ap (λ (x : Chosen). x.offer) some.2)

      module _ (state : State) (same_remotes : state.remotes ≡ remotes) (ascend : is_ascending (map name_of remotes) ≡ true) where
        -- each remote is the one of its name
        each_named : AllByRecursion (λ (r : RemoteRow). at_name name_of remotes r.name ≡ Some r) remotes
        each_named = each_found name_of (λ (r : RemoteRow). at_name name_of remotes r.name ≡ Some r) remotes ascend (λ r is. is)

        in_turn_named : (own : List ℕ) → AllByRecursion (λ (r : RemoteRow). at_name name_of remotes r.name ≡ Some r) (in_turn own remotes)
        in_turn_named own = all_append (λ (r : RemoteRow). at_name name_of remotes r.name ≡ Some r) (filter (is_remote own) remotes) (filter (λ row. not (is_remote own row)) remotes)
            (all_filter (λ (r : RemoteRow). at_name name_of remotes r.name ≡ Some r) (is_remote own) remotes each_named) (all_filter (λ (r : RemoteRow). at_name name_of remotes r.name ≡ Some r) (λ row. not (is_remote own row)) remotes each_named)

        -- ---- the runtime

        abbrev GoodRuntime : Option Chosen → Type 0
        GoodRuntime None = Unit {0}
        GoodRuntime (Some c) = IsOffer held remotes c.offer

        each_offers : (runtime : Ref) (rows : List RemoteRow) → AllByRecursion (λ (r : RemoteRow). at_name name_of remotes r.name ≡ Some r) rows
            → AllByRecursion (λ (r : RemoteRow). (b : Offer) → offer_of held r runtime ≡ Some b → IsOffer held remotes b) rows
        each_offers runtime [] all = tt
        each_offers runtime (r ∷ rows) all = (λ b some. offer_at r runtime b all.0 some, each_offers runtime rows all.1)

        first_good : (own : List ℕ) (runtime : Ref) (o : Offer) → first_offer held (in_turn own remotes) runtime ≡ Some o → IsOffer held remotes o
        first_good own runtime o is = first_so (IsOffer held remotes) (λ row. offer_of held row runtime) (in_turn own remotes) (each_offers runtime (in_turn own remotes) (in_turn_named own)) o is

        offered_good : (runtime : Ref) (offer : Option Offer) (found : Option Chosen) → ((o : Offer) → offer ≡ Some o → IsOffer held remotes o) → if_offered held stored runtime offer ≡ Ok found → GoodRuntime found
        offered_good runtime None found good is = absurd (cc is)
        offered_good runtime (Some o) found good is =
            let some = mapped_ok (λ c. Some c) (chosen held stored o) found is in
            subst GoodRuntime some.2 (subst (IsOffer held remotes) (sym (chosen_is o some.0 some.1)) (good o refl))

        runtime_good : (own : List ℕ) (runtime : Ref) (found : Option Chosen) → runtime_for held stored state own runtime ≡ Ok found → GoodRuntime found
        unfolding runtime_for
        runtime_good own runtime found is = by (has_ref state runtime) is
          where
            by : (b : Bool) → (if b then Ok None else if_offered held stored runtime (first_offer held (in_turn own state.remotes) runtime)) ≡ Ok found → GoodRuntime found
            by true is = let same : None ≡ found = cc is in subst GoodRuntime same tt
            by false is = offered_good runtime (first_offer held (in_turn own state.remotes) runtime) found
                (λ o some. first_good own runtime o (ap (λ (rows : List RemoteRow). first_offer held (in_turn own rows) runtime) (sym same_remotes) ∙ some)) is

        named_good : (own : List ℕ) (runtime : Option Ref) (found : Option Chosen) → if_named held stored state own runtime ≡ Ok found → GoodRuntime found
        named_good own None found is = let same : None ≡ found = cc is in subst GoodRuntime same tt
        named_good own (Some runtime) found is = runtime_good own runtime found is

        -- ---- extensions

        any_good : (offer found : Option Offer) → ((o : Offer) → offer ≡ Some o → IsOffer held remotes o) → if_any held stored offer ≡ Ok found → AllByRecursion (IsOffer held remotes) (option_to_list found)
        any_good None found good is = let same : None ≡ found = cc is in subst (λ (f : Option Offer). AllByRecursion (IsOffer held remotes) (option_to_list f)) same tt
        any_good (Some o) found good is =
            let some = mapped_ok (λ c. Some c.offer) (chosen held stored o) found is in
            subst (λ (f : Option Offer). AllByRecursion (IsOffer held remotes) (option_to_list f)) some.2
            (subst (IsOffer held remotes) (sym (chosen_is o some.0 some.1)) (good o refl), tt)

        each_candidate : (remote : RemoteRow) → at_name name_of remotes remote.name ≡ Some remote → (refs : List Ref) → AllByRecursion (λ (c : Ref). (b : Offer) → offer_of held remote c ≡ Some b → IsOffer held remotes b) refs
        each_candidate remote there [] = tt
        each_candidate remote there (c ∷ refs) = (λ b some. offer_at remote c b there some, each_candidate remote there refs)

        extension_good : (remote : RemoteRow) (plan : List Offer) (point : Point) (found : Option Offer) → at_name name_of remotes remote.name ≡ Some remote → extension_at held stored state remote plan point ≡ Ok found
            → AllByRecursion (IsOffer held remotes) (option_to_list found)
        unfolding extension_at
        extension_good remote plan point found there is = by (is_done state plan point) is
          where
            by : (b : Bool) → (if b then Ok None else if_any held stored (first_of (offer_of held remote) point.candidates)) ≡ Ok found → AllByRecursion (IsOffer held remotes) (option_to_list found)
            by true is = let same : None ≡ found = cc is in subst (λ (f : Option Offer). AllByRecursion (IsOffer held remotes) (option_to_list f)) same tt
            by false is = any_good (first_of (offer_of held remote) point.candidates) found
                (λ o some. first_so (IsOffer held remotes) (offer_of held remote) point.candidates (each_candidate remote there point.candidates) o some) is

        module _ (name : Ref) where
          points_good : (remote : RemoteRow) (points : List Point) (plan more : List Offer) → at_name name_of remotes remote.name ≡ Some remote → IsPlanOf held remotes name plan
              → with_points held stored state remote points plan ≡ Ok more → IsPlanOf held remotes name more
          points_good remote [] plan more there good is = let same : plan ≡ more = cc is in subst (IsPlanOf held remotes name) same good
          points_good remote (point ∷ points) plan more there good is =
              let one = then_ok (extension_at held stored state remote plan point) (λ found. with_points held stored state remote points (plan ++ option_to_list found)) more is in
              points_good remote points (plan ++ option_to_list one.0) more there
              (record {
                each = all_append (IsOffer held remotes) plan (option_to_list one.0) good.each (extension_good remote plan point one.0 there one.1);
                own = offers_more name plan (option_to_list one.0) good.own;
              })
              one.2

          extensions_good : (owner : Chosen) (plan more : List Offer) → IsOffer held remotes owner.offer → IsPlanOf held remotes name plan → with_extensions held stored state owner plan ≡ Ok more → IsPlanOf held remotes name more
          unfolding with_extensions
          extensions_good owner plan more offer good is = points_good owner.offer.remote (points_in owner.offer.name owner.metadata) plan more offer.remote good is

          with_good : (runtime : Option Chosen) (plan more : List Offer) → GoodRuntime runtime → IsPlanOf held remotes name plan → with_runtime held stored state runtime plan ≡ Ok more → IsPlanOf held remotes name more
          with_good None plan more runs good is = let same : plan ≡ more = cc is in subst (IsPlanOf held remotes name) same good
          with_good (Some c) plan more runs good is = extensions_good c plan more runs good is

        begun_good : (runtime : Option Chosen) (target : Chosen) → GoodRuntime runtime → IsOffer held remotes target.offer → IsPlanOf held remotes target.offer.name (begun runtime target)
        begun_good None target runs offer = record { each = (offer, tt); own = inl refl }
        begun_good (Some c) target runs offer = record { each = (runs, (offer, tt)); own = inr (inl refl) }

        extended_good : (target : Chosen) (runtime : Option Chosen) (plan : List Offer) → GoodRuntime runtime → IsOffer held remotes target.offer → extended held stored state target runtime ≡ Ok plan → IsPlanOf held remotes target.offer.name plan
        unfolding extended
        extended_good target runtime plan runs offer is =
            let one = then_ok (with_runtime held stored state runtime (begun runtime target)) (with_extensions held stored state target) plan is in
            extensions_good target.offer.name target one.0 plan offer (with_good target.offer.name runtime (begun runtime target) one.0 runs (begun_good runtime target runs offer) one.1) one.2

        -- ---- the operations

        abbrev AreTaken : Ref → List Op → Type 0
        AreTaken name ops = AllByRecursion (IsOffered held remotes) ops × IsAmong name ops

        abbrev op_by : Bool → Offer → Op
        op_by b o = if b then Update o.name o.remote.name o.commit else install_of o

        op_offered : (b : Bool) (o : Offer) → IsOffer held remotes o → IsOffered held remotes (op_by b o)
        op_offered true o offer = record { remote = o.remote; there = offer.remote; offers = offer.offers }
        op_offered false o offer = record { remote = o.remote; there = offer.remote; offers = offer.offers }

        op_named : (b : Bool) (o : Offer) (name : Ref) → o.name ≡ name → IsOf name (op_by b o)
        op_named true o name is = is
        op_named false o name is = is

        ops_offered : (plan : List Offer) → AllByRecursion (IsOffer held remotes) plan → AllByRecursion (IsOffered held remotes) (map (op_of state) plan)
        ops_offered [] each = tt
        ops_offered (o ∷ os) each = (op_offered (has_ref state o.name) o each.0, ops_offered os each.1)

        ops_among : (name : Ref) (plan : List Offer) → Offers name plan → IsAmong name (map (op_of state) plan)
        ops_among name [] none = absurd none
        ops_among name (o ∷ os) (inl is) = inl (op_named (has_ref state o.name) o name is)
        ops_among name (o ∷ os) (inr more) = inr (ops_among name os more)

        plan_taken : (name : Ref) (plan : List Offer) → IsPlanOf held remotes name plan → AreTaken name (map (op_of state) plan)
        plan_taken name plan good = (ops_offered plan good.each, ops_among name plan good.own)

        within_good : (name : Ref) (plan : List Offer) (ops : List Op) → IsPlanOf held remotes name plan → ops_within_limit state plan ≡ Ok ops → AreTaken name ops
        within_good name plan ops good is = by (leb (number_after state plan) 4096) is
          where
            by : (b : Bool) → (if b then Ok (map (op_of state) plan) else Err (refusals.Limit whats.Refs 4097)) ≡ Ok ops → AreTaken name ops
            by true is = let same : map (op_of state) plan ≡ ops = cc is in subst (AreTaken name) same (plan_taken name plan good)
            by false is = absurd (cc is)

        planned_good : (target : Chosen) (ops : List Op) → IsOffer held remotes target.offer → planned held stored state target ≡ Ok ops → AreTaken target.offer.name ops
        unfolding planned
        planned_good target ops offer is =
            let own = target.offer.remote.name in
            let named = runtime_named target.offer.name target.metadata in
            let one = then_ok (if_named held stored state own named) (plan_with held stored state target) ops is in
            let two = then_ok (extended held stored state target one.0) (ops_within_limit state) ops one.2 in
            within_good target.offer.name two.0 ops (extended_good target one.0 two.0 (named_good own named one.0 one.1) offer two.1) two.2

        abbrev Ends : Ref → List ℕ → List Op → Type 0
        Ends name commit ops = ((is_at commit (row_of state name) ≡ true) × (ops ≡ [])) ⊎ AreTaken name ops

        at_good : (remote : RemoteRow) (name : Ref) (commit : List ℕ) (ops : List Op) → at_name name_of remotes remote.name ≡ Some remote → offered held remote name ≡ Ok commit
            → planned_at held stored state (offer_with remote name commit) ≡ Ok ops → Ends name commit ops
        unfolding planned_at target_of
        at_good remote name commit ops there offers is = by (is_at commit (row_of state name)) refl is
          where
            o : Offer
            o = offer_with remote name commit

            since : Option ℕ
            since = time_of (row_of state name)

            by : (b : Bool) → is_at commit (row_of state name) ≡ b
                → (if b then Ok [] else and_then (mapped (chosen_with o) (head_of (have_at held stored remote) name commit since)) (planned held stored state)) ≡ Ok ops → Ends name commit ops
            by true at is = inl (at, sym (cc is))
            by false at is =
                let one = then_ok (mapped (chosen_with o) (head_of (have_at held stored remote) name commit since)) (planned held stored state) ops is in
                let two = mapped_ok (chosen_with o) (head_of (have_at held stored remote) name commit since) one.0 one.1 in
                let same : one.0.offer ≡ o = sym (ap (λ (c : Chosen). c.offer) two.2) in
                inr (subst (λ (p : Offer). AreTaken p.name ops) same
                (planned_good one.0 ops (subst (IsOffer held remotes) (sym same) (record { remote = there; offers = offers })) one.2))

pub plan_settles : (held : Holdings) (stored : Have) (state : State) (remote : RemoteRow) (name : Ref) (ops : List Op) → is_ascending (map name_of state.remotes) ≡ true
    → at_name name_of state.remotes remote.name ≡ Some remote → plan_of held stored state remote name ≡ Ok ops → Settles held state remote name ops
unfolding plan_of
plan_settles held stored state remote name ops ascend there is =
    let one = then_ok (offered held remote name) (λ commit. planned_at held stored state (offer_with remote name commit)) ops is in
    record {
      commit = one.0;
      offers = one.1;
      ends = at_good held state.remotes stored state refl ascend remote name one.0 ops there one.1 one.2;
    }
