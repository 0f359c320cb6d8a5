-- Worked plans.
use Rattle.std.proofs.Common.{◌≡◌, ◌≤◌, ◌<◌, ℕ, List, [], ◌∷◌, ◌++◌, map, true, false, Option, Some, None, Result, Ok, Err, refl, ◌∙◌, ap}
use Rattle.std.specs.Prelude.{option_to_list, if◌then◌else◌}
use Rattle.std.specs.Str.{bytes_eq}
use Rattle.std.proofs.lemmas.Bool.{le-leb, lt-leb, false_from_ne_true}
use Rattle.std.proofs.lemmas.List.{append-nil}
use Rattle.fp_base.specs.declared.what.What.TheVariants as whats
use Rattle.fp_base.proofs.Texts.{bytes_eq-true, bytes_eq-same}
use Rattle.fp_host.specs.Remote.{Holdings}
use Rattle.fp_name.specs.Refs.{Ref}
use Rattle.fp_small.specs.declared.refusal.Refusal.{Refusal}
use Rattle.fp_small.specs.declared.refusal.Refusal.TheVariants as refusals
use Rattle.fp_small.specs.declared.state.State.{State}
use Rattle.fp_small.specs.declared.state.RemoteRow.{RemoteRow}
use Rattle.ost_model.specs.Objects.{Have}
use Rattle.ost_head.specs.declared.head.Head.{Head}
use Rattle.ost_head.specs.Heads.{head_of}
use Rattle.ost_refs.specs.Offers.{offered}
use Rattle.fl_extension.specs.declared.point.Point.{Point}
use Rattle.fl_extension.specs.Found.{has_ref, row_of}
use Rattle.fl_plan.specs.Answers.{and_then, mapped}
use Rattle.fl_plan.specs.Offers.{offer_with, offer_of, first_of, in_turn, first_offer, have_at, chosen_with, chosen}
use Rattle.fl_installed.specs.Metadata.{runtime_named, points_in}
use Rattle.fl_plan.specs.Runtimes.{if_offered, runtime_for, if_named}
use Rattle.fl_plan.specs.Extensions.{is_done, if_any, extension_at, with_points, with_extensions}
use Rattle.fl_plan.specs.Plans.{op_of, number_after, ops_within_limit, extended, plan_with, planned, is_at, time_of, target_of, planned_at, plan_of}
use Rattle.fl_plan.specs.Worked.{Heads, IsTarget, Says}
use Rattle.fl_plan.specs.declared.offer.Offer.{Offer}
use Rattle.fl_plan.specs.declared.offer.Chosen.{Chosen}

module _ (held : Holdings) (stored : Have) (state : State) where
  -- ---- the parts of a plan

  chosen_here : (remote : RemoteRow) (name : Ref) (commit : List ℕ) (head : Head) → Heads held stored remote name None commit head
      → chosen held stored (offer_with remote name commit) ≡ Ok (chosen_with (offer_with remote name commit) head)
  unfolding chosen
  chosen_here remote name commit head is = ap (mapped (chosen_with (offer_with remote name commit))) is.heads

  chosen_refused : (remote : RemoteRow) (name : Ref) (commit : List ℕ) (r : Refusal) → head_of (have_at held stored remote) name commit None ≡ Err r
      → chosen held stored (offer_with remote name commit) ≡ Err r
  unfolding chosen
  chosen_refused remote name commit r is = ap (mapped (chosen_with (offer_with remote name commit))) is

  few_enough : (plan : List Offer) → number_after state plan ≤ 4096 → ops_within_limit state plan ≡ Ok (map (op_of state) plan)
  few_enough plan few = ap (λ b. if b then Ok (map (op_of state) plan) else Err (refusals.Limit whats.Refs 4097)) (le-leb (number_after state plan) 4096 few)

  too_many : (plan : List Offer) → 4096 < number_after state plan → ops_within_limit state plan ≡ Err (refusals.Limit whats.Refs 4097)
  too_many plan many = ap (λ b. if b then Ok (map (op_of state) plan) else Err (refusals.Limit whats.Refs 4097)) (lt-leb (number_after state plan) 4096 many)

  -- without extensions nothing more comes
  none_more : (owner : Chosen) (plan : List Offer) → points_in owner.offer.name owner.metadata ≡ [] → with_extensions held stored state owner plan ≡ Ok plan
  unfolding with_extensions
  none_more owner plan none = ap (λ (ps : List Point). with_points held stored state owner.offer.remote ps plan) none

  -- with one, it comes
  one_more : (owner : Chosen) (plan : List Offer) (point : Point) (more : Option Offer) → points_in owner.offer.name owner.metadata ≡ point ∷ [] → extension_at held stored state owner.offer.remote plan point ≡ Ok more
      → with_extensions held stored state owner plan ≡ Ok (plan ++ option_to_list more)
  unfolding with_extensions
  one_more owner plan point more one is =
      ap (λ (ps : List Point). with_points held stored state owner.offer.remote ps plan) one
      ∙ ap (λ r. and_then r (λ m. with_points held stored state owner.offer.remote [] (plan ++ option_to_list m))) is

  -- nor with one that is done, or that nothing is offered for
  brings_none : (owner : Chosen) (plan : List Offer) (point : Point) → points_in owner.offer.name owner.metadata ≡ point ∷ [] → extension_at held stored state owner.offer.remote plan point ≡ Ok None
      → with_extensions held stored state owner plan ≡ Ok plan
  brings_none owner plan point one is = one_more owner plan point None one is ∙ ap (λ (p : List Offer). Ok p) (append-nil plan)

  -- a point that is refused ends them
  refuses : (owner : Chosen) (plan : List Offer) (point : Point) (points : List Point) (r : Refusal) → points_in owner.offer.name owner.metadata ≡ point ∷ points
      → extension_at held stored state owner.offer.remote plan point ≡ Err r → with_extensions held stored state owner plan ≡ Err r
  unfolding with_extensions
  refuses owner plan point points r one is =
      ap (λ (ps : List Point). with_points held stored state owner.offer.remote ps plan) one
      ∙ ap (λ x. and_then x (λ m. with_points held stored state owner.offer.remote points (plan ++ option_to_list m))) is

  ends_refused : (target : Chosen) (runtime : Option Chosen) (r : Refusal) → extended held stored state target runtime ≡ Err r → plan_with held stored state target runtime ≡ Err r
  ends_refused target runtime r is = ap (λ x. and_then x (ops_within_limit state)) is

  no_runtime_refused : (target : Chosen) (r : Refusal) → with_extensions held stored state target (target.offer ∷ []) ≡ Err r → extended held stored state target None ≡ Err r
  unfolding extended
  no_runtime_refused target r is = is

  with_runtime_refused : (target runtime : Chosen) (r : Refusal) → with_extensions held stored state runtime (runtime.offer ∷ target.offer ∷ []) ≡ Err r → extended held stored state target (Some runtime) ≡ Err r
  unfolding extended
  with_runtime_refused target runtime r is = ap (λ x. and_then x (with_extensions held stored state target)) is

  extends : (target : Chosen) (runtime : Option Chosen) (plan : List Offer) → extended held stored state target runtime ≡ Ok plan → plan_with held stored state target runtime ≡ ops_within_limit state plan
  extends target runtime plan is = ap (λ r. and_then r (ops_within_limit state)) is

  no_runtime_more : (target : Chosen) (plan : List Offer) → with_extensions held stored state target (target.offer ∷ []) ≡ Ok plan → extended held stored state target None ≡ Ok plan
  unfolding extended
  no_runtime_more target plan is = is

  with_runtime_none : (target runtime : Chosen) → points_in runtime.offer.name runtime.metadata ≡ [] → points_in target.offer.name target.metadata ≡ []
      → extended held stored state target (Some runtime) ≡ Ok (runtime.offer ∷ target.offer ∷ [])
  unfolding extended
  with_runtime_none target runtime none nothing =
      ap (λ r. and_then r (with_extensions held stored state target)) (none_more runtime (runtime.offer ∷ target.offer ∷ []) none)
      ∙ none_more target (runtime.offer ∷ target.offer ∷ []) nothing

  comes : (remote : RemoteRow) (plan : List Offer) (point : Point) (c : Ref) (d : List ℕ) (below : Head) → is_done state plan point ≡ false
      → first_of (offer_of held remote) point.candidates ≡ Some (offer_with remote c d) → Heads held stored remote c None d below
      → extension_at held stored state remote plan point ≡ Ok (Some (offer_with remote c d))
  unfolding extension_at
  comes remote plan point c d below wanting is heads =
      ap (λ b. if b then Ok None else if_any held stored (first_of (offer_of held remote) point.candidates)) wanting
      ∙ ap (if_any held stored) is
      ∙ ap (mapped (λ k. Some k.offer)) (chosen_here remote c d below heads)

  refused : (remote : RemoteRow) (plan : List Offer) (point : Point) (c : Ref) (d : List ℕ) (r : Refusal) → is_done state plan point ≡ false
      → first_of (offer_of held remote) point.candidates ≡ Some (offer_with remote c d) → head_of (have_at held stored remote) c d None ≡ Err r → extension_at held stored state remote plan point ≡ Err r
  unfolding extension_at
  refused remote plan point c d r wanting is bad =
      ap (λ b. if b then Ok None else if_any held stored (first_of (offer_of held remote) point.candidates)) wanting
      ∙ ap (if_any held stored) is
      ∙ ap (mapped (λ k. Some k.offer)) (chosen_refused remote c d r bad)

  filled : (remote : RemoteRow) (plan : List Offer) (point : Point) → is_done state plan point ≡ true → extension_at held stored state remote plan point ≡ Ok None
  unfolding extension_at
  filled remote plan point done = ap (λ b. if b then Ok None else if_any held stored (first_of (offer_of held remote) point.candidates)) done

  not_offered : (remote : RemoteRow) (plan : List Offer) (point : Point) → is_done state plan point ≡ false → first_of (offer_of held remote) point.candidates ≡ None
      → extension_at held stored state remote plan point ≡ Ok None
  unfolding extension_at
  not_offered remote plan point wanting none =
      ap (λ b. if b then Ok None else if_any held stored (first_of (offer_of held remote) point.candidates)) wanting
      ∙ ap (if_any held stored) none

  with_runtime_both : (target runtime : Chosen) (p q : Point) (a b : Offer) → points_in runtime.offer.name runtime.metadata ≡ p ∷ [] → points_in target.offer.name target.metadata ≡ q ∷ []
      → extension_at held stored state runtime.offer.remote (runtime.offer ∷ target.offer ∷ []) p ≡ Ok (Some a)
      → extension_at held stored state target.offer.remote (runtime.offer ∷ target.offer ∷ a ∷ []) q ≡ Ok (Some b)
      → extended held stored state target (Some runtime) ≡ Ok (runtime.offer ∷ target.offer ∷ a ∷ b ∷ [])
  unfolding extended
  with_runtime_both target runtime p q a b one other first second =
      ap (λ r. and_then r (with_extensions held stored state target)) (one_more runtime (runtime.offer ∷ target.offer ∷ []) p (Some a) one first)
      ∙ one_more target (runtime.offer ∷ target.offer ∷ a ∷ []) q (Some b) other second

  -- ---- a target

  module _ (remote : RemoteRow) (name : Ref) (commit : List ℕ) where
    abbrev own : Offer
    own = offer_with remote name commit

    pub up_to_date : offered held remote name ≡ Ok commit → is_at commit (row_of state name) ≡ true → plan_of held stored state remote name ≡ Ok []
    unfolding plan_of planned_at
    up_to_date offers is =
        ap (λ r. and_then r (λ c. planned_at held stored state (offer_with remote name c))) offers
        ∙ ap (λ b. if b then Ok [] else and_then (target_of held stored state own) (planned held stored state)) is

    pub head_refuses : (r : Refusal) → offered held remote name ≡ Ok commit → is_at commit (row_of state name) ≡ false
        → head_of (have_at held stored remote) name commit (time_of (row_of state name)) ≡ Err r → plan_of held stored state remote name ≡ Err r
    unfolding plan_of planned_at target_of
    head_refuses r offers moves is =
        ap (λ x. and_then x (λ c. planned_at held stored state (offer_with remote name c))) offers
        ∙ ap (λ b. if b then Ok [] else and_then (target_of held stored state own) (planned held stored state)) moves
        ∙ ap (λ x. and_then (mapped (chosen_with own) x) (planned held stored state)) is

    module _ (head : Head) (target : IsTarget held stored state remote name commit head) where
      abbrev checked : Chosen
      checked = chosen_with own head

      at_target : plan_of held stored state remote name ≡ planned held stored state checked
      unfolding plan_of planned_at target_of
      at_target =
          ap (λ r. and_then r (λ c. planned_at held stored state (offer_with remote name c))) target.heads.offers
          ∙ ap (λ b. if b then Ok [] else and_then (target_of held stored state own) (planned held stored state)) target.moves
          ∙ ap (λ r. and_then (mapped (chosen_with own) r) (planned held stored state)) target.heads.heads

      named : (runtime : Option Ref) → runtime_named name head.metadata ≡ runtime → planned held stored state checked ≡ and_then (if_named held stored state remote.name runtime) (plan_with held stored state checked)
      unfolding planned
      named runtime is = ap (λ n. and_then (if_named held stored state remote.name n) (plan_with held stored state checked)) is

      installed : (runtime : Ref) → has_ref state runtime ≡ true → runtime_for held stored state remote.name runtime ≡ Ok None
      unfolding runtime_for
      installed runtime has = ap (λ b. if b then Ok None else if_offered held stored runtime (first_offer held (in_turn remote.name state.remotes) runtime)) has

      looked_for : (runtime : Ref) (offer : Option Offer) → has_ref state runtime ≡ false → first_offer held (in_turn remote.name state.remotes) runtime ≡ offer
          → runtime_for held stored state remote.name runtime ≡ if_offered held stored runtime offer
      unfolding runtime_for
      looked_for runtime offer none is =
          ap (λ b. if b then Ok None else if_offered held stored runtime (first_offer held (in_turn remote.name state.remotes) runtime)) none
          ∙ ap (if_offered held stored runtime) is

      by_runtime : (runtime : Ref) (answer : Result (Option Chosen) Refusal) (points : List Point) → Says name head (Some runtime) points → runtime_for held stored state remote.name runtime ≡ answer
          → plan_of held stored state remote name ≡ and_then answer (plan_with held stored state checked)
      by_runtime runtime answer points says is = at_target ∙ named (Some runtime) says.runtime_is ∙ ap (λ r. and_then r (plan_with held stored state checked)) is

      -- a runtime
      pub runtime_alone : Says name head None [] → number_after state (own ∷ []) ≤ 4096 → plan_of held stored state remote name ≡ Ok (op_of state own ∷ [])
      runtime_alone says few =
          at_target
          ∙ named None says.runtime_is
          ∙ extends checked None (own ∷ []) (no_runtime_more checked (own ∷ []) (none_more checked (own ∷ []) says.points_are))
          ∙ few_enough (own ∷ []) few

      -- an application whose runtime is installed
      pub runtime_installed : (runtime : Ref) → Says name head (Some runtime) [] → has_ref state runtime ≡ true → number_after state (own ∷ []) ≤ 4096
          → plan_of held stored state remote name ≡ Ok (op_of state own ∷ [])
      runtime_installed runtime says has few =
          by_runtime runtime (Ok None) [] says (installed runtime has)
          ∙ extends checked None (own ∷ []) (no_runtime_more checked (own ∷ []) (none_more checked (own ∷ []) says.points_are))
          ∙ few_enough (own ∷ []) few

      pub passes_limit : (runtime : Ref) → Says name head (Some runtime) [] → has_ref state runtime ≡ true → 4096 < number_after state (own ∷ [])
          → plan_of held stored state remote name ≡ Err (refusals.Limit whats.Refs 4097)
      passes_limit runtime says has many =
          by_runtime runtime (Ok None) [] says (installed runtime has)
          ∙ extends checked None (own ∷ []) (no_runtime_more checked (own ∷ []) (none_more checked (own ∷ []) says.points_are))
          ∙ too_many (own ∷ []) many

      -- one whose runtime nothing offers
      pub runtime_missing : (runtime : Ref) (points : List Point) → Says name head (Some runtime) points → has_ref state runtime ≡ false
          → first_offer held (in_turn remote.name state.remotes) runtime ≡ None → plan_of held stored state remote name ≡ Err (refusals.RuntimeMissing runtime)
      runtime_missing runtime points says none is = by_runtime runtime (Err (refusals.RuntimeMissing runtime)) points says (looked_for runtime None none is)

      -- or whose runtime is refused
      pub runtime_refused : (runtime : Ref) (points : List Point) (other : RemoteRow) (d : List ℕ) (r : Refusal) → Says name head (Some runtime) points → has_ref state runtime ≡ false
          → first_offer held (in_turn remote.name state.remotes) runtime ≡ Some (offer_with other runtime d) → head_of (have_at held stored other) runtime d None ≡ Err r
          → plan_of held stored state remote name ≡ Err r
      runtime_refused runtime points other d r says none is bad =
          by_runtime runtime (Err r) points says
          (looked_for runtime (Some (offer_with other runtime d)) none is ∙ ap (mapped (λ c. Some c)) (chosen_refused other runtime d r bad))

      -- one whose runtime comes along, from the first remote that offers it
      pub runtime_comes : (runtime : Ref) (other : RemoteRow) (d : List ℕ) (below : Head) → Says name head (Some runtime) [] → Says runtime below None [] → has_ref state runtime ≡ false
          → first_offer held (in_turn remote.name state.remotes) runtime ≡ Some (offer_with other runtime d) → Heads held stored other runtime None d below
          → number_after state (offer_with other runtime d ∷ own ∷ []) ≤ 4096
          → plan_of held stored state remote name ≡ Ok (op_of state (offer_with other runtime d) ∷ op_of state own ∷ [])
      runtime_comes runtime other d below says nothing none is heads few =
          let found = chosen_with (offer_with other runtime d) below in
          by_runtime runtime (Ok (Some found)) [] says
          (looked_for runtime (Some (offer_with other runtime d)) none is ∙ ap (mapped (λ c. Some c)) (chosen_here other runtime d below heads))
          ∙ extends checked (Some found) (offer_with other runtime d ∷ own ∷ []) (with_runtime_none checked found nothing.points_are says.points_are)
          ∙ few_enough (offer_with other runtime d ∷ own ∷ []) few

      -- one with an extension that its remote offers
      pub extension_comes : (runtime : Ref) (point : Point) (c : Ref) (d : List ℕ) (below : Head) → Says name head (Some runtime) (point ∷ []) → has_ref state runtime ≡ true
          → is_done state (own ∷ []) point ≡ false → first_of (offer_of held remote) point.candidates ≡ Some (offer_with remote c d) → Heads held stored remote c None d below
          → number_after state (own ∷ offer_with remote c d ∷ []) ≤ 4096
          → plan_of held stored state remote name ≡ Ok (op_of state own ∷ op_of state (offer_with remote c d) ∷ [])
      extension_comes runtime point c d below says has wanting is heads few =
          by_runtime runtime (Ok None) (point ∷ []) says (installed runtime has)
          ∙ extends checked None (own ∷ offer_with remote c d ∷ []) (no_runtime_more checked (own ∷ offer_with remote c d ∷ [])
          (one_more checked (own ∷ []) point (Some (offer_with remote c d)) says.points_are (comes remote (own ∷ []) point c d below wanting is heads)))
          ∙ few_enough (own ∷ offer_with remote c d ∷ []) few

      -- one whose extension is there, or isn't offered
      alone : (runtime : Ref) (point : Point) → Says name head (Some runtime) (point ∷ []) → has_ref state runtime ≡ true → extension_at held stored state remote (own ∷ []) point ≡ Ok None
          → number_after state (own ∷ []) ≤ 4096 → plan_of held stored state remote name ≡ Ok (op_of state own ∷ [])
      alone runtime point says has is few =
          by_runtime runtime (Ok None) (point ∷ []) says (installed runtime has)
          ∙ extends checked None (own ∷ []) (no_runtime_more checked (own ∷ []) (brings_none checked (own ∷ []) point says.points_are is))
          ∙ few_enough (own ∷ []) few

      pub extension_filled : (runtime : Ref) (point : Point) → Says name head (Some runtime) (point ∷ []) → has_ref state runtime ≡ true → is_done state (own ∷ []) point ≡ true
          → number_after state (own ∷ []) ≤ 4096 → plan_of held stored state remote name ≡ Ok (op_of state own ∷ [])
      extension_filled runtime point says has done few = alone runtime point says has (filled remote (own ∷ []) point done) few

      pub extension_missing : (runtime : Ref) (point : Point) → Says name head (Some runtime) (point ∷ []) → has_ref state runtime ≡ true → is_done state (own ∷ []) point ≡ false
          → first_of (offer_of held remote) point.candidates ≡ None → number_after state (own ∷ []) ≤ 4096 → plan_of held stored state remote name ≡ Ok (op_of state own ∷ [])
      extension_missing runtime point says has wanting none few = alone runtime point says has (not_offered remote (own ∷ []) point wanting none) few

      -- one with an extension that is refused
      pub extension_refused : (runtime : Ref) (point : Point) (points : List Point) (c : Ref) (d : List ℕ) (r : Refusal) → Says name head (Some runtime) (point ∷ points) → has_ref state runtime ≡ true
          → is_done state (own ∷ []) point ≡ false → first_of (offer_of held remote) point.candidates ≡ Some (offer_with remote c d) → head_of (have_at held stored remote) c d None ≡ Err r
          → plan_of held stored state remote name ≡ Err r
      extension_refused runtime point points c d r says has wanting is bad =
          by_runtime runtime (Ok None) (point ∷ points) says (installed runtime has)
          ∙ ends_refused checked None r
          (no_runtime_refused checked r (refuses checked (own ∷ []) point points r says.points_are (refused remote (own ∷ []) point c d r wanting is bad)))

      -- one whose runtime comes along with an extension that is refused
      pub runtime_extension_refused : (runtime : Ref) (other : RemoteRow) (d : List ℕ) (below : Head) (mine points : List Point) (point : Point) (c : Ref) (e : List ℕ) (r : Refusal)
          → Says name head (Some runtime) mine → Says runtime below None (point ∷ points) → has_ref state runtime ≡ false
          → first_offer held (in_turn remote.name state.remotes) runtime ≡ Some (offer_with other runtime d) → Heads held stored other runtime None d below
          → is_done state (offer_with other runtime d ∷ own ∷ []) point ≡ false → first_of (offer_of held other) point.candidates ≡ Some (offer_with other c e)
          → head_of (have_at held stored other) c e None ≡ Err r → plan_of held stored state remote name ≡ Err r
      runtime_extension_refused runtime other d below mine points point c e r says saying none is heads wanting offers bad =
          let found = chosen_with (offer_with other runtime d) below in
          by_runtime runtime (Ok (Some found)) mine says
          (looked_for runtime (Some (offer_with other runtime d)) none is ∙ ap (mapped (λ x. Some x)) (chosen_here other runtime d below heads))
          ∙ ends_refused checked (Some found) r (with_runtime_refused checked found r
          (refuses found (offer_with other runtime d ∷ own ∷ []) point points r saying.points_are (refused other (offer_with other runtime d ∷ own ∷ []) point c e r wanting offers bad)))

      -- one whose runtime comes along, each with an extension
      module _ (runtime : Ref) (other : RemoteRow) (d : List ℕ) (below : Head) (p q : Point) (c k : Ref) (e f : List ℕ) (first second : Head) where
        abbrev brought : Offer
        brought = offer_with other runtime d

        abbrev of_runtime : Offer
        of_runtime = offer_with other c e

        abbrev of_target : Offer
        of_target = offer_with remote k f

        pub extensions_come : Says name head (Some runtime) (q ∷ []) → Says runtime below None (p ∷ []) → has_ref state runtime ≡ false
            → first_offer held (in_turn remote.name state.remotes) runtime ≡ Some brought → Heads held stored other runtime None d below
            → is_done state (brought ∷ own ∷ []) p ≡ false → first_of (offer_of held other) p.candidates ≡ Some of_runtime → Heads held stored other c None e first
            → is_done state (brought ∷ own ∷ of_runtime ∷ []) q ≡ false → first_of (offer_of held remote) q.candidates ≡ Some of_target → Heads held stored remote k None f second
            → number_after state (brought ∷ own ∷ of_runtime ∷ of_target ∷ []) ≤ 4096
            → plan_of held stored state remote name ≡ Ok (op_of state brought ∷ op_of state own ∷ op_of state of_runtime ∷ op_of state of_target ∷ [])
        extensions_come says saying none is heads wants is_first heads_first wanting is_second heads_second few =
            let found = chosen_with brought below in
            by_runtime runtime (Ok (Some found)) (q ∷ []) says
            (looked_for runtime (Some brought) none is ∙ ap (mapped (λ x. Some x)) (chosen_here other runtime d below heads))
            ∙ extends checked (Some found) (brought ∷ own ∷ of_runtime ∷ of_target ∷ [])
            (with_runtime_both checked found p q of_runtime of_target saying.points_are says.points_are
            (comes other (brought ∷ own ∷ []) p c e first wants is_first heads_first)
            (comes remote (brought ∷ own ∷ of_runtime ∷ []) q k f second wanting is_second heads_second))
            ∙ few_enough (brought ∷ own ∷ of_runtime ∷ of_target ∷ []) few

-- the own remote is asked first, wherever it stands; where it offers nothing, the others are
pub own_first : (other own : RemoteRow) → (other.name ≡ own.name → ⊥) → in_turn own.name (other ∷ own ∷ []) ≡ own ∷ other ∷ []
own_first other own differ =
    let off : bytes_eq other.name own.name ≡ false = false_from_ne_true (bytes_eq other.name own.name) (λ t. differ (bytes_eq-true other.name own.name t)) in
    let same = bytes_eq-same own.name in
    rw (same, off) refl

pub second_offers : (held : Holdings) (first second : RemoteRow) (name : Ref) (r : Refusal) (d : List ℕ) → offered held first name ≡ Err r → offered held second name ≡ Ok d
    → first_offer held (first ∷ second ∷ []) name ≡ Some (offer_with second name d)
second_offers held first second name r d refused offers = rw (refused, offers) refl

-- the first candidate that is offered is taken
pub candidate_offers : (held : Holdings) (remote : RemoteRow) (c : Ref) (more : List Ref) (d : List ℕ) → offered held remote c ≡ Ok d → first_of (offer_of held remote) (c ∷ more) ≡ Some (offer_with remote c d)
candidate_offers held remote c more d offers = rw offers refl

pub candidate_refused : (held : Holdings) (remote : RemoteRow) (c : Ref) (more : List Ref) (r : Refusal) → offered held remote c ≡ Err r → first_of (offer_of held remote) (c ∷ more) ≡ first_of (offer_of held remote) more
candidate_refused held remote c more r refused = rw refused refl
