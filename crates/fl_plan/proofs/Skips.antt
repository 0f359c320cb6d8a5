-- A plan says of no ref but its own that it isn't offered.
use Rattle.std.proofs.Common.{◌≡◌, ℕ, List, [], ◌∷◌, map, Bool, true, false, leb, Option, Some, None, Result, Ok, Err, ap}
use Rattle.std.specs.Option.{option_or}
use Rattle.std.specs.Prelude.{option_map, option_to_list, length, codes, if◌then◌else◌, ◌++◌, ◌*◌}
use Rattle.fp_host.specs.Remote.{Holdings}
use Rattle.fp_base.specs.declared.object.ObjKind.{ObjKind}
use Rattle.fp_base.specs.declared.object.ObjKind.TheVariants as kinds
use Rattle.fp_base.specs.declared.what.What.TheVariants as whats
use Rattle.fp_base.specs.declared.meta_rule.MetaRule.{MetaRule}
use Rattle.fp_keyfile.specs.declared.group.Group.{Group}
use Rattle.fp_keyfile.specs.declared.fault.KeyFault.{KeyFault}
use Rattle.fp_keyfile.specs.KeyFile.{file_of}
use Rattle.fp_name.specs.Refs.{Ref, ref_text}
use Rattle.fp_small.specs.declared.refusal.Refusal.{Refusal}
use Rattle.fp_small.specs.declared.refusal.Refusal.TheVariants as refusals
use Rattle.fp_small.specs.declared.state.State.{State}
use Rattle.fp_small.specs.declared.state.RemoteRow.{RemoteRow}
use Rattle.fl_meta.specs.declared.meta.Meta.{Meta}
use Rattle.fl_meta.specs.Metadata.{meta_of, meta_kind}
use Rattle.fl_extension.specs.declared.point.Point.{Point}
use Rattle.fl_extension.specs.Found.{has_ref, row_of}
use Rattle.ost_model.specs.Fields.{CommitView, TreeView}
use Rattle.ost_model.specs.Objects.{Have, Fault, too_many, too_deep, missing, too_long, refused_mode, corrupt, malformed, object_fault}
use Rattle.ost_model.specs.Order.{commit_at, tree_at}
use Rattle.ost_model.specs.Look.{Found, nothing, directory, file_at, entry_in}
use Rattle.ost_model.specs.Binding.{binding_in}
use Rattle.ost_walk.specs.Refusals.{refusal_of, object_refused}
use Rattle.ost_head.specs.Heads.{lists, binding_refused, age_refused, commit_refused, is_nothing, root_refused, meta_refused, lines_refused, metadata_refused, unless_refused, content_in, with_content, metadata_at, head_in, with_tree, with_commit, head_of}
use Rattle.ost_refs.specs.Offers.{offered}
use Rattle.fl_plan.specs.Answers.{and_then, mapped}
use Rattle.fl_plan.specs.Offers.{offer_with, offer_of, first_of, first_offer, in_turn, have_at, chosen_with, chosen}
use Rattle.fl_installed.specs.Metadata.{runtime_named, points_in}
use Rattle.fl_plan.specs.Runtimes.{if_offered, runtime_for, if_named}
use Rattle.fl_plan.specs.Extensions.{is_done, if_any, extension_at, with_points, with_extensions, with_runtime}
use Rattle.fl_plan.specs.Plans.{op_of, number_after, ops_within_limit, begun, extended, plan_with, planned, is_at, time_of, target_of, planned_at, plan_of}
use Rattle.fl_plan.specs.declared.offer.Offer.{Offer}
use Rattle.fl_plan.specs.declared.offer.Chosen.{Chosen}

-- ---- answers without this refusal

abbrev Never : {A : Type 0} → Result A Refusal → Type 0
Never result = (r : List ℕ) (n : Ref) → result ≡ Err (refusals.NoSuchRef r n) → ⊥

abbrev NeverSome : Option Refusal → Type 0
NeverSome refused = (r : List ℕ) (n : Ref) → refused ≡ Some (refusals.NoSuchRef r n) → ⊥

never_ok : {A : Type 0} (a : A) → Never {A = A} (Ok a)
never_ok a r n is = absurd (cc is)

never_then : {A B : Type 0} (first : Result A Refusal) (next : A → Result B Refusal) → Never first → ((a : A) → Never (next a)) → Never (and_then first next)
never_then (Ok a) next before after r n is = after a r n is
never_then (Err e) next before after r n is = before r n (cc is)

never_mapped : {A B : Type 0} (f : A → B) (first : Result A Refusal) → Never first → Never (mapped f first)
never_mapped f (Ok a) before r n is = absurd (cc is)
never_mapped f (Err e) before r n is = before r n (cc is)

never_if : {A : Type 0} (b : Bool) (x y : Result A Refusal) → Never x → Never y → Never (if b then x else y)
never_if true x y nx ny = nx
never_if false x y nx ny = ny

some_if : (b : Bool) (x y : Option Refusal) → NeverSome x → NeverSome y → NeverSome (if b then x else y)
some_if true x y nx ny = nx
some_if false x y nx ny = ny

never_unless : {A : Type 0} (refused : Option Refusal) (answer : Result A Refusal) → NeverSome refused → Never answer → Never (unless_refused refused answer)
never_unless None answer before after r n is = after r n is
never_unless (Some e) answer before after r n is = before r n (cc is)

never_or : (a b : Option Refusal) → NeverSome a → NeverSome b → NeverSome (option_or a b)
never_or None b before after r n is = after r n is
never_or (Some e) b before after r n is = before r n is

none_refused : NeverSome None
none_refused r n is = absurd (cc is)

-- ---- heads

fault_refused : (d : List ℕ) (kind : ObjKind) (fault : Option Fault) → NeverSome (option_map (refusal_of d kind) fault)
fault_refused d kind None r n is = absurd (cc is)
fault_refused d kind (Some too_many) r n is = absurd (cc is)
fault_refused d kind (Some too_deep) r n is = absurd (cc is)
fault_refused d kind (Some missing) r n is = absurd (cc is)
fault_refused d kind (Some (too_long size)) r n is = absurd (cc is)
fault_refused d kind (Some (refused_mode mode)) r n is = absurd (cc is)
fault_refused d kind (Some (corrupt got)) r n is = absurd (cc is)
fault_refused d kind (Some (malformed rule)) r n is = absurd (cc is)

never_object : (have : Have) (d : List ℕ) (kind : ObjKind) → NeverSome (object_refused have d kind)
never_object have d kind = fault_refused d kind (object_fault d kind (have d kind))

never_binding : (name : Ref) (names : Option (List (List ℕ))) → NeverSome (binding_refused name names)
never_binding name None = none_refused
never_binding name (Some names) = some_if (lists names (ref_text name)) None (Some (refusals.RefBinding name)) none_refused (λ r n is. absurd (cc is))

never_age : (name : Ref) (since : Option ℕ) (offered : ℕ) → NeverSome (age_refused name since offered)
never_age name None offered = none_refused
never_age name (Some have) offered = some_if (leb have offered) None (Some (refusals.Older name have offered)) none_refused (λ r n is. absurd (cc is))

never_root : (commit : List ℕ) (v : TreeView) → NeverSome (root_refused commit v)
never_root commit v = some_if (is_nothing (entry_in (codes "deploy") (Some v))) None (Some (refusals.ReservedName commit)) none_refused (λ r n is. absurd (cc is))

never_meta : (name : Ref) (read : Result Meta MetaRule) → NeverSome (meta_refused name read)
never_meta name (Ok meta) = none_refused
never_meta name (Err rule) = λ r n is. absurd (cc is)

never_lines : (name : Ref) (read : Result (List Group) KeyFault) → NeverSome (lines_refused name read)
never_lines name (Ok file) = never_meta name (meta_of (meta_kind name.kind) file)
never_lines name (Err fault) = λ r n is. absurd (cc is)

module _ (name : Ref) (commit : List ℕ) where
  never_content : (time : ℕ) (content : Option (List ℕ)) → Never (with_content name commit time content)
  never_content time None = λ r n is. absurd (cc is)
  never_content time (Some bytes) =
      never_unless (metadata_refused name bytes) (Ok (record { commit = commit; timestamp = time; metadata = bytes }))
      (some_if (leb (length bytes) (1024 * 1024)) (lines_refused name (file_of bytes)) (Some (refusals.Limit whats.MetadataFile (length bytes))) (never_lines name (file_of bytes)) (λ r n is. absurd (cc is)))
      (never_ok (record { commit = commit; timestamp = time; metadata = bytes }))

  module _ (have : Have) where
    never_metadata : (time : ℕ) (found : Found) → Never (metadata_at have name commit time found)
    never_metadata time nothing = λ r n is. absurd (cc is)
    never_metadata time (directory e) = λ r n is. absurd (cc is)
    never_metadata time (file_at d) =
        never_unless (object_refused have d kinds.File) (with_content name commit time (content_in (have d kinds.File))) (never_object have d kinds.File) (never_content time (content_in (have d kinds.File)))

    module _ (since : Option ℕ) where
      never_in : (c : CommitView) (v : TreeView) → Never (head_in have name commit since c v)
      never_in c v =
          never_unless (option_or (commit_refused name since c) (root_refused commit v)) (metadata_at have name commit c.timestamp (entry_in (codes "metadata") (Some v)))
          (never_or (commit_refused name since c) (root_refused commit v)
          (never_or (binding_refused name (binding_in c.metadata)) (age_refused name since c.timestamp) (never_binding name (binding_in c.metadata)) (never_age name since c.timestamp))
          (never_root commit v))
          (never_metadata c.timestamp (entry_in (codes "metadata") (Some v)))

      never_tree : (c : CommitView) (v : Option TreeView) → Never (with_tree have name commit since c v)
      never_tree c None = λ r n is. absurd (cc is)
      never_tree c (Some v) = never_unless (object_refused have c.meta kinds.DirMeta) (head_in have name commit since c v) (never_object have c.meta kinds.DirMeta) (never_in c v)

      never_commit : (c : Option CommitView) → Never (with_commit have name commit since c)
      never_commit None = λ r n is. absurd (cc is)
      never_commit (Some c) = never_unless (object_refused have c.tree kinds.DirTree) (with_tree have name commit since c (tree_at have c.tree)) (never_object have c.tree kinds.DirTree) (never_tree c (tree_at have c.tree))

      never_head : Never (head_of have name commit since)
      never_head = never_unless (object_refused have commit kinds.Commit) (with_commit have name commit since (commit_at have commit)) (never_object have commit kinds.Commit) (never_commit (commit_at have commit))

-- ---- plans

module _ (held : Holdings) (stored : Have) where
  never_chosen : (offer : Offer) → Never (chosen held stored offer)
  unfolding chosen
  never_chosen offer = never_mapped (chosen_with offer) (head_of (have_at held stored offer.remote) offer.name offer.commit None) (never_head offer.name offer.commit (have_at held stored offer.remote) None)

  module _ (state : State) where
    never_offered : (runtime : Ref) (offer : Option Offer) → Never (if_offered held stored runtime offer)
    never_offered runtime None = λ r n is. absurd (cc is)
    never_offered runtime (Some offer) = never_mapped (λ c. Some c) (chosen held stored offer) (never_chosen offer)

    never_runtime : (own : List ℕ) (runtime : Ref) → Never (runtime_for held stored state own runtime)
    unfolding runtime_for
    never_runtime own runtime =
        never_if (has_ref state runtime) (Ok None) (if_offered held stored runtime (first_offer held (in_turn own state.remotes) runtime)) (never_ok None)
        (never_offered runtime (first_offer held (in_turn own state.remotes) runtime))

    never_named : (own : List ℕ) (runtime : Option Ref) → Never (if_named held stored state own runtime)
    never_named own None = never_ok None
    never_named own (Some runtime) = never_runtime own runtime

    never_any : (offer : Option Offer) → Never (if_any held stored offer)
    never_any None = never_ok None
    never_any (Some offer) = never_mapped (λ c. Some c.offer) (chosen held stored offer) (never_chosen offer)

    never_extension : (remote : RemoteRow) (plan : List Offer) (point : Point) → Never (extension_at held stored state remote plan point)
    unfolding extension_at
    never_extension remote plan point =
        never_if (is_done state plan point) (Ok None) (if_any held stored (first_of (offer_of held remote) point.candidates)) (never_ok None)
        (never_any (first_of (offer_of held remote) point.candidates))

    never_points : (remote : RemoteRow) (points : List Point) (plan : List Offer) → Never (with_points held stored state remote points plan)
    never_points remote [] plan = never_ok plan
    never_points remote (point ∷ points) plan =
        never_then (extension_at held stored state remote plan point) (λ more. with_points held stored state remote points (plan ++ option_to_list more)) (never_extension remote plan point)
        (λ more. never_points remote points (plan ++ option_to_list more))

    never_extensions : (owner : Chosen) (plan : List Offer) → Never (with_extensions held stored state owner plan)
    unfolding with_extensions
    never_extensions owner plan = never_points owner.offer.remote (points_in owner.offer.name owner.metadata) plan

    never_with : (runtime : Option Chosen) (plan : List Offer) → Never (with_runtime held stored state runtime plan)
    never_with None plan = never_ok plan
    never_with (Some c) plan = never_extensions c plan

    never_within : (plan : List Offer) → Never (ops_within_limit state plan)
    never_within plan = never_if (leb (number_after state plan) 4096) (Ok (map (op_of state) plan)) (Err (refusals.Limit whats.Refs 4097)) (never_ok (map (op_of state) plan)) (λ r n is. absurd (cc is))

    never_extended : (target : Chosen) (runtime : Option Chosen) → Never (extended held stored state target runtime)
    unfolding extended
    never_extended target runtime =
        never_then (with_runtime held stored state runtime (begun runtime target)) (with_extensions held stored state target) (never_with runtime (begun runtime target)) (never_extensions target)

    never_planned : (target : Chosen) → Never (planned held stored state target)
    unfolding planned
    never_planned target =
        let own = target.offer.remote.name in
        let named = runtime_named target.offer.name target.metadata in
        never_then (if_named held stored state own named) (plan_with held stored state target) (never_named own named)
        (λ runtime. never_then (extended held stored state target runtime) (ops_within_limit state) (never_extended target runtime) never_within)

    never_at : (offer : Offer) → Never (planned_at held stored state offer)
    unfolding planned_at target_of
    never_at offer =
        let have = have_at held stored offer.remote in
        let since = time_of (row_of state offer.name) in
        never_if (is_at offer.commit (row_of state offer.name)) (Ok []) (and_then (target_of held stored state offer) (planned held stored state)) (never_ok [])
        (never_then (target_of held stored state offer) (planned held stored state)
        (never_mapped (chosen_with offer) (head_of have offer.name offer.commit since) (never_head offer.name offer.commit have since))
        never_planned)

    -- what is refused at the target's own remote and ref
    pub own_refusal : (remote : RemoteRow) (name : Ref) (r : Refusal) → offered held remote name ≡ Err r → plan_of held stored state remote name ≡ Err r
    unfolding plan_of
    own_refusal remote name r is = ap (λ x. and_then x (λ commit. planned_at held stored state (offer_with remote name commit))) is

    pub only_own_ref : (remote : RemoteRow) (name : Ref) (r : List ℕ) (n : Ref) → plan_of held stored state remote name ≡ Err (refusals.NoSuchRef r n) → offered held remote name ≡ Err (refusals.NoSuchRef r n)
    unfolding plan_of
    only_own_ref remote name r n is = go (offered held remote name) is
      where
        go : (first : Result (List ℕ) Refusal) → and_then first (λ commit. planned_at held stored state (offer_with remote name commit)) ≡ Err (refusals.NoSuchRef r n) → first ≡ Err (refusals.NoSuchRef r n)
        go (Ok commit) e = absurd (never_at (offer_with remote name commit) r n e)
        go (Err x) e = cc e
