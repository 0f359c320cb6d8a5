-- One override that changes.
use Rattle.std.proofs.Common.{◌≡◌, ◌≢◌, ◌⊎◌, ◌≤◌, inl, inr, ℕ, List, [], ◌∷◌, length, map, true, Option, Some, None, Ok, Contains, codes, refl, sym, ◌∙◌, ap, subst, arith}
use Rattle.std.specs.Prelude.{if◌then◌else◌}
use Rattle.std.proofs.lemmas.Bool.{le-leb, cond-true}
use Rattle.std.proofs.lemmas.List.Elements.{Contains-push_cases}
use Rattle.fp_base.specs.declared.object.ObjKind.{ObjKind}
use Rattle.fp_base.proofs.Texts.{bytes_eq-same, bytes_eq-false}
use Rattle.fp_host.specs.Paths.{Elements, Slot, absent, IsAbove}
use Rattle.fp_host.specs.View.{View, IsTree}
use Rattle.fp_host.specs.Calls.{syncs, Step, IsNoDir}
use Rattle.fp_host.specs.Outcome.{Spot, gone, folder, holds, spot_of, Disk, Leaves, Follows, shows}
use Rattle.fp_host.specs.Frame.{Keeps, Frame, AtEnd, NoPath}
use Rattle.fp_host.specs.Moments.{Moments, Goes, Makes}
use Rattle.fp_host.proofs.Ending.{ends_call, ends_frame, ends_both, ends_on, ends_in_tree, goes_known}
use Rattle.fp_host.proofs.Framed.{IsTold}
use Rattle.fp_host.proofs.Goes.{begins}
use Rattle.fp_host.proofs.Separate.{path_cases}
use Rattle.fp_host.proofs.Settled.{settled_disk}
use Rattle.fp_host.proofs.Shown.{now_left}
use Rattle.fp_host.specs.Reads.{is_ascending}
use Rattle.fp_name.specs.Refs.{Ref}
use Rattle.fp_keyfile.specs.KeyFile.{text_of, file_of, is_good}
use Rattle.fp_keyfile.proofs.Read.{file_of-text_of}
use Rattle.fp_name.proofs.Refs.{word_apart}
use Rattle.fp_small.specs.Clear.{GoneAt, AbsentAt, IsWithin}
use Rattle.fp_small.specs.Folders.{IsFree}
use Rattle.fp_small.specs.Move.{IsNew}
use Rattle.fp_small.specs.Places.{repo, tmp}
use Rattle.ost_model.specs.Stores.{objects_folder}
use Rattle.fp_small.specs.Replace.{folders_of, ReplacesAt, ReplacesName, Replaces, WasReplaced, CanReplace}
use Rattle.fp_small.specs.declared.op.Op.TheVariants.{SetOverride, DropOverride}
use Rattle.fp_small.specs.declared.state.OverrideRow.{OverrideRow}
use Rattle.fp_small.specs.declared.state.State.{State}
use Rattle.fp_small.proofs.Keeping.{files_kept}
use Rattle.fp_small.proofs.Staging.{synced}
use Rattle.fp_small.proofs.Replacement.{free_no_dir}
use Rattle.ost_model.specs.Objects.{object_path}
use Rattle.dep_states.specs.After.{state_after, plain}
use Rattle.dep_states.specs.Lasting.IsLasting.{an_override}
use Rattle.dep_states.proofs.SharedAs.{shared_empty, shared_made}
use Rattle.dep_states.specs.Names.{overrides_folder, override_path, commit_dir, deploy}
use Rattle.fp_name.specs.Grammar.{is_override}
use Rattle.dep_states.specs.Shown.{bad, there, seen_of, read_of, if_file, named_override, override_at, override_seen, at_name, override_key, small_most, Shows}
use Rattle.dep_states.specs.Small.{IsLayered}
use Rattle.dep_states.specs.Sound.{Sound, Fixed, Permits, Opens, is_config, is_old, is_remotes, is_pins, is_active, is_deploy, is_layer, is_inside, is_object}
use Rattle.dep_states.specs.Zones.{a_file, IsFileOrGone, Allowed}
use Rattle.dep_states.proofs.Changes.{after_set, after_drop, at_replaced, at_removed}
use Rattle.dep_states.proofs.Deployed.{top, outward_append}
use Rattle.dep_states.proofs.Law.{shows_same}
use Rattle.dep_states.proofs.Rows.{head_of}
use Rattle.dep_states.proofs.Small.{shows_layer, sound_layer}
use Rattle.dep_states.proofs.Sparing.{fixed_in_repo}
use Rattle.dep_states.proofs.Switching.{none_in_tmp, word_no_repo, permits_gone}
use Rattle.dep_switch.proofs.Spots.{folder_free, file_free}
use Rattle.op_change.specs.Deploys.{Does, WasDone}
use Rattle.op_change.proofs.Objects.{same_objects}
use Rattle.ost_store.proofs.Creating.{creates_frame}
use Rattle.dep_states.proofs.Elsewhere.{off_override, off_work}
use Rattle.dep_states.proofs.Away.{override_away}
use Rattle.dep_states.proofs.Zones.{fits_if, unless_any}
use Rattle.op_change.specs.Overriding.{AbsentAtPath}

-- ---- two images that differ in one override

module _ {s t : State} (layer : List ℕ) (with_ : IsLayered s layer t) {i j : Disk} (still : (p : Elements) → Fixed i p → p ≢ override_path layer → j p ≡ i p) (elsewhere : (p : Elements) → (j p ≡ i p) ⊎ Permits i p (j p)) where
  pub new_layer : override_seen j layer ≡ seen_of (at_name override_key t.overrides layer) → Shows i s → Shows j t
  new_layer now shown = shows_layer layer still with_ now shown

  pub old_layer : j (override_path layer) ≡ i (override_path layer) → Shows i s → Shows j s
  old_layer same shown = shows_same i j (λ p fixed. by (path_cases p (override_path layer)) fixed) shown
    where
      by : {p : Elements} → (p ≡ override_path layer) ⊎ (p ≢ override_path layer) → Fixed i p → j p ≡ i p
      by (inl at) fixed = ap j at ∙ same ∙ sym (ap i at)
      by {p = p} (inr off) fixed = still p fixed off

  pub layer_sound : Sound i → Sound j
  layer_sound sound = sound_layer layer still elsewhere sound

-- ---- what is given

which : (name : List ℕ) (q : Elements) → Contains (folders_of (override_path name)) q → (q ≡ overrides_folder) ⊎ ((q ≡ repo) ⊎ (q ≡ tmp))
which name q has = elim (Contains-push_cases (overrides_folder ∷ (repo ∷ [])) tmp q has) [
  | inr is ↦ inr (inr (sym is))
  | inl first ↦ elim (Contains-push_cases (overrides_folder ∷ []) repo q first) [
    | inr is ↦ inr (inl (sym is))
    | inl only ↦ elim (Contains-push_cases [] overrides_folder q only) [ inl none ↦ absurd (omega (arith, none.1)) | inr is ↦ inl (sym is) ]
  ]
]

-- the folder of the overrides isn't fixed
folder_free_of : (i : Disk) (p : Elements) → p ≡ overrides_folder → Fixed i p → ⊥
folder_free_of i p at (is_config e) = cc (sym at ∙ e)
folder_free_of i p at (is_old none (is_remotes e)) = cc (sym at ∙ e)
folder_free_of i p at (is_old none (is_pins e)) = cc (sym at ∙ e)
folder_free_of i p at (is_active n good e) = cc (sym at ∙ e)
folder_free_of i p at (is_deploy n text good link e) = cc (sym at ∙ e)
folder_free_of i p at (is_layer n good e) = cc (sym at ∙ e)
folder_free_of i p at (is_inside n c rest k off e) = word_apart n.kind (codes "overrides") refl refl (sym (ap head_of (outward_append rest (commit_dir n c) [])) ∙ sym (ap top e) ∙ ap top at)
folder_free_of i p at (is_object n c place k h e) = cc (sym at ∙ e)

unfixed_folder : (name : List ℕ) (i : Disk) (p : Elements) → Contains (folders_of (override_path name)) p → Fixed i p → ⊥
unfixed_folder name i p has fixed = elim (which name p has) [
  | inl at ↦ folder_free_of i p at fixed
  | inr more ↦ elim more [ inl at ↦ (let o = fixed_in_repo fixed (ap top at) in cc (sym at ∙ o.is)) | inr at ↦ none_in_tmp [] at fixed ]
]

no_deploy : (p : Elements) → (top p ≡ codes "overrides") ⊎ (top p ≡ codes "repo") → (n : Ref) (c : List ℕ) → p ≡ deploy (commit_dir n c) → ⊥
no_deploy p (inl is) n c at = word_apart n.kind (codes "overrides") refl refl (sym (ap top at) ∙ is)
no_deploy p (inr is) n c at = word_no_repo n.kind (sym (ap top at) ∙ is)

file_allowed : (name : List ℕ) (spot : Spot) → IsFileOrGone spot → Allowed (override_path name) spot
file_allowed name spot file = record { fits = fits_if (is_override name) a_file (override_path name) spot file; short = inr (omega arith) }

folder_allowed : (p : Elements) → (p ≡ overrides_folder) ⊎ ((p ≡ repo) ⊎ (p ≡ tmp)) → Allowed p folder
folder_allowed p (inl at) = subst (λ q. Allowed q folder) (sym at) (record { fits = tt; short = inr (omega arith) })
folder_allowed p (inr (inl at)) = subst (λ q. Allowed q folder) (sym at) (record { fits = tt; short = inr (omega arith) })
folder_allowed p (inr (inr at)) = subst (λ q. Allowed q folder) (sym at) (record { fits = tt; short = inr (omega arith) })

folder_top : (p : Elements) → (p ≡ overrides_folder) ⊎ ((p ≡ repo) ⊎ (p ≡ tmp)) → (top p ≡ codes "overrides") ⊎ (top p ≡ codes "repo")
folder_top p (inl at) = inl (ap top at)
folder_top p (inr (inl at)) = inr (ap top at)
folder_top p (inr (inr at)) = inr (ap top at)

given_permitted : (name bytes : List ℕ) (u : View) (i : Disk) (p : Elements) (spot : Spot) → ReplacesAt (override_path name) bytes u p spot → Permits i p spot
given_permitted name bytes u i p spot given = elim given [
  | inl new ↦ record {
    allowed = subst (λ q. Allowed q spot) (sym new.0) (file_allowed name spot (subst IsFileOrGone (sym new.1.1) tt));
    deploy = λ n c k at. absurd (no_deploy p (inl (ap top new.0)) n c at);
  }
  | inr other ↦ elim other [
    | inl made ↦ let w = which name p made.0 in record { allowed = subst (Allowed p) (sym made.1) (folder_allowed p w); deploy = λ n c k at. absurd (no_deploy p (folder_top p w) n c at) }
    | inr work ↦ record { allowed = subst (λ q. Allowed q spot) (sym work.is) (record { fits = tt; short = inr (omega arith) }); deploy = λ n c k at. absurd (no_deploy p (inr (ap top work.is)) n c at) }
  ]
]

given_unfixed : (name bytes : List ℕ) (u : View) (i : Disk) (p : Elements) (spot : Spot) → ReplacesAt (override_path name) bytes u p spot → Fixed i p → p ≢ override_path name → ⊥
given_unfixed name bytes u i p spot given fixed off = elim given [
  | inl new ↦ off new.0
  | inr other ↦ elim other [ inl made ↦ unfixed_folder name i p made.0 fixed | inr work ↦ none_in_tmp (_ ∷ []) work.is fixed ]
]

given_here : (name bytes : List ℕ) (u : View) (spot : Spot) → ReplacesAt (override_path name) bytes u (override_path name) spot → IsNew bytes spot
given_here name bytes u spot given = elim given [
  | inl new ↦ new.1
  | inr other ↦ elim other [
    | inl made ↦ elim (which name (override_path name) made.0) [ inl at ↦ absurd (cc at) | inr more ↦ elim more [ inl at ↦ absurd (cc at) | inr at ↦ absurd (bytes_eq-false (codes "overrides") (codes "repo") refl (ap top at)) ] ]
    | inr work ↦ absurd (bytes_eq-false (codes "overrides") (codes "repo") refl (ap top work.is))
  ]
]

-- ---- an override that is set

abbrev set_state : State → OverrideRow → State
set_state s row = state_after s (plain (SetOverride row))

file_reads : (row : OverrideRow) (id : ℕ) → file_of (text_of row.file) ≡ Ok row.file → length (text_of row.file) ≤ small_most → override_at row.name (holds id 420 (text_of row.file)) ≡ there row
unfolding override_at
file_reads row id back short =
    ap (λ b. named_override row.name (if b then read_of (if_file (file_of (text_of row.file))) else bad)) (le-leb (length (text_of row.file)) small_most short)
    ∙ ap (λ r. named_override row.name (read_of (if_file r))) back

set_there : (s : State) (row : OverrideRow) → at_name override_key (set_state s row).overrides row.name ≡ Some row
set_there s row = at_replaced override_key s.overrides row (override_key row) ∙ rw (bytes_eq-same (override_key row)) refl

ascending : {s : State} {v : View} → Opens s v → is_ascending (map override_key s.overrides) ≡ true
ascending {v = v} opens = (opens.shown (shows v) (now_left v)).overrides_ascend

abbrev path_for : OverrideRow → Elements
path_for row = override_path row.name

abbrev bytes_for : OverrideRow → List ℕ
bytes_for row = text_of row.file

module _ (s : State) (row : OverrideRow) (name_good : is_override row.name ≡ true) (fine : is_good row.file ≡ true) (short : length (text_of row.file) ≤ small_most) where
  module _ {u w : View} (replaces : Replaces (path_for row) (bytes_for row) u w) (opens : Opens s u) (disk : Disk) (left : Leaves w disk) where
    abbrev before : Disk
    before = (replaces.keeps.follows.from disk left).0

    abbrev was : Leaves u before
    was = (replaces.keeps.follows.from disk left).1

    abbrev step : (p : Elements) → (disk p ≡ before p) ⊎ ReplacesAt (path_for row) (bytes_for row) u p (disk p)
    step = (replaces.keeps.follows.from disk left).2

    set_still : (p : Elements) → Fixed before p → p ≢ (path_for row) → disk p ≡ before p
    set_still p fixed off = elim (step p) [ inl same ↦ same | inr given ↦ absurd (given_unfixed row.name (bytes_for row) u before p (disk p) given fixed off) ]

    set_elsewhere : (p : Elements) → (disk p ≡ before p) ⊎ Permits before p (disk p)
    set_elsewhere p = elim (step p) [ inl same ↦ inl same | inr given ↦ inr (given_permitted row.name (bytes_for row) u before p (disk p) given) ]

    layered : IsLayered s row.name (set_state s row)
    layered = after_set s (ascending opens) row 0

    set_new : IsNew (bytes_for row) (disk (path_for row)) → Shows disk (set_state s row)
    set_new new = new_layer row.name layered set_still set_elsewhere
        (cond-true (is_override row.name) _ _ name_good ∙ ap (override_at row.name) new.1 ∙ file_reads row new.0 (file_of-text_of row.file fine) short ∙ ap seen_of (sym (set_there s row))) (opens.shown before was)

    set_each : Shows disk s ⊎ Shows disk (set_state s row)
    set_each = elim (step (path_for row)) [
      | inl same ↦ inl (old_layer row.name layered set_still set_elsewhere same (opens.shown before was))
      | inr given ↦ inr (set_new (given_here row.name (bytes_for row) u (disk (path_for row)) given))
    ]

    set_sound : Sound disk
    set_sound = layer_sound row.name layered set_still set_elsewhere (opens.sound before was)

  pub sets : {u w : View} → Replaces (path_for row) (bytes_for row) u w → Does s (set_state s row) (ReplacesName (path_for row)) u w
  sets replaces = record {
    either = λ opens. record { shown = λ disk left. set_each replaces opens disk left; sound = λ disk left. set_sound replaces opens disk left };
    names = replaces.keeps.names;
    files = replaces.files;
    printed = replaces.keeps.printed;
  }

  no_object_set : (u : View) (d : List ℕ) (kind : ObjKind) (e : Slot) → ReplacesName (path_for row) u (object_path repo d kind) e → ⊥
  no_object_set u d kind e put = elim put [
    | inl new ↦ cc new.0
    | inr other ↦ elim other [
      | inl made ↦ elim (which row.name (object_path repo d kind) made.0) [ inl at ↦ cc at | inr more ↦ elim more [ inl at ↦ cc at | inr at ↦ cc at ] ]
      | inr work ↦ cc work.is
    ]
  ]

  no_stored_set : (u : View) (q : Elements) (id : ℕ) → IsAbove (objects_folder repo) q → ReplacesName (path_for row) u q (Slot.file id) → ⊥
  no_stored_set u q id below (inl new) = off_override q below row.name new.0
  no_stored_set u q id below (inr (inl made)) = cc made.1
  no_stored_set u q id below (inr (inr work)) = off_work q below (subst (IsWithin tmp) (sym work.is) (inr (inl refl)))

  was_set : {u w : View} → IsTree u → IsTree w → Replaces (path_for row) (bytes_for row) u w → WasReplaced (path_for row) (bytes_for row) u w → WasDone s (set_state s row) u w
  was_set {u = u} start last replaces done = record {
    opens = λ opens. record { shown = λ disk left. set_new replaces opens disk left (done.new.each disk left); sound = λ disk left. set_sound replaces opens disk left };
    settled = done.settled;
    objects = same_objects (ReplacesName (path_for row) u) start last replaces.files replaces.keeps.names (no_object_set u);
    shares = shared_made (λ f says. an_override row.name row.file name_good fine refl says) done.made;
    creates = creates_frame (ReplacesName (path_for row) u) replaces.keeps (no_stored_set u);
  }

  pub set_goes : {a b : Option Moments} → IsTold a → Goes a b (Replaces (path_for row) (bytes_for row)) (Replaces (path_for row) (bytes_for row)) → Goes a b (Does s (set_state s row) (ReplacesName (path_for row))) (Does s (set_state s row) (ReplacesName (path_for row)))
  set_goes told goes = begins told goes (λ u w t r. sets r) (λ u w t r e. sets r)

  pub set_end : {a b : Option Moments} → IsTold a → IsTold b → Goes a b (Replaces (path_for row) (bytes_for row)) (Replaces (path_for row) (bytes_for row)) → AtEnd (WasReplaced (path_for row) (bytes_for row)) a b → AtEnd (WasDone s (set_state s row)) a b
  set_end told last goes done = ends_in_tree {Q = λ u w. IsTree u × Replaces (path_for row) (bytes_for row) u w × WasReplaced (path_for row) (bytes_for row) u w} last
      (record { goes = begins told (goes_known goes done) (λ u w t r. tt) (λ u w t r q. (t, q.0, q.1)) })
      (λ u w after_ q. was_set q.0 after_ q.1 q.2)

layer_fits : (name : List ℕ) (spot : Spot) → is_override name ≡ true → Allowed (override_path name) spot → IsFileOrGone spot
layer_fits name spot good allowed = unless_any (is_override name) a_file (override_path name) spot good allowed.fits

pub can_set : {s : State} (name : List ℕ) {v : View} → is_override name ≡ true → IsTree v → Opens s v → CanReplace (override_path name) v
can_set name {v = v} good tree opens =
    let sound = opens.sound (shows v) (now_left v) in
    record {
      entry = file_free tree (override_path name) (layer_fits name (shows v (override_path name)) good (sound.kinds (override_path name)));
      folders = record {
        free = λ q has. elim (which name q has) [
          | inl at ↦ subst (IsFree v) (sym at) (folder_free tree overrides_folder ((sound.kinds overrides_folder).fits))
          | inr more ↦ elim more [
            | inl at ↦ subst (IsFree v) (sym at) (folder_free tree repo ((sound.kinds repo).fits))
            | inr at ↦ subst (IsFree v) (sym at) (folder_free tree tmp ((sound.kinds tmp).fits))
          ]
        ];
      };
      no_root = λ e. cc e;
      no_repo = λ e. cc e;
      no_tmp = λ e. bytes_eq-false (codes "overrides") (codes "repo") refl (ap top e);
      no_work = λ above. elim above [ inl at ↦ cc at | inr more ↦ elim more [ inl at ↦ cc at | inr none ↦ none ] ];
    }

-- ---- an override that is dropped

abbrev drop_state : State → List ℕ → State
drop_state s name = state_after s (plain (DropOverride name))

drop_there : (s : State) (name : List ℕ) → at_name override_key (drop_state s name).overrides name ≡ None
drop_there s name = at_removed override_key s.overrides name name ∙ rw (bytes_eq-same name) refl

module _ (s : State) (name : List ℕ) (name_good : is_override name ≡ true) where
  module _ {u w : View} (follows : Follows (GoneAt (override_path name)) u w) (opens : Opens s u) (disk : Disk) (left : Leaves w disk) where
    abbrev drop_before : Disk
    drop_before = (follows.from disk left).0

    abbrev drop_was : Leaves u drop_before
    drop_was = (follows.from disk left).1

    abbrev drop_step : (p : Elements) → (disk p ≡ drop_before p) ⊎ GoneAt (override_path name) p (disk p)
    drop_step = (follows.from disk left).2

    drop_still : (p : Elements) → Fixed drop_before p → p ≢ override_path name → disk p ≡ drop_before p
    drop_still p fixed off = elim (drop_step p) [ inl same ↦ same | inr given ↦ absurd (off given.0) ]

    drop_elsewhere : (p : Elements) → (disk p ≡ drop_before p) ⊎ Permits drop_before p (disk p)
    drop_elsewhere p = elim (drop_step p) [ inl same ↦ inl same | inr given ↦ inr (permits_gone p (disk p) given.1) ]

    drop_layered : IsLayered s name (drop_state s name)
    drop_layered = after_drop s (ascending opens) name 0

    drop_new : disk (override_path name) ≡ gone → Shows disk (drop_state s name)
    drop_new none = new_layer name drop_layered drop_still drop_elsewhere
        (cond-true (is_override name) _ _ name_good ∙ ap (override_at name) none ∙ override_away name ∙ ap seen_of (sym (drop_there s name))) (opens.shown drop_before drop_was)

    drop_each : Shows disk s ⊎ Shows disk (drop_state s name)
    drop_each = elim (drop_step (override_path name)) [
      | inl same ↦ inl (old_layer name drop_layered drop_still drop_elsewhere same (opens.shown drop_before drop_was))
      | inr given ↦ inr (drop_new given.1)
    ]

    drop_sound : Sound disk
    drop_sound = layer_sound name drop_layered drop_still drop_elsewhere (opens.sound drop_before drop_was)

  abbrev Drops : View → View → Type 0
  Drops = Keeps (GoneAt (override_path name)) (AbsentAt (override_path name)) NoPath

  pub drops : {u w : View} → Drops u w → Does s (drop_state s name) (AbsentAtPath (override_path name)) u w
  drops keeps = record {
    either = λ opens. record { shown = λ disk left. drop_each keeps.follows opens disk left; sound = λ disk left. drop_sound keeps.follows opens disk left };
    names = keeps.names;
    files = files_kept keeps;
    printed = keeps.printed;
  }

  pub drop_goes : {a b : Option Moments} → IsTold a → Frame (GoneAt (override_path name)) (AbsentAt (override_path name)) NoPath a b → Goes a b (Does s (drop_state s name) (AbsentAtPath (override_path name))) (Does s (drop_state s name) (AbsentAtPath (override_path name)))
  drop_goes told frame = begins told frame.goes (λ u w t k. drops k) (λ u w t k e. drops e)

  was_dropped : {u v w : View} → IsTree u → IsTree w → Drops u v → v.names (override_path name) ≡ absent → Drops u w → Step syncs (Ok tt) v w → WasDone s (drop_state s name) u w
  was_dropped {v = v} {w = w} start last first none keeps step = record {
    opens = λ opens. record {
      shown = λ disk left. drop_new keeps.follows opens disk left (settled_disk w last (synced step) disk left (override_path name) ∙ ap (spot_of w.files) (ap (λ (x : View). x.names (override_path name)) step.how.1 ∙ none));
      sound = λ disk left. drop_sound keeps.follows opens disk left;
    };
    settled = synced step;
    objects = same_objects (AbsentAt (override_path name)) start last (files_kept keeps) keeps.names (λ d kind e put. cc put.0);
    shares = shared_empty keeps;
    creates = creates_frame (AbsentAt (override_path name)) keeps (λ q id below put. cc put.1);
  }

  pub drop_end : {a b c : Option Moments} → IsTold a → IsTold b → IsTold c → Frame (GoneAt (override_path name)) (AbsentAt (override_path name)) NoPath a b → AtEnd (λ u w. w.names (override_path name) ≡ absent) a b
      → Frame (GoneAt (override_path name)) (AbsentAt (override_path name)) NoPath a c → Makes (Step syncs (Ok tt)) b c → AtEnd (WasDone s (drop_state s name)) a c
  drop_end {a = a} {b = b} told mid last first none whole call =
      let start : AtEnd (λ u w. IsTree u × Drops u w × (w.names (override_path name) ≡ absent)) a b = record { goes = begins told (goes_known first.goes none) (λ u w t k. tt) (λ u w t k q. (t, q.0, q.1)) } in
      ends_in_tree {Q = λ u w. ((v : View) × IsTree u × Drops u v × (v.names (override_path name) ≡ absent) × Step syncs (Ok tt) v w) × Drops u w} last
      (ends_both (ends_on (ends_call mid call) start mid (λ u v w tree q e. (v, q.0, q.1, q.2, e))) (ends_frame told whole))
      (λ u w after_ q. was_dropped q.0.1 after_ q.0.2 q.0.3 q.1 q.0.4)

pub can_drop : {s : State} (name : List ℕ) {v : View} → is_override name ≡ true → IsTree v → Opens s v → IsNoDir (v.names (override_path name))
can_drop name {v = v} good tree opens = free_no_dir (override_path name) v (can_set name good tree opens).entry
