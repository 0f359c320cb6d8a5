-- A change of the settings' files, or of one override.
use Rattle.std.proofs.Common.{◌≡◌, ◌≢◌, ◌⊎◌, inl, inr, ℕ, List, [], ◌∷◌, ◌++◌, map, Option, Some, None, refl, sym, ◌∙◌, ap, codes}
use Rattle.std.specs.Str.{bytes_eq}
use Rattle.std.proofs.lemmas.Bool.{cases_Bool}
use Rattle.std.proofs.lemmas.Slice.Eq.{bytes_eq-Decides}
use Rattle.fp_base.proofs.Texts.{bytes_eq-false}
use Rattle.fp_host.specs.Paths.{Elements}
use Rattle.fp_host.specs.Outcome.{Disk}
use Rattle.fp_host.specs.Reads.{is_ascending}
use Rattle.fp_name.specs.Refs.{Ref, ref_of}
use Rattle.fp_name.proofs.Refs.{word_apart}
use Rattle.fp_small.specs.Places.{repo}
use Rattle.fp_small.specs.declared.state.State.{State}
use Rattle.ost_model.specs.Objects.{object_path}
use Rattle.dep_states.specs.Names.{config, remotes_conf, pins_file, override_path, active, text_dir, commit_dir, deploy}
use Rattle.dep_states.specs.Shown.{there, seen_of, ref_seen, row_seen, override_seen, settings_seen, at_name, ref_key, override_key, setup_of, Shows}
use Rattle.dep_states.specs.Sound.{Sound, Fixed, is_remotes, is_pins, is_config, is_old, is_active, is_deploy, is_layer, is_inside, is_object, Permits}
use Rattle.dep_states.specs.Small.{IsSetting, IsLayered}
use Rattle.dep_states.proofs.Deployed.{outward_append, top}
use Rattle.dep_states.proofs.Law.{settings_same, ref_same, override_same, sound_still}
use Rattle.dep_states.proofs.Rows.{head_of}

module _ {i j : Disk} (still : (p : Elements) → Fixed i p → (IsSetting p → ⊥) → j p ≡ i p) where
  no_setting : {x y : List ℕ} {up : Elements} → IsSetting (x ∷ (y ∷ up)) → ⊥
  no_setting (inl e) = cc e
  no_setting (inr (is_remotes e)) = cc e
  no_setting (inr (is_pins e)) = cc e

  refs_still : (name : Ref) → ref_seen j name ≡ ref_seen i name
  refs_still name = ref_same i j name (λ good. (
    still (active name) (is_active name good refl) no_setting,
    λ text at. still (deploy (text_dir name text)) (is_deploy name text good at refl) no_setting,
  ))

  rows_still : (name : Option Ref) → row_seen j name ≡ row_seen i name
  rows_still None = refl
  rows_still (Some name) = refs_still name

  inside_no_setting : (name : Ref) (commit : List ℕ) (rest : Elements) → IsSetting (rest ++ commit_dir name commit) → ⊥
  inside_no_setting name commit rest (inl e) = word_apart name.kind (codes "config") refl refl (sym (ap head_of (outward_append rest (commit_dir name commit) [])) ∙ ap top e)
  inside_no_setting name commit rest (inr (is_remotes e)) = word_apart name.kind (codes "remotes.conf") refl refl (sym (ap head_of (outward_append rest (commit_dir name commit) [])) ∙ ap top e)
  inside_no_setting name commit rest (inr (is_pins e)) = word_apart name.kind (codes "pins") refl refl (sym (ap head_of (outward_append rest (commit_dir name commit) [])) ∙ ap top e)

  -- with new settings, or with the same read from another file, as in the migration
  pub shows_settings : {s t : State} → settings_seen j ≡ there (setup_of t) → t.refs ≡ s.refs → t.overrides ≡ s.overrides → Shows i s → Shows j t
  shows_settings {s = s} {t = t} now refs overrides a = record {
    settings = now;
    refs = λ text. rows_still (ref_of text) ∙ a.refs text ∙ ap (λ rows. seen_of (at_name ref_key rows text)) (sym refs);
    refs_ascend = ap (λ rows. is_ascending (map ref_key rows)) refs ∙ a.refs_ascend;
    overrides = λ name. override_same i j name (λ good. still (override_path name) (is_layer name good refl) no_setting) ∙ a.overrides name ∙ ap (λ rows. seen_of (at_name override_key rows name)) (sym overrides);
    overrides_ascend = ap (λ rows. is_ascending (map override_key rows)) overrides ∙ a.overrides_ascend;
  }

  pub sound_settings : ((p : Elements) → (j p ≡ i p) ⊎ Permits i p (j p)) → Sound i → Sound j
  sound_settings elsewhere a = sound_still i j refs_still
      (λ name commit rest k off. still (rest ++ commit_dir name commit) (is_inside name commit rest k off refl) (inside_no_setting name commit rest))
      (λ name commit place k h. still (object_path repo place.digest place.kind) (is_object name commit place k h refl) no_setting) elsewhere a

-- ---- one override

module _ {i j : Disk} (layer : List ℕ) (still : (p : Elements) → Fixed i p → p ≢ override_path layer → j p ≡ i p) where
  refs_stay : (name : Ref) → ref_seen j name ≡ ref_seen i name
  refs_stay name = ref_same i j name (λ good. (
    still (active name) (is_active name good refl) (λ e. cc),
    λ text at. still (deploy (text_dir name text)) (is_deploy name text good at refl) (λ e. cc),
  ))

  rows_stay : (name : Option Ref) → row_seen j name ≡ row_seen i name
  rows_stay None = refl
  rows_stay (Some name) = refs_stay name

  inside_no_layer : (name : Ref) (commit : List ℕ) (rest : Elements) → rest ++ commit_dir name commit ≢ override_path layer
  inside_no_layer name commit rest e = word_apart name.kind (codes "overrides") refl refl (sym (ap head_of (outward_append rest (commit_dir name commit) [])) ∙ ap top e)

  layer_cases : (name : List ℕ) → (name ≡ layer) ⊎ (name ≢ layer)
  layer_cases name = elim (cases_Bool (bytes_eq name layer)) [
    | inl t ↦ inl ((bytes_eq-Decides name layer).0 t)
    | inr f ↦ inr (λ e. bytes_eq-false name layer f e)
  ]

  pub shows_layer : {s t : State} → IsLayered s layer t → override_seen j layer ≡ seen_of (at_name override_key t.overrides layer) → Shows i s → Shows j t
  shows_layer {s = s} {t = t} w now a = record {
    settings = settings_same i j (still config (is_config refl) (λ e. cc)) (λ none. (still remotes_conf (is_old none (is_remotes refl)) (λ e. cc), still pins_file (is_old none (is_pins refl)) (λ e. cc))) ∙ a.settings ∙ ap there (sym w.setup);
    refs = λ text. rows_stay (ref_of text) ∙ a.refs text ∙ ap (λ rows. seen_of (at_name ref_key rows text)) (sym w.refs);
    refs_ascend = ap (λ rows. is_ascending (map ref_key rows)) w.refs ∙ a.refs_ascend;
    overrides = λ name. elim (layer_cases name) [
      | inl e ↦ ap (override_seen j) e ∙ now ∙ ap (λ n. seen_of (at_name override_key t.overrides n)) (sym e)
      | inr off ↦ override_same i j name (λ good. still (override_path name) (is_layer name good refl) (λ e. off (first e))) ∙ a.overrides name ∙ ap seen_of (sym (w.others name off))
    ];
    overrides_ascend = w.ascend;
  }
    where
      first : {x y : List ℕ} → override_path x ≡ override_path y → x ≡ y
      first e = cc

  pub sound_layer : ((p : Elements) → (j p ≡ i p) ⊎ Permits i p (j p)) → Sound i → Sound j
  sound_layer elsewhere a = sound_still i j refs_stay
      (λ name commit rest k off. still (rest ++ commit_dir name commit) (is_inside name commit rest k off refl) (inside_no_layer name commit rest))
      (λ name commit place k h. still (object_path repo place.digest place.kind) (is_object name commit place k h refl) (λ e. cc)) elsewhere a
