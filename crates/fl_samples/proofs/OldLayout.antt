-- The same installation of layout 1.
use Rattle.std.proofs.Common.{◌≡◌, ◌≢◌, ◌⊎◌, inl, inr, ℕ, List, [], ◌∷◌, Bool, true, cond, refl, sym, ◌∙◌, ap, subst, arith}
use Rattle.std.specs.List.{list_all}
use Rattle.std.specs.Str.{is_utf8, chars}
use lib.Utf8.{encode}
use Rattle.std.proofs.lemmas.Bool.{false_from_ne_true}
use Rattle.fp_host.specs.Paths.{Elements, path_eq}
use Rattle.fp_host.specs.Outcome.{Spot, gone, folder, holds, IsSettled}
use Rattle.fp_host.specs.View.{IsTree}
use Rattle.fp_host.proofs.Separate.{path_decides, path_cases}
use Rattle.fp_keyfile.specs.KeyFile.{file_of, with_pair, with_group}
use Rattle.fp_keyfile.specs.Lines.{line_says}
use Rattle.fp_name.specs.Grammar.{is_id, is_arch, is_branch, is_remote_name, is_url}
use Rattle.fp_name.specs.Pins.{is_pin}
use Rattle.fp_small.specs.Config.{remote_of}
use Rattle.fp_small.specs.Old.{remotes_of, pins_of}
use Rattle.dep_states.specs.After.{IsGood}
use Rattle.dep_states.specs.Names.{config, remotes_conf, pins_file}
use Rattle.dep_states.specs.Samples.{rows_at}
use Rattle.dep_states.specs.Shown.{there, settings_seen, remotes_at, pins_at, setup_of, Shows}
use Rattle.dep_states.specs.Small.{IsSetting}
use Rattle.dep_states.specs.Sound.{Sound, Permits, is_remotes, is_pins, Opens}
use Rattle.dep_states.specs.Zones.{Allowed, IsFileOrGone}
use Rattle.dep_states.proofs.Empty.{allowed_gone}
use Rattle.dep_states.proofs.Good.{shown_good}
use Rattle.dep_states.proofs.Openings.{shown_opens}
use Rattle.dep_states.proofs.Small.{shows_settings, sound_settings}
use Rattle.fl_samples.specs.Image.{config_bytes, kept_rows, whole_disk, whole_state}
use Rattle.fl_samples.specs.Operations.{old_remotes, old_pins, old_rows, old_disk, old_state}
use Rattle.fl_samples.specs.Views.{file_among, view_of}
use Rattle.fl_samples.proofs.Trees.{has_parent, is_own, IsForest, forest_tree, forest_settled, forest_shows}
use Rattle.fl_samples.proofs.WholeShown.{whole_shows, whole_sound}

settings_there : settings_seen old_disk ≡ there (setup_of old_state)
unfolding remotes_at pins_at remotes_of pins_of remote_of file_of line_says with_pair with_group is_remote_name is_url is_pin is_id is_arch is_branch is_utf8 chars encode
settings_there = refl

-- ---- it differs in the settings' files alone

rest_of : (first : Elements × Spot) (rs : List (Elements × Spot)) (p : Elements) → p ≢ first.0 → rows_at (first ∷ rs) p ≡ rows_at rs p
rest_of first rs p off = ap (λ b. cond b first.1 (rows_at rs p)) (false_from_ne_true (path_eq p first.0) (λ t. off ((path_decides p first.0).0 t)))

same_root : (b : Bool) (x y : Spot) → x ≡ y → cond b folder x ≡ cond b folder y
same_root b x y e = ap (cond b folder) e

still : (p : Elements) → (IsSetting p → ⊥) → old_disk p ≡ whole_disk p
still p off = same_root (path_eq p []) _ _
    (rest_of (remotes_conf, holds 51 420 old_remotes) ((pins_file, holds 52 420 old_pins) ∷ kept_rows) p (λ e. off (inr (is_remotes e)))
    ∙ rest_of (pins_file, holds 52 420 old_pins) kept_rows p (λ e. off (inr (is_pins e)))
    ∙ sym (rest_of (config, holds 50 420 config_bytes) kept_rows p (λ e. off (inl e))))

-- what stands at a file of the settings may stand there
setting_permitted : (p : Elements) (spot : Spot) → Allowed p spot → IsFileOrGone spot → Permits whole_disk p spot
setting_permitted p spot allowed file = record { allowed = allowed; deploy = λ name commit kept at. file }

config_gone : old_disk config ≡ gone
config_gone = refl

remotes_held : old_disk remotes_conf ≡ holds 51 420 old_remotes
remotes_held = refl

pins_held : old_disk pins_file ≡ holds 52 420 old_pins
pins_held = refl

file_allowed : (p : Elements) (id : ℕ) (bytes : List ℕ) → (p ≡ remotes_conf) ⊎ (p ≡ pins_file) → Allowed p (holds id 420 bytes)
file_allowed p id bytes (inl e) = subst (λ (q : Elements). Allowed q (holds id 420 bytes)) (sym e) (record { fits = tt; short = inr (omega arith) })
file_allowed p id bytes (inr e) = subst (λ (q : Elements). Allowed q (holds id 420 bytes)) (sym e) (record { fits = tt; short = inr (omega arith) })

elsewhere : (p : Elements) → (old_disk p ≡ whole_disk p) ⊎ Permits whole_disk p (old_disk p)
elsewhere p = elim (path_cases p config) [
  | inl at ↦ inr (subst (Permits whole_disk p) (sym (ap old_disk at ∙ config_gone)) (setting_permitted p gone (allowed_gone p) tt))
  | inr no_config ↦ elim (path_cases p remotes_conf) [
    | inl at ↦ inr (subst (Permits whole_disk p) (sym (ap old_disk at ∙ remotes_held)) (setting_permitted p (holds 51 420 old_remotes) (file_allowed p 51 old_remotes (inl at)) tt))
    | inr no_remotes ↦ elim (path_cases p pins_file) [
      | inl at ↦ inr (subst (Permits whole_disk p) (sym (ap old_disk at ∙ pins_held)) (setting_permitted p (holds 52 420 old_pins) (file_allowed p 52 old_pins (inr at)) tt))
      | inr no_pins ↦ inl (still p (λ s. none s no_config no_remotes no_pins))
    ]
  ]
]
  where
    none : IsSetting p → p ≢ config → p ≢ remotes_conf → p ≢ pins_file → ⊥
    none (inl e) a b c = a e
    none (inr (is_remotes e)) a b c = b e
    none (inr (is_pins e)) a b c = c e

pub old_shows : Shows old_disk old_state
old_shows = shows_settings {i = whole_disk} {j = old_disk} (λ p fixed off. still p off) {s = whole_state} {t = old_state} settings_there refl refl whole_shows

pub old_sound : Sound old_disk
old_sound = sound_settings {i = whole_disk} {j = old_disk} (λ p fixed off. still p off) elsewhere whole_sound

pub old_good : IsGood old_state
old_good = shown_good old_disk old_state old_shows

-- ---- its view

parents : list_all (λ r. has_parent old_rows r.0) old_rows ≡ true
parents = refl

own : list_all (λ r. is_own (file_among old_rows) r.1) old_rows ≡ true
unfolding is_utf8 chars encode
own = refl

pub old_forest : IsForest old_rows
old_forest = record { root = refl; parents = parents; own = own }

pub old_tree : IsTree (view_of old_rows)
old_tree = forest_tree old_forest

pub old_quiet : IsSettled (view_of old_rows)
old_quiet = forest_settled old_forest

pub old_opens : Opens old_state (view_of old_rows)
old_opens = shown_opens (view_of old_rows) old_disk old_tree old_quiet (forest_shows old_forest) old_shows old_sound
