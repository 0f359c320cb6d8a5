-- The frame law of an installation.
use Rattle.std.proofs.Common.{◌≡◌, ◌≢◌, ◌⊎◌, inl, inr, ℕ, List, ◌++◌, Bool, true, false, Option, Some, None, refl, sym, ◌∙◌, ap, subst}
use Rattle.std.specs.Prelude.{if◌then◌else◌}
use Rattle.fp_host.specs.Paths.{Elements}
use Rattle.fp_host.specs.View.{View}
use Rattle.fp_host.specs.Outcome.{Spot, gone, folder, holds, points, Disk, Leaves, Follows, Nothing}
use Rattle.fp_name.specs.Refs.{Ref, is_ref, ref_of}
use Rattle.fp_small.specs.Places.{repo}
use Rattle.fp_small.specs.declared.state.State.{State}
use Rattle.ost_model.specs.Objects.{object_path, store}
use Rattle.ost_model.specs.Order.{Place, In, order}
use Rattle.ost_model.specs.Standing.{deploy_name}
use Rattle.ost_model.proofs.Local.{stands_same}
use Rattle.dep_states.specs.Names.{config, remotes_conf, pins_file, override_path, active, text_dir, commit_dir, deploy}
use Rattle.fp_name.specs.Grammar.{is_override}
use Rattle.dep_states.specs.Shown.{away, deploy_at, by_active, ref_seen, row_seen, override_at, override_seen, settings_at, settings_seen, Shows}
use Rattle.dep_states.specs.Zones.{IsFileOrGone, Allowed}
use Rattle.dep_states.specs.Sound.{Keeps, Sound, is_remotes, is_pins, Fixed, is_config, is_old, is_active, is_deploy, is_layer, is_inside, is_object, Permits, Opens, IsSound, Spares, Spared, reads_as}

-- a part that is read only under a test
if_same : {A : Type 0} (b : Bool) (x y z : A) → (b ≡ true → y ≡ x) → if b then y else z ≡ if b then x else z
if_same true x y z same = same refl
if_same false x y z same = refl

config_same : (c : Spot) (r r' q q' : Spot) → (c ≡ gone → (r' ≡ r) × (q' ≡ q)) → settings_at c r' q' ≡ settings_at c r q
config_same gone r r' q q' same = (λ k. settings_at gone ((same refl).0 k) ((same refl).1 k))
config_same folder r r' q q' same = refl
config_same (points text) r r' q q' same = refl
config_same (holds id mode bytes) r r' q q' same = refl

-- each part of Shown depends on the paths that it reads
module _ (i j : Disk) where
  pub settings_same : j config ≡ i config → (i config ≡ gone → (j remotes_conf ≡ i remotes_conf) × (j pins_file ≡ i pins_file)) → settings_seen j ≡ settings_seen i
  settings_same first older = ap (λ c. settings_at c (j remotes_conf) (j pins_file)) first ∙ config_same (i config) (i remotes_conf) (j remotes_conf) (i pins_file) (j pins_file) older

  pub override_same : (name : List ℕ) → (is_override name ≡ true → j (override_path name) ≡ i (override_path name)) → override_seen j name ≡ override_seen i name
  override_same name same = if_same (is_override name) _ _ away (λ good. ap (override_at name) (same good))

  active_same : (name : Ref) → (n : Spot) → i (active name) ≡ n → ((text : List ℕ) → i (active name) ≡ points text → j (deploy (text_dir name text)) ≡ i (deploy (text_dir name text))) → by_active j name n ≡ by_active i name n
  active_same name gone here same = refl
  active_same name folder here same = refl
  active_same name (holds id mode bytes) here same = refl
  active_same name (points text) here same = ap (deploy_at name text) (same text here)

  pub ref_same : (name : Ref) → (is_ref name ≡ true → (j (active name) ≡ i (active name)) × ((text : List ℕ) → i (active name) ≡ points text → j (deploy (text_dir name text)) ≡ i (deploy (text_dir name text)))) → ref_seen j name ≡ ref_seen i name
  ref_same name same = if_same (is_ref name) _ _ away (λ good. ap (by_active j name) (same good).0 ∙ active_same name (i (active name)) refl (same good).1)

-- Sound, where the rows that are shown stay, and so do the paths and objects of the commits that
-- are kept
pub sound_still : (i j : Disk) → ((name : Ref) → ref_seen j name ≡ ref_seen i name)
    → ((name : Ref) (commit : List ℕ) (rest : Elements) → Keeps i name commit → rest ≢ deploy_name → j (rest ++ commit_dir name commit) ≡ i (rest ++ commit_dir name commit))
    → ((name : Ref) (commit : List ℕ) (place : Place) → Keeps i name commit → In (order (store repo i) commit) place → j (object_path repo place.digest place.kind) ≡ i (object_path repo place.digest place.kind))
    → ((p : Elements) → (j p ≡ i p) ⊎ Permits i p (j p)) → Sound i → Sound j
sound_still i j refs paths objects elsewhere a = record {
  kinds = λ p. elim (elsewhere p) [ inl same ↦ subst (Allowed p) (sym same) (a.kinds p) | inr given ↦ given.allowed ];
  commits = λ name commit k. let before = earlier k in
      stands_same repo i j commit (reads_as name.kind) (commit_dir name commit) (a.commits name commit before) (λ rest off. paths name commit rest before off) (λ place h. objects name commit place before h);
  deploys = λ name commit k. let before = earlier k in elim (elsewhere (deploy (commit_dir name commit))) [
    | inl same ↦ subst IsFileOrGone (sym same) (a.deploys name commit before)
    | inr given ↦ given.deploy name commit before refl
  ];
}
  where
    earlier : {name : Ref} {commit : List ℕ} → Keeps j name commit → Keeps i name commit
    earlier k = record { row = k.row; shown = sym (refs _) ∙ k.shown; of_row = k.of_row }

module _ (i j : Disk) (fixed : (p : Elements) → Fixed i p → j p ≡ i p) where
  ref_fixed : (name : Ref) → ref_seen j name ≡ ref_seen i name
  ref_fixed name = ref_same i j name (λ good. (fixed (active name) (is_active name good refl), λ text at. fixed (deploy (text_dir name text)) (is_deploy name text good at refl)))

  row_fixed : (name : Option Ref) → row_seen j name ≡ row_seen i name
  row_fixed None = refl
  row_fixed (Some name) = ref_fixed name

  -- Shown depends on the fixed paths alone
  pub shows_same : {s : State} → Shows i s → Shows j s
  shows_same a = record {
    settings = settings_same i j (fixed config (is_config refl)) (λ none. (fixed remotes_conf (is_old none (is_remotes refl)), fixed pins_file (is_old none (is_pins refl)))) ∙ a.settings;
    refs = λ text. row_fixed (ref_of text) ∙ a.refs text;
    refs_ascend = a.refs_ascend;
    overrides = λ name. override_same i j name (λ good. fixed (override_path name) (is_layer name good refl)) ∙ a.overrides name;
    overrides_ascend = a.overrides_ascend;
  }

  -- and Sound bears what is permitted elsewhere
  pub sound_same : ((p : Elements) → (j p ≡ i p) ⊎ Permits i p (j p)) → Sound i → Sound j
  sound_same elsewhere a = sound_still i j ref_fixed (λ name commit rest k off. fixed (rest ++ commit_dir name commit) (is_inside name commit rest k off refl))
      (λ name commit place k h. fixed (object_path repo place.digest place.kind) (is_object name commit place k h refl)) elsewhere a

module _ {G : Elements → Spot → Type 0} {u w : View} (spares : Spares u G) (follows : Follows G u w) where
  pub still : (disk : Disk) (left : Leaves w disk) (p : Elements) → Fixed (follows.from disk left).0 p → disk p ≡ (follows.from disk left).0 p
  still disk left p f = let b = follows.from disk left in elim (b.2 p) [ inl same ↦ same | inr given ↦ absurd (spares.avoids b.0 b.1 p (disk p) f given) ]

  still_sound : (disk : Disk) (left : Leaves w disk) → Sound (follows.from disk left).0 → Sound disk
  still_sound disk left was = let b = follows.from disk left in
      sound_same b.0 disk (still disk left) (λ p. elim (b.2 p) [ inl same ↦ inl same | inr given ↦ inr (spares.permits b.0 b.1 p (disk p) given) ]) was

  -- The frame law: where what is given spares the fixed paths and is permitted where it is given,
  -- every outcome goes on showing the state, and is Sound.
  pub frame_law : {s : State} → Opens s u → Opens s w
  frame_law opens = record {
    shown = λ disk left. let b = follows.from disk left in shows_same b.0 disk (still disk left) (opens.shown b.0 b.1);
    sound = λ disk left. let b = follows.from disk left in still_sound disk left (opens.sound b.0 b.1);
  }

  -- and so where the outcomes show several states
  pub frame_sound : IsSound u → IsSound w
  frame_sound sound = record {
    shown = λ disk left. let b = follows.from disk left in let was = sound.shown b.0 b.1 in record { state = was.state; shows = shows_same b.0 disk (still disk left) was.shows };
    sound = λ disk left. let b = follows.from disk left in still_sound disk left (sound.sound b.0 b.1);
  }

pub spares_nothing : (v : View) → Spares v Nothing
spares_nothing v = record { avoids = λ disk left p spot fixed given. given; permits = λ disk left p spot given. absurd given }

pub spares_spared : (v : View) → Spares v (Spared v)
spares_spared v = record { avoids = λ disk left p spot fixed given. (given disk left).0 fixed; permits = λ disk left p spot given. (given disk left).1 }
