-- Worked images are sound, and show what they have to.
use Rattle.std.proofs.Common.{◌≡◌, ◌≤◌, inl, inr, ℕ, List, [], ◌∷◌, length, Option, Some, None, refl, sym, ◌∙◌, ap, subst, arith}
use Rattle.std.specs.Prelude.{if◌then◌else◌}
use Rattle.std.proofs.lemmas.Bool.{le-leb}
use Rattle.fp_host.specs.Paths.{Elements, absent}
use Rattle.fp_host.specs.View.{View, IsTree}
use Rattle.fp_host.specs.Outcome.{Disk, Leaves, IsSettled, folder, holds, spot_of}
use Rattle.fp_host.proofs.Settled.{settled_disk}
use Rattle.fp_name.specs.Refs.{Ref, is_ref, ref_of}
use Rattle.fp_small.specs.Config.{config_of, config_text, IsSettings}
use Rattle.fp_small.specs.declared.config.Settings.{Settings}
use Rattle.fp_small.specs.declared.state.RefRow.{RefRow}
use Rattle.fp_small.proofs.ConfigTexts.{written_back}
use Rattle.dep_states.specs.Names.{config, override_path}
use Rattle.fp_name.specs.Grammar.{is_override}
use Rattle.dep_states.specs.Shown.{away, bad, there, setup_of, layout_two, read_of, config_most, config_at, ref_seen, row_seen, override_at, Shows}
use Rattle.dep_states.specs.Zones.{Zone, anything, Fits, zone, outward, Allowed}
use Rattle.dep_states.specs.Sound.{Sound, IsSound, Opens}
use Rattle.dep_states.specs.Samples.{no_disk, empty_disk, empty_state, config_rows, config_disk, settings_state}
use Rattle.dep_states.proofs.Empty.{allowed_gone, empty_shows, empty_sound}
use Rattle.dep_states.proofs.Law.{shows_same, sound_same}
use Rattle.dep_states.proofs.Rows.{each_at}
use Rattle.dep_states.proofs.Worked.{none_at}
use Rattle.dep_states.proofs.Away.{override_away, layer_away, if_away}

-- ---- nothing at all

away_there : {X : Type 0} {row : RefRow} → away ≡ there row → X
away_there e = absurd (cc e)

pub no_sound : Sound no_disk
no_sound = record {
  kinds = allowed_gone;
  commits = λ name commit k. away_there (sym (if_away (is_ref name)) ∙ k.shown);
  deploys = λ name commit k. away_there (sym (if_away (is_ref name)) ∙ k.shown);
}

-- ---- a `config`

root_allowed : Allowed [] folder
root_allowed = record { fits = tt; short = inr (omega arith) }

config_allowed : (bytes : List ℕ) → Allowed config (holds 0 420 bytes)
config_allowed bytes = record { fits = tt; short = inr (omega arith) }

module _ (bytes : List ℕ) where
  no_ref : (name : Ref) → ref_seen (config_disk bytes) name ≡ away
  no_ref name = if_away (is_ref name)

  no_row : (name : Option Ref) → row_seen (config_disk bytes) name ≡ away
  no_row None = refl
  no_row (Some name) = no_ref name

  pub config_sound : Sound (config_disk bytes)
  config_sound = record {
    kinds = each_at Allowed allowed_gone (config_rows bytes) (root_allowed, (config_allowed bytes, tt));
    commits = λ name commit k. away_there (sym (no_ref name) ∙ k.shown);
    deploys = λ name commit k. away_there (sym (no_ref name) ∙ k.shown);
  }

read_whole : (bytes : List ℕ) (s : Settings) → length bytes ≤ config_most → config_of bytes ≡ Some s → config_at (holds 0 420 bytes) ≡ there (setup_of (settings_state s))
unfolding config_at
read_whole bytes s short reads =
    ap (λ b. layout_two (if b then read_of (config_of bytes) else bad)) (le-leb (length bytes) config_most short) ∙ ap (λ o. layout_two (read_of o)) reads

pub config_shows : (s : Settings) → IsSettings s → length (config_text s) ≤ config_most → Shows (config_disk (config_text s)) (settings_state s)
config_shows s good short =
    let disk : Disk = config_disk (config_text s) in
    record {
      settings = read_whole (config_text s) s short (written_back s good);
      refs = λ text. no_row (config_text s) (ref_of text);
      refs_ascend = refl;
      overrides = λ name. layer_away (is_override name) (override_at name (disk (override_path name)))
          (ap (override_at name) (none_at (override_path name) (config_rows (config_text s)) (λ e. cc, (λ e. cc, tt))) ∙ override_away name);
      overrides_ascend = refl;
    }

-- ---- a view in which the root stands alone, settled

module _ (v : View) (tree : IsTree v) (settled : IsSettled v) (none : (x : List ℕ) (up : Elements) → v.names (x ∷ up) ≡ absent) (disk : Disk) (left : Leaves v disk) where
  stands : (p : Elements) → disk p ≡ empty_disk p
  stands [] = settled_disk v tree settled disk left [] ∙ ap (spot_of v.files) tree.root
  stands (x ∷ up) = settled_disk v tree settled disk left (x ∷ up) ∙ ap (spot_of v.files) (none x up)

  bare_shows : Shows disk empty_state
  bare_shows = shows_same empty_disk disk (λ p f. stands p) empty_shows

  bare_sound : Sound disk
  bare_sound = sound_same empty_disk disk (λ p f. stands p) (λ p. inl (stands p)) empty_sound

pub root_alone : (v : View) → IsTree v → IsSettled v → ((x : List ℕ) (up : Elements) → v.names (x ∷ up) ≡ absent) → IsSound v
root_alone v tree settled none = record {
  shown = λ disk left. record { state = empty_state; shows = bare_shows v tree settled none disk left };
  sound = λ disk left. bare_sound v tree settled none disk left;
}

pub bare_opens : (v : View) → IsTree v → IsSettled v → ((x : List ℕ) (up : Elements) → v.names (x ∷ up) ≡ absent) → Opens empty_state v
bare_opens v tree settled none = record {
  shown = λ disk left. bare_shows v tree settled none disk left;
  sound = λ disk left. bare_sound v tree settled none disk left;
}

-- ---- the longest paths

pub longest : (p : Elements) → length p ≡ 128 → zone (outward p) ≡ anything → Allowed p folder
longest p long free = record { fits = subst (λ (z : Zone). Fits z p folder) (sym free) tt; short = inr (omega (arith, long)) }

pub too_long : (p : Elements) → length p ≡ 129 → Allowed p folder → ⊥
too_long p long allowed = elim allowed.short [ inl none ↦ absurd (cc none) | inr short ↦ absurd (omega (arith, long, short)) ]
