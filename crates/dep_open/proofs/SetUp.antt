-- What loaded settings tell of the view.
use Rattle.std.proofs.Common.{◌≡◌, ◌≢◌, ◌⊎◌, inl, inr, ℕ, List, [], ◌∷◌, length, leb, Bool, true, false, Option, Some, None, refl, sym, ◌∙◌, ap, subst}
use Rattle.std.specs.Prelude.{if◌then◌else◌}
use Rattle.fp_host.specs.Paths.{Elements, path_text, elements_of}
use Rattle.fp_host.specs.View.{View}
use Rattle.fp_host.specs.Outcome.{Spot, Disk, gone, folder, holds, points, shows}
use Rattle.fp_small.specs.Config.{IsSettings, config_of}
use Rattle.fp_small.specs.Old.{AreRows, ArePatterns, remotes_of, pins_of}
use Rattle.fp_small.specs.Order.{comes_before}
use Rattle.fp_small.specs.Load.{Loads, loaded_of}
use Rattle.fp_small.specs.declared.config.Settings.{Settings}
use Rattle.fp_small.specs.declared.state.RemoteRow.{RemoteRow}
use Rattle.fp_small.specs.declared.state.Layout.TheVariants.{Two}
use Rattle.fp_small.specs.declared.loading.Loaded.{Loaded}
use Rattle.fp_small.specs.declared.loading.Loaded.TheVariants.{Bytes, Absent, TooLong, NotFile}
use Rattle.fp_small.proofs.ConfigReads.{read_good}
use Rattle.fp_small.proofs.OldReads.{remotes_good, pins_good}
use Rattle.dep_states.specs.declared.setup.Setup.{Setup}
use Rattle.dep_states.specs.Names.{config, remotes_conf, pins_file}
use Rattle.dep_states.specs.Shown.{Seen, away, bad, there, read_of, read_file, setup, config_most, small_most, layout_one, layout_two, config_at, remotes_at, pins_at, settings_at, settings_seen}
use Rattle.dep_states.specs.Damaged.{bad_config, bad_remotes, bad_pins, bad_ref, bad_override}
use Rattle.dep_states.specs.Small.{IsSetting}
use Rattle.dep_states.specs.Sound.{is_remotes, is_pins}
use Rattle.dep_states.proofs.Good.{read_there, one_good, two_good, no_settings}
use Rattle.dep_states.proofs.Single.{layout_bad_first, layout_bad_second, in_layout_one}
use Rattle.dep_open.specs.declared.part.Part.{Part}
use Rattle.dep_states.proofs.Texts.{text_back}
use Rattle.dep_open.specs.Parts.{is_away, seen_as, IsLeast, BadSetting, IsSetUp, old_path, IsSetUpOld, IsGoodSetup, SetsUp, SetsUpOld}

-- ---- files

long_seen : {A : Type 0} (read : List ℕ → Option A) (b : Bool) (bytes : List ℕ) → (if b then read_of (read bytes) else bad) ≡ seen_as read (if b then Bytes bytes else TooLong (length bytes))
long_seen read true bytes = refl
long_seen read false bytes = refl

-- what stands there is what was loaded
pub file_seen : {A : Type 0} (most : ℕ) (read : List ℕ → Option A) (spot : Spot) → read_file most read spot ≡ seen_as read (loaded_of most spot)
file_seen most read gone = refl
file_seen most read folder = refl
file_seen most read (points text) = refl
file_seen most read (holds id mode bytes) = long_seen read (leb (length bytes) most) bytes

remotes_seen : (spot : Spot) → remotes_at spot ≡ seen_as remotes_of (loaded_of small_most spot)
unfolding remotes_at
remotes_seen spot = file_seen small_most remotes_of spot

pins_seen : (spot : Spot) → pins_at spot ≡ seen_as pins_of (loaded_of small_most spot)
unfolding pins_at
pins_seen spot = file_seen small_most pins_of spot

config_seen : (spot : Spot) → config_at spot ≡ layout_two (seen_as config_of (loaded_of config_most spot))
unfolding config_at
config_seen spot = ap layout_two (file_seen config_most config_of spot)

here_seen : (c r q : Spot) → (c ≡ gone → ⊥) → settings_at c r q ≡ layout_two (seen_as config_of (loaded_of config_most c))
here_seen gone r q here = absurd (here refl)
here_seen folder r q here = refl
here_seen (points text) r q here = refl
here_seen (holds id mode bytes) r q here = config_seen (holds id mode bytes)

long_away : (b : Bool) (bytes : List ℕ) → is_away (if b then Bytes bytes else TooLong (length bytes)) ≡ false
long_away true bytes = refl
long_away false bytes = refl

pub away_gone : (most : ℕ) (spot : Spot) → is_away (loaded_of most spot) ≡ true → spot ≡ gone
away_gone most gone is = refl
away_gone most folder is = absurd (cc is)
away_gone most (points text) is = absurd (cc is)
away_gone most (holds id mode bytes) is = let other = long_away (leb (length bytes) most) bytes in absurd (cc (is, other))

pub gone_away : (most : ℕ) (spot : Spot) → spot ≡ gone → is_away (loaded_of most spot) ≡ true
gone_away most spot is = ap (λ s. is_away (loaded_of most s)) is

-- ---- what doesn't read

no_setting : {x y : List ℕ} {up q : Elements} → q ≡ x ∷ (y ∷ up) → IsSetting q → ⊥
no_setting at (inl e) = cc (sym at ∙ e)
no_setting at (inr (is_remotes e)) = cc (sym at ∙ e)
no_setting at (inr (is_pins e)) = cc (sym at ∙ e)

bad_there : {k : Setup} → bad ≡ there k → ⊥
bad_there e = cc e

module _ (disk : Disk) where
  -- where the settings read, none of their files is damaged
  none_bad : (k : Setup) → settings_seen disk ≡ there k → (q : Elements) → BadSetting disk q → ⊥
  none_bad k is q (bad_config here e at, setting) = bad_there (sym e ∙ is)
  none_bad k is q (bad_remotes none e at, setting) =
      bad_there (sym (in_layout_one (disk config) (disk remotes_conf) (disk pins_file) none ∙ layout_bad_first (remotes_at (disk remotes_conf)) (pins_at (disk pins_file)) e) ∙ is)
  none_bad k is q (bad_pins none e at, setting) =
      bad_there (sym (in_layout_one (disk config) (disk remotes_conf) (disk pins_file) none ∙ layout_bad_second (remotes_at (disk remotes_conf)) (pins_at (disk pins_file)) e) ∙ is)
  none_bad k is q (bad_ref name e at, setting) = no_setting at setting
  none_bad k is q (bad_override name e at, setting) = no_setting at setting

  -- `config` is damaged
  config_bad : (disk config ≡ gone → ⊥) → settings_seen disk ≡ bad → IsLeast (BadSetting disk) (Some config)
  config_bad here is = ((bad_config here is refl, inl refl), λ q of_q. first q of_q)
    where
      first : (q : Elements) → BadSetting disk q → (q ≡ config) ⊎ (comes_before (path_text config) (path_text q) ≡ true)
      first q (bad_config stands e at, setting) = inl at
      first q (bad_remotes none e at, setting) = absurd (here none)
      first q (bad_pins none e at, setting) = absurd (here none)
      first q (bad_ref name e at, setting) = absurd (no_setting at setting)
      first q (bad_override name e at, setting) = absurd (no_setting at setting)

  pins_bad : disk config ≡ gone → pins_at (disk pins_file) ≡ bad → IsLeast (BadSetting disk) (Some pins_file)
  pins_bad none is = ((bad_pins none is refl, inr (is_pins refl)), λ q of_q. first q of_q)
    where
      first : (q : Elements) → BadSetting disk q → (q ≡ pins_file) ⊎ (comes_before (path_text pins_file) (path_text q) ≡ true)
      first q (bad_config here e at, setting) = absurd (here none)
      first q (bad_remotes gone_ e at, setting) = inr (subst (λ p. comes_before (path_text pins_file) (path_text p) ≡ true) (sym at) refl)
      first q (bad_pins gone_ e at, setting) = inl at
      first q (bad_ref name e at, setting) = absurd (no_setting at setting)
      first q (bad_override name e at, setting) = absurd (no_setting at setting)

  remotes_bad : disk config ≡ gone → remotes_at (disk remotes_conf) ≡ bad → pins_at (disk pins_file) ≢ bad → IsLeast (BadSetting disk) (Some remotes_conf)
  remotes_bad none is good = ((bad_remotes none is refl, inr (is_remotes refl)), λ q of_q. first q of_q)
    where
      first : (q : Elements) → BadSetting disk q → (q ≡ remotes_conf) ⊎ (comes_before (path_text remotes_conf) (path_text q) ≡ true)
      first q (bad_config here e at, setting) = absurd (here none)
      first q (bad_remotes gone_ e at, setting) = inl at
      first q (bad_pins gone_ e at, setting) = absurd (good e)
      first q (bad_ref name e at, setting) = absurd (no_setting at setting)
      first q (bad_override name e at, setting) = absurd (no_setting at setting)

  there_part : (part : Part Setup) (k : Setup) → settings_seen disk ≡ there k → (part.damaged ≡ None) × (part.found ≡ k) → SetsUp disk part
  there_part part k is read = record {
    least = subst (IsLeast (BadSetting disk)) (sym read.0) (none_bad k is);
    is = λ none. is ∙ ap there (sym read.1);
  }

  some_none : {A : Type 0} {x : A} {o : Option A} → o ≡ Some x → o ≡ None → ⊥
  some_none a b = cc (a, b)

  bad_part : (part : Part Setup) (p : Elements) → part.damaged ≡ Some p → IsLeast (BadSetting disk) (Some p) → SetsUp disk part
  bad_part part p at least = record { least = subst (IsLeast (BadSetting disk)) (sym at) least; is = λ none. absurd (some_none at none) }

  new_part : (part : Part Setup) (s : Seen Settings) → (disk config ≡ gone → ⊥) → settings_seen disk ≡ layout_two s → IsSetUp (layout_two s) config part → SetsUp disk part
  new_part part away here is set = there_part part (setup Two [] []) is set
  new_part part bad here is set = bad_part part config set.0 (config_bad here is)
  new_part part (there s) here is set = there_part part (record { layout = Two; settings = s }) is set

  old_part : (part : Part Setup) (r : Seen (List RemoteRow)) (q : Seen (List (List ℕ))) → disk config ≡ gone → remotes_at (disk remotes_conf) ≡ r → pins_at (disk pins_file) ≡ q
      → settings_seen disk ≡ layout_one r q → IsSetUp (layout_one r q) (old_path q) part → SetsUp disk part
  old_part part bad bad none of_r of_q is set = bad_part part pins_file set.0 (pins_bad none of_q)
  old_part part away bad none of_r of_q is set = bad_part part pins_file set.0 (pins_bad none of_q)
  old_part part (there r) bad none of_r of_q is set = bad_part part pins_file set.0 (pins_bad none of_q)
  old_part part bad away none of_r of_q is set = bad_part part remotes_conf set.0 (remotes_bad none of_r (λ e. cc (of_q, e)))
  old_part part bad (there q) none of_r of_q is set = bad_part part remotes_conf set.0 (remotes_bad none of_r (λ e. cc (of_q, e)))
  old_part part away away none of_r of_q is set = there_part part _ is set
  old_part part away (there q) none of_r of_q is set = there_part part _ is set
  old_part part (there r) away none of_r of_q is set = there_part part _ is set
  old_part part (there r) (there q) none of_r of_q is set = there_part part _ is set

-- the texts of their paths read back
pub small_back : (q : Elements) → IsSetting q → elements_of (path_text q) ≡ q
small_back q (inl is) = subst (λ x. elements_of (path_text x) ≡ x) (sym is) (text_back config refl)
small_back q (inr (is_remotes is)) = subst (λ x. elements_of (path_text x) ≡ x) (sym is) (text_back remotes_conf refl)
small_back q (inr (is_pins is)) = subst (λ x. elements_of (path_text x) ≡ x) (sym is) (text_back pins_file refl)

-- ---- what was loaded of a view

pub sets_up_new : {v : View} {loaded : Loaded} (part : Part Setup) (path : Elements) → path ≡ config → Loads path config_most v loaded → false ≡ is_away loaded → IsSetUp (layout_two (seen_as config_of loaded)) config part → SetsUp (shows v) part
sets_up_new {v = v} {loaded = loaded} part path at loads here set =
    let is : loaded ≡ loaded_of config_most (shows v config) = loads.is ∙ ap (λ q. loaded_of config_most (shows v q)) at in
    let some : shows v config ≡ gone → ⊥ = λ none. absurd (cc (here, ap is_away is, gone_away config_most (shows v config) none)) in
    new_part (shows v) part (seen_as config_of loaded) some
    (here_seen (shows v config) (shows v remotes_conf) (shows v pins_file) some ∙ ap (λ l. layout_two (seen_as config_of l)) (sym is)) set

pub sets_up_old : {v : View} {pins remotes : Loaded} (part : Part Setup) (pins_path remotes_path : Elements) → pins_path ≡ pins_file → remotes_path ≡ remotes_conf
    → Loads pins_path small_most v pins → Loads remotes_path small_most v remotes → IsSetUpOld pins remotes part → SetsUpOld (shows v) part
sets_up_old {v = v} {pins = pins} {remotes = remotes} part pins_path remotes_path at_pins at_remotes loads_pins loads_remotes set =
    let p : pins ≡ loaded_of small_most (shows v pins_file) = loads_pins.is ∙ ap (λ q. loaded_of small_most (shows v q)) at_pins in
    let m : remotes ≡ loaded_of small_most (shows v remotes_conf) = loads_remotes.is ∙ ap (λ q. loaded_of small_most (shows v q)) at_remotes in
    let of_p : pins_at (shows v pins_file) ≡ seen_as pins_of pins = pins_seen (shows v pins_file) ∙ ap (seen_as pins_of) (sym p) in
    let of_m : remotes_at (shows v remotes_conf) ≡ seen_as remotes_of remotes = remotes_seen (shows v remotes_conf) ∙ ap (seen_as remotes_of) (sym m) in
    record {
      all = λ none. old_part (shows v) part (seen_as remotes_of remotes) (seen_as pins_of pins) none of_m of_p
          (in_layout_one (shows v config) (shows v remotes_conf) (shows v pins_file) none ∙ ap (λ r. layout_one r (pins_at (shows v pins_file))) of_m ∙ ap (λ q. layout_one (seen_as remotes_of remotes) q) of_p) set;
    }

-- without `config` this is all
pub sets_up_gone : {v : View} {loaded : Loaded} (part : Part Setup) (path : Elements) → path ≡ config → Loads path config_most v loaded → true ≡ is_away loaded → SetsUpOld (shows v) part → SetsUp (shows v) part
sets_up_gone {v = v} {loaded = loaded} part path at loads away_ old =
    let is : loaded ≡ loaded_of config_most (shows v config) = loads.is ∙ ap (λ q. loaded_of config_most (shows v q)) at in
    old.all (away_gone config_most (shows v config) (sym (ap is_away is) ∙ sym away_))

-- ---- they can be written

setup_good : (s : Seen Setup) (p : Elements) (part : Part Setup) → ((k : Setup) → s ≡ there k → IsSettings k.settings) → IsSetUp s p part → IsGoodSetup part
setup_good away p part each set = absurd set
setup_good bad p part each set = subst (λ (k : Setup). IsSettings k.settings) (sym set.1) no_settings
setup_good (there k) p part each set = subst (λ (x : Setup). IsSettings x.settings) (sym set.1) (each k refl)

-- what was read of a file is good
read_said : {A : Type 0} (P : A → Type 0) (read : List ℕ → Option A) → ((bytes : List ℕ) (a : A) → read bytes ≡ Some a → P a) → (loaded : Loaded) (a : A) → seen_as read loaded ≡ there a → P a
read_said P read each Absent a e = absurd (cc e)
read_said P read each (Bytes bytes) a e = each bytes a (read_there (read bytes) a e)
read_said P read each (TooLong size) a e = absurd (cc e)
read_said P read each NotFile a e = absurd (cc e)

pub new_good : (loaded : Loaded) (part : Part Setup) → IsSetUp (layout_two (seen_as config_of loaded)) config part → IsGoodSetup part
new_good loaded part set = setup_good (layout_two (seen_as config_of loaded)) config part (two_good (seen_as config_of loaded) (read_said IsSettings config_of read_good loaded)) set

pub old_good : (pins remotes : Loaded) (part : Part Setup) → IsSetUpOld pins remotes part → IsGoodSetup part
old_good pins remotes part set =
    setup_good (layout_one (seen_as remotes_of remotes) (seen_as pins_of pins)) (old_path (seen_as pins_of pins)) part
    (one_good (seen_as remotes_of remotes) (seen_as pins_of pins) (read_said AreRows remotes_of remotes_good remotes) (read_said ArePatterns pins_of pins_good pins)) set
