-- An image of finitely many names in which nothing is damaged shows a state.
use Rattle.std.proofs.Common.{◌≡◌, ◌≢◌, ◌⊎◌, inl, inr, ℕ, List, [], ◌∷◌, map, Bool, true, false, Option, Some, None, refl, sym, ◌∙◌, ap}
use Rattle.std.specs.Prelude.{if◌then◌else◌}
use Rattle.std.specs.List.{AllByRecursion}
use Rattle.std.specs.Str.{bytes_eq}
use Rattle.std.proofs.lemmas.Bool.{cases_Bool}
use Rattle.fp_base.proofs.Options.{some_none}
use Rattle.fp_base.proofs.Texts.{bytes_eq-same}
use Rattle.fp_host.specs.Paths.{Elements, path_text}
use Rattle.fp_host.specs.Outcome.{Spot, gone, folder, holds, points, Disk}
use Rattle.fp_host.specs.Reads.{is_ascending}
use Rattle.fp_keyfile.specs.declared.group.Group.{Group}
use Rattle.fp_name.specs.Hex.{hex}
use Rattle.fp_name.specs.Refs.{Ref, is_ref, ref_of, ref_text}
use Rattle.fp_name.proofs.Refs.{ref_of-ref_text}
use Rattle.fp_small.specs.Order.{comes_before, inserted, removed, replaced}
use Rattle.fp_small.specs.declared.state.RefRow.{RefRow}
use Rattle.fp_small.specs.declared.state.RemoteRow.{RemoteRow}
use Rattle.fp_small.specs.declared.state.OverrideRow.{OverrideRow}
use Rattle.fp_small.specs.declared.config.Settings.{Settings}
use Rattle.ost_model.specs.Order.{In}
use Rattle.dep_states.specs.declared.deploy.DeployData.{DeployData}
use Rattle.dep_states.specs.declared.setup.Setup.{Setup}
use Rattle.dep_states.specs.Names.{config, remotes_conf, pins_file, override_path, active}
use Rattle.fp_name.specs.Grammar.{is_override}
use Rattle.dep_states.specs.Shown.{Seen, away, bad, there, layout_one, layout_two, config_at, remotes_at, pins_at, settings_at, settings_seen, row_in, deploy_at, by_active, ref_seen, row_seen, named_override, override_at, override_seen, at_name, ref_key, override_key, IsShown}
use Rattle.dep_states.specs.Damaged.{Damages, bad_config, bad_remotes, bad_pins, bad_ref, bad_override}
use Rattle.dep_states.proofs.Changes.{at_replaced, replaced_ascends}
use Rattle.dep_states.proofs.Listed.{IsThere, refs_listed, IsLayer, overrides_listed}
use Rattle.dep_states.proofs.Single.{there_is}
use Rattle.dep_states.proofs.Away.{override_away, layer_away}

-- ---- lists

module _ {A : Type 0} (name : A → List ℕ) (P : A → Type 0) where
  all_removed : (xs : List A) (x : List ℕ) → AllByRecursion P xs → AllByRecursion P (removed name xs x)
  all_removed [] x all = tt
  all_removed (y ∷ ys) x all = elim (cases_Bool (bytes_eq (name y) x)) [
    | inl e ↦ rw e (all_removed ys x all.1)
    | inr e ↦ rw e (all.0, all_removed ys x all.1)
  ]

  all_inserted : (xs : List A) (a : A) → AllByRecursion P xs → P a → AllByRecursion P (inserted name xs a)
  all_inserted [] a all p = (p, tt)
  all_inserted (y ∷ ys) a all p = elim (cases_Bool (comes_before (name y) (name a))) [
    | inl e ↦ rw e (all.0, all_inserted ys a all.1 p)
    | inr e ↦ rw e (p, all)
  ]

  all_replaced : (xs : List A) (a : A) → AllByRecursion P xs → P a → AllByRecursion P (replaced name xs a)
  all_replaced xs a all p = all_inserted (removed name xs (name a)) a (all_removed xs (name a) all) p

  -- with a row that was seen
  abbrev with_seen : Seen A → List A → List A
  with_seen away xs = xs
  with_seen bad xs = xs
  with_seen (there a) xs = replaced name xs a

  all_seen : (s : Seen A) (xs : List A) → ((a : A) → s ≡ there a → P a) → AllByRecursion P xs → AllByRecursion P (with_seen s xs)
  all_seen away xs each all = all
  all_seen bad xs each all = all
  all_seen (there a) xs each all = all_replaced xs a all (each a refl)

  ascends_seen : (s : Seen A) (xs : List A) → is_ascending (map name xs) ≡ true → is_ascending (map name (with_seen s xs)) ≡ true
  ascends_seen away xs up = up
  ascends_seen bad xs up = up
  ascends_seen (there a) xs up = replaced_ascends name xs a up

  -- what is there stays
  still_there : (s : Seen A) (xs : List A) (t : List ℕ) → at_name name (with_seen s xs) t ≡ None → at_name name xs t ≡ None
  still_there away xs t e = e
  still_there bad xs t e = e
  still_there (there a) xs t e = by (bytes_eq (name a) t) (sym (at_replaced name xs a t) ∙ e)
    where
      by : (b : Bool) → (if b then Some a else at_name name xs t) ≡ None → at_name name xs t ≡ None
      by true h = absurd (some_none h)
      by false h = h

  now_there : (a : A) (xs : List A) → at_name name (with_seen (there a) xs) (name a) ≡ Some a
  now_there a xs = at_replaced name xs a (name a) ∙ rw (bytes_eq-same (name a)) refl

-- ---- rows of refs

pub row_in_name : (name : Ref) (text : List ℕ) (s : Seen DeployData) (row : RefRow) → row_in name text s ≡ there row → row.name ≡ name
row_in_name name text away row e = absurd cc
row_in_name name text bad row e = absurd cc
row_in_name name text (there d) row e = elim (cases_Bool (bytes_eq (hex d.commit) text)) [
  | inl t ↦ sym (ap (λ (r : RefRow). r.name) (there_is (rw t at e)))
  | inr f ↦ absurd (no_there (rw f at e))
]
  where
    no_there : bad ≡ there row → ⊥
    no_there e = cc

deploy_name : (name : Ref) (text : List ℕ) (spot : Spot) (row : RefRow) → deploy_at name text spot ≡ there row → row.name ≡ name
unfolding deploy_at
deploy_name name text spot row e = row_in_name name text _ row e

active_name : (disk : Disk) (name : Ref) (spot : Spot) (row : RefRow) → by_active disk name spot ≡ there row → row.name ≡ name
active_name disk name gone row e = absurd cc
active_name disk name folder row e = absurd cc
active_name disk name (holds id mode bytes) row e = absurd cc
active_name disk name (points text) row e = deploy_name name text _ row e

pub ref_is : (disk : Disk) (name : Ref) (row : RefRow) → ref_seen disk name ≡ there row → (is_ref name ≡ true) × (row.name ≡ name)
ref_is disk name row e = elim (cases_Bool (is_ref name)) [
  | inl t ↦ (t, active_name disk name (disk (active name)) row (rw t at e))
  | inr f ↦ absurd (no_there (rw f at e))
]
  where
    no_there : away ≡ there row → ⊥
    no_there e = cc

pub row_there : (disk : Disk) (o : Option Ref) (row : RefRow) → row_seen disk o ≡ there row → IsThere disk row
row_there disk None row e = absurd cc
row_there disk (Some name) row e =
    let is = ref_is disk name row e in
    record { good = ap is_ref is.1 ∙ is.0; is = ap (ref_seen disk) is.1 ∙ e }

-- the row of the ref whose folder is above this path
seen_at : Disk → Elements → Seen RefRow
seen_at disk [] = away
seen_at disk (x ∷ up) = row_seen disk (ref_of (path_text up))

rows_of : Disk → List Elements → List RefRow
rows_of disk [] = []
rows_of disk (p ∷ ps) = with_seen ref_key (IsThere disk) (seen_at disk p) (rows_of disk ps)

seen_there : (disk : Disk) (p : Elements) (row : RefRow) → seen_at disk p ≡ there row → IsThere disk row
unfolding seen_at
seen_there disk [] row e = absurd cc
seen_there disk (x ∷ up) row e = row_there disk (ref_of (path_text up)) row e

rows_there : (disk : Disk) (ps : List Elements) → AllByRecursion (IsThere disk) (rows_of disk ps)
unfolding rows_of
rows_there disk [] = tt
rows_there disk (p ∷ ps) = all_seen ref_key (IsThere disk) (seen_at disk p) (rows_of disk ps) (seen_there disk p) (rows_there disk ps)

rows_ascend : (disk : Disk) (ps : List Elements) → is_ascending (map ref_key (rows_of disk ps)) ≡ true
unfolding rows_of
rows_ascend disk [] = refl
rows_ascend disk (p ∷ ps) = ascends_seen ref_key (IsThere disk) (seen_at disk p) (rows_of disk ps) (rows_ascend disk ps)

seen_active : (disk : Disk) (name : Ref) (row : RefRow) → ref_seen disk name ≡ there row → seen_at disk (active name) ≡ there row
unfolding seen_at
seen_active disk name row e = ap (row_seen disk) (ref_of-ref_text name (ref_is disk name row e).0) ∙ e

rows_have : (disk : Disk) (ps : List Elements) (name : Ref) (row : RefRow) → In ps (active name) → ref_seen disk name ≡ there row → at_name ref_key (rows_of disk ps) (ref_text name) ≡ None → ⊥
unfolding rows_of
rows_have disk [] name row within e none = within
rows_have disk (p ∷ ps) name row (inr within) e none = rows_have disk ps name row within e (still_there ref_key (IsThere disk) (seen_at disk p) (rows_of disk ps) (ref_text name) none)
rows_have disk (p ∷ ps) name row (inl is) e none =
    let seen : seen_at disk p ≡ there row = ap (seen_at disk) is ∙ seen_active disk name row e in
    let key : ref_key row ≡ ref_text name = ap ref_text (ref_is disk name row e).1 in
    some_none (sym (now_there ref_key (IsThere disk) row (rows_of disk ps)) ∙ ap (at_name ref_key (with_seen ref_key (IsThere disk) (there row) (rows_of disk ps))) key
    ∙ ap (λ s. at_name ref_key (with_seen ref_key (IsThere disk) s (rows_of disk ps)) (ref_text name)) (sym seen) ∙ none)

away_there : {A : Type 0} {x : Seen A} {a : A} → x ≡ away → x ≡ there a → ⊥
away_there a b = cc (a, b)

-- ---- overrides

pub named_is : (name : List ℕ) (s : Seen (List Group)) (row : OverrideRow) → named_override name s ≡ there row → row.name ≡ name
named_is name away row e = absurd cc
named_is name bad row e = absurd cc
named_is name (there file) row e = sym (ap (λ (r : OverrideRow). r.name) (there_is e))

layer_name : (name : List ℕ) (spot : Spot) (row : OverrideRow) → override_at name spot ≡ there row → row.name ≡ name
unfolding override_at
layer_name name spot row e = named_is name _ row e

pub override_is : (disk : Disk) (name : List ℕ) (row : OverrideRow) → override_seen disk name ≡ there row → row.name ≡ name
override_is disk name row e = elim (cases_Bool (is_override name)) [
  | inl t ↦ layer_name name (disk (override_path name)) row (rw t at e)
  | inr f ↦ absurd (no_there (rw f at e))
]
  where
    no_there : away ≡ there row → ⊥
    no_there e = cc

abbrev head_name : Elements → List ℕ
head_name [] = []
head_name (x ∷ up) = x

layers_of : Disk → List Elements → List OverrideRow
layers_of disk [] = []
layers_of disk (p ∷ ps) = with_seen override_key (IsLayer disk) (override_seen disk (head_name p)) (layers_of disk ps)

layers_there : (disk : Disk) (ps : List Elements) → AllByRecursion (IsLayer disk) (layers_of disk ps)
unfolding layers_of
layers_there disk [] = tt
layers_there disk (p ∷ ps) = all_seen override_key (IsLayer disk) (override_seen disk (head_name p)) (layers_of disk ps)
    (λ row e. record { is = ap (override_seen disk) (override_is disk (head_name p) row e) ∙ e }) (layers_there disk ps)

layers_ascend : (disk : Disk) (ps : List Elements) → is_ascending (map override_key (layers_of disk ps)) ≡ true
unfolding layers_of
layers_ascend disk [] = refl
layers_ascend disk (p ∷ ps) = ascends_seen override_key (IsLayer disk) (override_seen disk (head_name p)) (layers_of disk ps) (layers_ascend disk ps)

layers_have : (disk : Disk) (ps : List Elements) (name : List ℕ) (row : OverrideRow) → In ps (override_path name) → override_seen disk name ≡ there row → at_name override_key (layers_of disk ps) name ≡ None → ⊥
unfolding layers_of
layers_have disk [] name row within e none = within
layers_have disk (p ∷ ps) name row (inr within) e none = layers_have disk ps name row within e (still_there override_key (IsLayer disk) (override_seen disk (head_name p)) (layers_of disk ps) name none)
layers_have disk (p ∷ ps) name row (inl is) e none =
    let seen : override_seen disk (head_name p) ≡ there row = ap (λ q. override_seen disk (head_name q)) is ∙ e in
    some_none (sym (now_there override_key (IsLayer disk) row (layers_of disk ps)) ∙ ap (at_name override_key (with_seen override_key (IsLayer disk) (there row) (layers_of disk ps))) (override_is disk name row e)
    ∙ ap (λ s. at_name override_key (with_seen override_key (IsLayer disk) s (layers_of disk ps)) name) (sym seen) ∙ none)

-- ---- settings

two_there : (s : Seen Settings) → (layout_two s ≡ bad) ⊎ ((k : Setup) × (layout_two s ≡ there k))
two_there away = inr (_, refl)
two_there bad = inl refl
two_there (there s) = inr (_, refl)

config_there : (spot : Spot) → (config_at spot ≡ bad) ⊎ ((k : Setup) × (config_at spot ≡ there k))
unfolding config_at
config_there spot = two_there _

one_there : (r : Seen (List RemoteRow)) (q : Seen (List (List ℕ))) → ((r ≡ bad) ⊎ (q ≡ bad)) ⊎ ((k : Setup) × (layout_one r q ≡ there k))
one_there away away = inr (_, refl)
one_there away (there pins) = inr (_, refl)
one_there (there rows) away = inr (_, refl)
one_there (there rows) (there pins) = inr (_, refl)
one_there bad q = inl (inl refl)
one_there away bad = inl (inr refl)
one_there (there rows) bad = inl (inr refl)

settings_there : (disk : Disk) → ((p : Elements) → Damages disk p → ⊥) → (c : Spot) → disk config ≡ c → (k : Setup) × (settings_seen disk ≡ there k)
settings_there disk whole gone is = elim (one_there (remotes_at (disk remotes_conf)) (pins_at (disk pins_file))) [
  | inl b ↦ elim b [ inl r ↦ absurd (whole remotes_conf (bad_remotes is r refl)) | inr q ↦ absurd (whole pins_file (bad_pins is q refl)) ]
  | inr k ↦ (k.0, ap (λ z. settings_at z (disk remotes_conf) (disk pins_file)) is ∙ k.1)
]
settings_there disk whole folder is =
    absurd (whole config (bad_config (λ e. cc (sym is ∙ e)) (ap (λ z. settings_at z (disk remotes_conf) (disk pins_file)) is) refl))
settings_there disk whole (points text) is =
    absurd (whole config (bad_config (λ e. cc (sym is ∙ e)) (ap (λ z. settings_at z (disk remotes_conf) (disk pins_file)) is) refl))
settings_there disk whole (holds id mode bytes) is = elim (config_there (holds id mode bytes)) [
  | inl b ↦ absurd (whole config (bad_config (λ e. cc (sym is ∙ e)) (ap (λ z. settings_at z (disk remotes_conf) (disk pins_file)) is ∙ b) refl))
  | inr k ↦ (k.0, ap (λ z. settings_at z (disk remotes_conf) (disk pins_file)) is ∙ k.1)
]

-- ---- the whole

module _ (disk : Disk) (names : List Elements) (all : (p : Elements) → disk p ≢ gone → In names p) (whole : (p : Elements) → Damages disk p → ⊥) where
  other_refs : (name : Ref) → is_ref name ≡ true → at_name ref_key (rows_of disk names) (ref_text name) ≡ None → ref_seen disk name ≡ away
  other_refs name good none = by (ref_seen disk name) refl
    where
      by : (s : Seen RefRow) → ref_seen disk name ≡ s → s ≡ away
      by away e = refl
      by bad e = absurd (whole (active name) (bad_ref name e refl))
      by (there row) e = absurd (rows_have disk names name row
          (all (active name) (λ none_there. away_there (layer_away (is_ref name) (by_active disk name (disk (active name))) (ap (by_active disk name) none_there)) e)) e none)

  other_layers : (name : List ℕ) → at_name override_key (layers_of disk names) name ≡ None → override_seen disk name ≡ away
  other_layers name none = by (override_seen disk name) refl
    where
      by : (s : Seen OverrideRow) → override_seen disk name ≡ s → s ≡ away
      by away e = refl
      by bad e = absurd (whole (override_path name) (bad_override name e refl))
      by (there row) e = absurd (layers_have disk names name row
          (all (override_path name) (λ none_there. away_there (layer_away (is_override name) (override_at name (disk (override_path name))) (ap (override_at name) none_there ∙ override_away name)) e)) e none)

  pub state_there : IsShown disk
  state_there = let k = settings_there disk whole (disk config) refl in record {
    state = record { layout = k.0.layout; refs = rows_of disk names; remotes = k.0.settings.remotes; pins = k.0.settings.pins; overrides = layers_of disk names };
    shows = record {
      settings = k.1;
      refs = refs_listed disk (rows_of disk names) (rows_there disk names) other_refs;
      refs_ascend = rows_ascend disk names;
      overrides = overrides_listed disk (layers_of disk names) (layers_there disk names) other_layers;
      overrides_ascend = layers_ascend disk names;
    };
  }
