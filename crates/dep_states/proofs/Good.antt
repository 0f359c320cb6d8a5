-- What is shown can be written.
use Rattle.std.proofs.Common.{◌≡◌, inl, inr, ℕ, List, [], ◌∷◌, map, length, leb, true, Option, Some, None, Result, Ok, Err, refl, sym, ◌∙◌, ap, subst, arith}
use Rattle.std.specs.Prelude.{IfOk, IsTrue}
use Rattle.std.specs.List.{AllByRecursion}
use Rattle.std.specs.Str.{bytes_eq}
use Rattle.std.proofs.lemmas.Bool.{cases_Bool, and_parts}
use Rattle.fp_base.proofs.Options.{some_none}
use Rattle.fp_base.proofs.Texts.{bytes_eq-true}
use Rattle.fp_host.specs.Outcome.{Spot, Disk, gone, folder, holds, points}
use Rattle.fp_host.specs.Reads.{comes_first, is_ascending}
use Rattle.fp_keyfile.specs.declared.group.Group.{Group}
use Rattle.fp_keyfile.specs.declared.fault.KeyFault.{KeyFault}
use Rattle.fp_keyfile.specs.KeyFile.{file_of, is_good}
use Rattle.fp_keyfile.proofs.Read.{good_file_of}
use Rattle.fp_name.specs.Hex.{hex}
use Rattle.fp_name.specs.Refs.{Ref, is_ref, ref_of}
use Rattle.fp_small.specs.Config.{IsSettings, config_of}
use Rattle.fp_small.specs.Old.{AreRows, ArePatterns, remotes_of, pins_of}
use Rattle.fp_small.specs.declared.config.Settings.{Settings}
use Rattle.fp_small.specs.declared.state.State.{State}
use Rattle.fp_small.specs.declared.state.RefRow.{RefRow}
use Rattle.fp_small.specs.declared.state.RemoteRow.{RemoteRow}
use Rattle.fp_small.specs.declared.state.OverrideRow.{OverrideRow}
use Rattle.fp_small.proofs.ConfigReads.{read_good}
use Rattle.fp_small.proofs.OldReads.{remotes_good, pins_good}
use Rattle.dep_states.specs.declared.deploy.DeployData.{DeployData}
use Rattle.dep_states.specs.declared.setup.Setup.{Setup}
use Rattle.dep_states.specs.Names.{config, remotes_conf, pins_file, override_path, active}
use Rattle.fp_name.specs.Grammar.{is_override}
use Rattle.dep_states.specs.Deploy.{deploy_of}
use Rattle.dep_states.specs.Shown.{Seen, away, bad, there, read_of, seen_of, read_file, config_most, small_most, layout_one, layout_two, config_at, remotes_at, pins_at, settings_at, setup_of, row_of, row_in, deploy_at, by_active, if_file, named_override, override_at, override_seen, at_name, ref_key, override_key, Shows}
use Rattle.dep_states.specs.After.{IsGoodRow, IsGoodLayer, IsGood}
use Rattle.dep_states.proofs.Deploys.{IsRead, deploy_reads}
use Rattle.dep_states.proofs.Listed.{IsThere}
use Rattle.dep_states.proofs.Single.{there_is, some_is, none_before, at_head}
use Rattle.dep_states.proofs.Total.{row_there}

-- ---- files

pub read_there : {A : Type 0} (o : Option A) (a : A) → read_of o ≡ there a → o ≡ Some a
read_there None a e = absurd cc
read_there (Some b) a e = ap Some (there_is e)

-- what a file says
pub file_says : {A : Type 0} (most : ℕ) (read : List ℕ → Option A) (spot : Spot) (a : A) → read_file most read spot ≡ there a → (bytes : List ℕ) × (read bytes ≡ Some a)
file_says most read gone a e = absurd cc
file_says most read folder a e = absurd cc
file_says most read (points text) a e = absurd cc
file_says {A = A} most read (holds id mode bytes) a e = elim (cases_Bool (leb (length bytes) most)) [
  | inl short ↦ (bytes, read_there (read bytes) a (rw short at e))
  | inr long ↦ absurd (no_bad (rw long at e))
]
  where
    no_bad : bad ≡ there a → ⊥
    no_bad e = cc

-- ---- settings

pub no_settings : IsSettings (record { remotes = []; pins = [] })
no_settings = record { rows = refl; patterns = refl; remotes_ascend = refl; pins_ascend = refl; few_remotes = omega arith; few_pins = omega arith }

no_rows : AreRows []
no_rows = record { good = refl; ascend = refl; few = omega arith }

no_patterns : ArePatterns []
no_patterns = record { good = refl; ascend = refl; few = omega arith }

-- settings of rows and patterns
both_good : (rows : List RemoteRow) (pins : List (List ℕ)) → AreRows rows → ArePatterns pins → IsSettings (record { remotes = rows; pins = pins })
both_good rows pins a b = record { rows = a.good; patterns = b.good; remotes_ascend = a.ascend; pins_ascend = b.ascend; few_remotes = a.few; few_pins = b.few }

remotes_said : (spot : Spot) (rows : List RemoteRow) → remotes_at spot ≡ there rows → AreRows rows
unfolding remotes_at
remotes_said spot rows e = let f = file_says small_most remotes_of spot rows e in remotes_good f.0 rows f.1

pins_said : (spot : Spot) (pins : List (List ℕ)) → pins_at spot ≡ there pins → ArePatterns pins
unfolding pins_at
pins_said spot pins e = let f = file_says small_most pins_of spot pins e in pins_good f.0 pins f.1

pub one_good : (r : Seen (List RemoteRow)) (q : Seen (List (List ℕ))) → ((rows : List RemoteRow) → r ≡ there rows → AreRows rows) → ((pins : List (List ℕ)) → q ≡ there pins → ArePatterns pins)
    → (k : Setup) → layout_one r q ≡ there k → IsSettings k.settings
one_good away away rows pins k e = subst (λ (s : Setup). IsSettings s.settings) (there_is e) no_settings
one_good away (there q) rows pins k e = subst (λ (s : Setup). IsSettings s.settings) (there_is e) (both_good [] q no_rows (pins q refl))
one_good (there r) away rows pins k e = subst (λ (s : Setup). IsSettings s.settings) (there_is e) (both_good r [] (rows r refl) no_patterns)
one_good (there r) (there q) rows pins k e = subst (λ (s : Setup). IsSettings s.settings) (there_is e) (both_good r q (rows r refl) (pins q refl))
one_good bad q rows pins k e = absurd cc
one_good away bad rows pins k e = absurd cc
one_good (there r) bad rows pins k e = absurd cc

pub two_good : (s : Seen Settings) → ((x : Settings) → s ≡ there x → IsSettings x) → (k : Setup) → layout_two s ≡ there k → IsSettings k.settings
two_good away good k e = subst (λ (s : Setup). IsSettings s.settings) (there_is e) no_settings
two_good bad good k e = absurd cc
two_good (there x) good k e = subst (λ (s : Setup). IsSettings s.settings) (there_is e) (good x refl)

config_said : (spot : Spot) (k : Setup) → config_at spot ≡ there k → IsSettings k.settings
unfolding config_at
config_said spot k e = two_good _ (λ x says. let f = file_says config_most config_of spot x says in read_good f.0 x f.1) k e

settings_said : (c r q : Spot) (k : Setup) → settings_at c r q ≡ there k → IsSettings k.settings
settings_said gone r q k e = one_good (remotes_at r) (pins_at q) (remotes_said r) (pins_said q) k e
settings_said folder r q k e = absurd cc
settings_said (points text) r q k e = absurd cc
settings_said (holds id mode bytes) r q k e = config_said (holds id mode bytes) k e

-- ---- rows of refs

pub row_in_good : (name : Ref) (text : List ℕ) (s : Seen DeployData) (row : RefRow) → is_ref name ≡ true → ((d : DeployData) → s ≡ there d → IsRead d) → row_in name text s ≡ there row → IsGoodRow row
row_in_good name text away row good reads e = absurd cc
row_in_good name text bad row good reads e = absurd cc
row_in_good name text (there d) row good reads e = elim (cases_Bool (bytes_eq (hex d.commit) text)) [
  | inl t ↦ subst IsGoodRow (there_is (rw t at e)) (made (reads d refl))
  | inr f ↦ absurd (no_there (rw f at e))
]
  where
    no_there : bad ≡ there row → ⊥
    no_there e = cc

    made : IsRead d → IsGoodRow (row_of name d)
    made r = record { name = good; origin = r.origin; commit = r.commit; previous = r.previous; moves = r.moves; time = r.time }

deploy_good : (name : Ref) (text : List ℕ) (spot : Spot) (row : RefRow) → is_ref name ≡ true → deploy_at name text spot ≡ there row → IsGoodRow row
unfolding deploy_at
deploy_good name text spot row good e = row_in_good name text _ row good (λ d says. let f = file_says small_most deploy_of spot d says in deploy_reads f.0 d f.1) e

active_good : (disk : Disk) (name : Ref) (spot : Spot) (row : RefRow) → is_ref name ≡ true → by_active disk name spot ≡ there row → IsGoodRow row
active_good disk name gone row good e = absurd cc
active_good disk name folder row good e = absurd cc
active_good disk name (holds id mode bytes) row good e = absurd cc
active_good disk name (points text) row good e = deploy_good name text _ row good e

pub row_good : (disk : Disk) (row : RefRow) → IsThere disk row → IsGoodRow row
row_good disk row is = let e = is.is in let good = is.good in active_good disk row.name (disk (active row.name)) row good (rw good at e)

-- ---- overrides

pub if_file_is : (r : Result (List Group) KeyFault) (file : List Group) → if_file r ≡ Some file → r ≡ Ok file
if_file_is (Ok f) file e = ap Ok (some_is e)
if_file_is (Err fault) file e = absurd cc

pub ok_good : (r : Result (List Group) KeyFault) (file : List Group) → r ≡ Ok file → IfOk r (λ f. IsTrue (is_good f)) → is_good file ≡ true
ok_good (Ok f) file e good = let same : f ≡ file = cc in subst (λ x. is_good x ≡ true) same good
ok_good (Err fault) file e good = absurd cc

pub named_good : (name : List ℕ) (s : Seen (List Group)) (row : OverrideRow) → is_override name ≡ true → ((file : List Group) → s ≡ there file → is_good file ≡ true) → named_override name s ≡ there row → IsGoodLayer row
named_good name away row good reads e = absurd cc
named_good name bad row good reads e = absurd cc
named_good name (there file) row good reads e = subst IsGoodLayer (there_is e) (record { name = good; file = reads file refl })

layer_good : (name : List ℕ) (spot : Spot) (row : OverrideRow) → is_override name ≡ true → override_at name spot ≡ there row → IsGoodLayer row
unfolding override_at
layer_good name spot row good e = named_good name _ row good (λ file says. let f = file_says small_most (λ bytes. if_file (file_of bytes)) spot file says in ok_good (file_of f.0) file (if_file_is (file_of f.0) file f.1) (good_file_of f.0)) e

override_good : (disk : Disk) (name : List ℕ) (row : OverrideRow) → override_seen disk name ≡ there row → IsGoodLayer row
override_good disk name row e = elim (cases_Bool (is_override name)) [
  | inl t ↦ layer_good name (disk (override_path name)) row t (rw t at e)
  | inr f ↦ absurd (no_there (rw f at e))
]
  where
    no_there : away ≡ there row → ⊥
    no_there e = cc

-- ---- the whole

module _ {A : Type 0} (name : A → List ℕ) (P : A → Type 0) where
  -- each row of a list that ascends stands at its name
  pub each_found : (xs : List A) → is_ascending (map name xs) ≡ true → ((a : A) → at_name name xs (name a) ≡ Some a → P a) → AllByRecursion P xs
  each_found [] up each = tt
  each_found (x ∷ xs) up each =
      let u = and_parts (comes_first (name x) (map name xs)) (is_ascending (map name xs)) up in
      (each x (at_head name x xs), each_found xs u.1 (λ a e. each a (further a e u.0 u.1)))
    where
      further : (a : A) → at_name name xs (name a) ≡ Some a → comes_first (name x) (map name xs) ≡ true → is_ascending (map name xs) ≡ true → at_name name (x ∷ xs) (name a) ≡ Some a
      further a e first others = elim (cases_Bool (bytes_eq (name x) (name a))) [
        | inl t ↦ absurd (some_none (sym e ∙ ap (at_name name xs) (sym (bytes_eq-true (name x) (name a) t)) ∙ none_before name (name x) xs first others))
        | inr f ↦ rw f e
      ]

pub shown_good : (disk : Disk) (s : State) → Shows disk s → IsGood s
shown_good disk s a = record {
  settings = settings_said (disk config) (disk remotes_conf) (disk pins_file) (setup_of s) a.settings;
  rows = each_found ref_key IsGoodRow s.refs a.refs_ascend (λ row e. row_good disk row (row_there disk (ref_of (ref_key row)) row (a.refs (ref_key row) ∙ ap seen_of e)));
  refs_ascend = a.refs_ascend;
  layers = each_found override_key IsGoodLayer s.overrides a.overrides_ascend (λ row e. override_good disk row.name row (a.overrides row.name ∙ ap seen_of e));
  overrides_ascend = a.overrides_ascend;
}
