-- An image of rows shows a state where its refs and overrides are those that have rows.
use Rattle.std.proofs.Common.{◌≡◌, inl, inr, ℕ, List, [], ◌∷◌, map, Bool, true, false, not, ◌||◌, cond, Some, None, refl, sym, ◌∙◌, ap, subst}
use Rattle.std.specs.Prelude.{codes, if◌then◌else◌}
use Rattle.std.specs.Str.{bytes_eq}
use Rattle.std.specs.List.{AllByRecursion, list_all, list_any}
use Rattle.std.proofs.lemmas.Bool.{cases_Bool}
use Rattle.std.proofs.lemmas.Slice.Eq.{bytes_eq-Decides}
use Rattle.fp_base.proofs.Options.{some_none}
use Rattle.fp_host.specs.Paths.{Elements, path_eq}
use Rattle.fp_host.specs.Outcome.{Spot, Disk}
use Rattle.fp_host.specs.Reads.{is_ascending}
use Rattle.fp_host.proofs.Separate.{path_decides}
use Rattle.fp_name.specs.Refs.{Ref, is_ref, ref_of, ref_text}
use Rattle.fp_name.specs.Grammar.{is_override}
use Rattle.fp_name.proofs.Refs.{ref_of-ref_text}
use Rattle.fp_small.specs.declared.state.State.{State}
use Rattle.fp_small.specs.declared.state.RefRow.{RefRow}
use Rattle.fp_small.specs.declared.state.Previous.{Previous}
use Rattle.fp_small.specs.declared.state.OverrideRow.{OverrideRow}
use Rattle.dep_states.specs.Names.{active, override_path, overrides_folder}
use Rattle.dep_states.specs.Samples.{rows_at}
use Rattle.dep_states.specs.Shown.{Seen, away, there, by_active, settings_seen, ref_seen, row_seen, override_at, override_seen, at_name, ref_key, override_key, setup_of, Shows}
use Rattle.dep_states.specs.Sound.{Keeps, IsKeptBy}
use Rattle.dep_states.proofs.Listed.{IsThere, IsLayer, at_found, refs_listed, overrides_listed}
use Rattle.dep_states.proofs.Rows.{head_of, tail_of}
use Rattle.dep_states.proofs.Single.{some_is}
use Rattle.dep_states.proofs.Sparing.{kept_of_state, shown_good}
use Rattle.dep_states.proofs.Worked.{active_same}
use Rattle.dep_states.proofs.Away.{override_away, seen_there}
use Rattle.fl_samples.proofs.Rows.{untested}

-- ---- refs

-- an `active` is that of a ref that has a row
abbrev pub is_active : List RefRow → Elements → Bool
is_active rows q = not (bytes_eq (head_of q) (codes "active")) || list_any (λ (row : RefRow). path_eq q (active row.name)) rows

no_active : (rows : List RefRow) (name : Ref) → at_name ref_key rows (ref_text name) ≡ None → list_any (λ (row : RefRow). path_eq (active name) (active row.name)) rows ≡ false
no_active [] name none = refl
no_active (row ∷ rows) name none = elim (cases_Bool (path_eq (active name) (active row.name))) [
  | inl t ↦ absurd (some_none (sym (here (active_same name row.name ((path_decides (active name) (active row.name)).0 t))) ∙ none))
  | inr f ↦ ap (λ b. b || list_any (λ (r : RefRow). path_eq (active name) (active r.name)) rows) f ∙ no_active rows name (none_after (bytes_eq (ref_key row) (ref_text name)) none)
]
  where
    here : name ≡ row.name → at_name ref_key (row ∷ rows) (ref_text name) ≡ Some row
    here same = ap (λ b. cond b (Some row) (at_name ref_key rows (ref_text name))) ((bytes_eq-Decides (ref_key row) (ref_text name)).1 (ap ref_text (sym same)))

    none_after : (b : Bool) → (if b then Some row else at_name ref_key rows (ref_text name)) ≡ None → at_name ref_key rows (ref_text name) ≡ None
    none_after true e = absurd (some_none e)
    none_after false e = e

if_away : {A : Type 0} (b : Bool) (x : Seen A) → x ≡ away → (if b then x else away) ≡ away
if_away true x e = e
if_away false x e = refl

other_refs : (rs : List (Elements × Spot)) (rows : List RefRow) → list_all (λ r. is_active rows r.0) rs ≡ true → (name : Ref) → is_ref name ≡ true → at_name ref_key rows (ref_text name) ≡ None → ref_seen (rows_at rs) name ≡ away
other_refs rs rows all name good none =
    if_away (is_ref name) (by_active (rows_at rs) name (rows_at rs (active name)))
    (ap (by_active (rows_at rs) name) (untested (is_active rows) rs all (active name) (no_active rows name none)))

-- ---- overrides

-- what is in the folder of overrides is one that has a row
abbrev pub is_layer : List OverrideRow → Elements → Bool
is_layer rows q = not (path_eq (tail_of q) overrides_folder) || list_any (λ (row : OverrideRow). path_eq q (override_path row.name)) rows

no_layer : (rows : List OverrideRow) (name : List ℕ) → at_name override_key rows name ≡ None → list_any (λ (row : OverrideRow). path_eq (override_path name) (override_path row.name)) rows ≡ false
no_layer [] name none = refl
no_layer (row ∷ rows) name none = elim (cases_Bool (path_eq (override_path name) (override_path row.name))) [
  | inl t ↦ absurd (some_none (sym (here (ap head_of ((path_decides (override_path name) (override_path row.name)).0 t))) ∙ none))
  | inr f ↦ ap (λ b. b || list_any (λ (r : OverrideRow). path_eq (override_path name) (override_path r.name)) rows) f ∙ no_layer rows name (none_after (bytes_eq row.name name) none)
]
  where
    here : name ≡ row.name → at_name override_key (row ∷ rows) name ≡ Some row
    here same = ap (λ b. cond b (Some row) (at_name override_key rows name)) ((bytes_eq-Decides row.name name).1 (sym same))

    none_after : (b : Bool) → (if b then Some row else at_name override_key rows name) ≡ None → at_name override_key rows name ≡ None
    none_after true e = absurd (some_none e)
    none_after false e = e

other_layers : (rs : List (Elements × Spot)) (rows : List OverrideRow) → list_all (λ r. is_layer rows r.0) rs ≡ true → (name : List ℕ) → at_name override_key rows name ≡ None → override_seen (rows_at rs) name ≡ away
other_layers rs rows all name none =
    if_away (is_override name) (override_at name (rows_at rs (override_path name)))
    (ap (override_at name) (untested (is_layer rows) rs all (override_path name) (no_layer rows name none)) ∙ override_away name)

-- ---- the state

-- each row is there, and there are no others
pub record Lists (rs : List (Elements × Spot)) (s : State) : Type 0 where
  pub settings : settings_seen (rows_at rs) ≡ there (setup_of s)
  pub refs : AllByRecursion (IsThere (rows_at rs)) s.refs
  pub actives : list_all (λ r. is_active s.refs r.0) rs ≡ true
  pub refs_ascend : is_ascending (map ref_key s.refs) ≡ true
  pub overrides : AllByRecursion (IsLayer (rows_at rs)) s.overrides
  pub layers : list_all (λ r. is_layer s.overrides r.0) rs ≡ true
  pub overrides_ascend : is_ascending (map override_key s.overrides) ≡ true

pub shows_listed : {rs : List (Elements × Spot)} {s : State} → Lists rs s → Shows (rows_at rs) s
shows_listed {rs = rs} {s = s} is = record {
  settings = is.settings;
  refs = refs_listed (rows_at rs) s.refs is.refs (other_refs rs s.refs is.actives);
  refs_ascend = is.refs_ascend;
  overrides = overrides_listed (rows_at rs) s.overrides is.overrides (other_layers rs s.overrides is.layers);
  overrides_ascend = is.overrides_ascend;
}

-- ---- what is kept

-- P holds of the commits that a row keeps
pub record KeepsWith (P : Ref → List ℕ → Type 0) (row : RefRow) : Type 0 where
  pub good : is_ref row.name ≡ true
  pub now : P row.name row.commit
  pub before : (p : Previous) → row.previous ≡ Some p → P row.name p.commit

by_kept : (P : Ref → List ℕ → Type 0) (row : RefRow) (commit : List ℕ) → KeepsWith P row → IsKeptBy row commit → P row.name commit
by_kept P row commit has (inl same) = subst (P row.name) same has.now
by_kept P row commit has (inr (p, previous, same)) = subst (P row.name) same (has.before p previous)

-- the ref of a row that a state has of a name
name_of_row : (P : RefRow → Type 0) (rows : List RefRow) (name : Ref) (row : RefRow) → ((r : RefRow) → P r → is_ref r.name ≡ true) → AllByRecursion P rows → is_ref name ≡ true → at_name ref_key rows (ref_text name) ≡ Some row → P row × (row.name ≡ name)
name_of_row P rows name row goods all good has =
    let found = at_found ref_key P rows (ref_text name) row all has in
    (found.0, some_is (sym (ref_of-ref_text row.name (goods row found.0)) ∙ ap ref_of found.1 ∙ ref_of-ref_text name good))

pub each_kept : (P : Ref → List ℕ → Type 0) {disk : Disk} {s : State} → Shows disk s → AllByRecursion (KeepsWith P) s.refs → (name : Ref) (commit : List ℕ) → Keeps disk name commit → P name commit
each_kept P {disk = disk} {s = s} shows all name commit k =
    let kept = kept_of_state shows k in
    let found = name_of_row (KeepsWith P) s.refs name kept.row (λ r has. has.good) all (shown_good disk name k.shown) kept.has in
    subst (λ (n : Ref). P n commit) found.1 (by_kept P kept.row commit found.0 kept.of_row)

-- Q holds of a row, whose ref is good
pub record RowWith (Q : RefRow → Type 0) (row : RefRow) : Type 0 where
  pub good : is_ref row.name ≡ true
  pub holds : Q row

pub each_shown : (Q : RefRow → Type 0) {disk : Disk} {s : State} → Shows disk s → AllByRecursion (RowWith Q) s.refs → (name : Ref) (row : RefRow) → ref_seen disk name ≡ there row → Q row × (row.name ≡ name)
each_shown Q {disk = disk} {s = s} shows all name row seen =
    let good = shown_good disk name seen in
    let has = seen_there (at_name ref_key s.refs (ref_text name)) (sym (shows.refs (ref_text name)) ∙ ap (row_seen disk) (ref_of-ref_text name good) ∙ seen) in
    let found = name_of_row (RowWith Q) s.refs name row (λ r has. has.good) all good has in
    (found.0.holds, found.1)
