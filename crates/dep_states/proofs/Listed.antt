-- A list of rows is what an image has, where each row is there, and away is what the list hasn't.
-- (What a walk of the folders finds comes to this.)
use Rattle.std.proofs.Common.{◌≡◌, inl, inr, ℕ, List, [], ◌∷◌, true, Option, Some, None, refl, sym, ◌∙◌, ap, subst}
use Rattle.std.specs.Str.{bytes_eq}
use Rattle.std.specs.List.{AllByRecursion}
use Rattle.std.proofs.lemmas.Bool.{cases_Bool}
use Rattle.fp_base.proofs.Options.{none_some}
use Rattle.fp_base.proofs.Texts.{bytes_eq-true}
use Rattle.fp_host.specs.Outcome.{Disk}
use Rattle.fp_name.specs.Refs.{Ref, ref_of, is_ref, ref_text}
use Rattle.fp_name.proofs.Refs.{ref_of-ref_text, ref_of-some}
use Rattle.fp_small.specs.declared.state.RefRow.{RefRow}
use Rattle.fp_small.specs.declared.state.OverrideRow.{OverrideRow}
use Rattle.dep_states.specs.Shown.{away, there, seen_of, ref_seen, row_seen, override_seen, at_name, ref_key, override_key}
use Rattle.dep_states.proofs.Single.{some_is}

module _ {A : Type 0} (name : A → List ℕ) (P : A → Type 0) where
  pub at_found : (xs : List A) (t : List ℕ) (a : A) → AllByRecursion P xs → at_name name xs t ≡ Some a → P a × (name a ≡ t)
  at_found [] t a all e = absurd (none_some e)
  at_found (x ∷ xs) t a all e = elim (cases_Bool (bytes_eq (name x) t)) [
    | inl same ↦ let is : x ≡ a = some_is (rw same at e) in subst (λ z. P z × (name z ≡ t)) is (all.0, bytes_eq-true (name x) t same)
    | inr other ↦ at_found xs t a all.1 (rw other at e)
  ]

-- a ref that is there
pub record IsThere (disk : Disk) (row : RefRow) : Type 0 where
  pub good : is_ref row.name ≡ true
  pub is : ref_seen disk row.name ≡ there row

pub refs_listed : (disk : Disk) (rows : List RefRow) → AllByRecursion (IsThere disk) rows
    → ((name : Ref) → is_ref name ≡ true → at_name ref_key rows (ref_text name) ≡ None → ref_seen disk name ≡ away)
    → (text : List ℕ) → row_seen disk (ref_of text) ≡ seen_of (at_name ref_key rows text)
refs_listed disk rows each others text = by_row (at_name ref_key rows text) refl
  where
    by_ref : (o : Option Ref) → ref_of text ≡ o → at_name ref_key rows text ≡ None → row_seen disk o ≡ away
    by_ref None e none = refl
    by_ref (Some name) e none =
        let back = ref_of-some text name e in
        others name back.1 (ap (at_name ref_key rows) (sym back.0) ∙ none)

    by_row : (o : Option RefRow) → at_name ref_key rows text ≡ o → row_seen disk (ref_of text) ≡ seen_of (at_name ref_key rows text)
    by_row None e = by_ref (ref_of text) refl e ∙ ap seen_of (sym e)
    by_row (Some row) e =
        let found = at_found ref_key (IsThere disk) rows text row each e in
        let name : ref_of text ≡ Some row.name = ap ref_of (sym found.1) ∙ ref_of-ref_text row.name found.0.good in
        ap (row_seen disk) name ∙ found.0.is ∙ ap seen_of (sym e)

-- an override that is there
pub record IsLayer (disk : Disk) (row : OverrideRow) : Type 0 where
  pub is : override_seen disk row.name ≡ there row

pub overrides_listed : (disk : Disk) (rows : List OverrideRow) → AllByRecursion (IsLayer disk) rows
    → ((name : List ℕ) → at_name override_key rows name ≡ None → override_seen disk name ≡ away)
    → (name : List ℕ) → override_seen disk name ≡ seen_of (at_name override_key rows name)
overrides_listed disk rows each others name = by_row (at_name override_key rows name) refl
  where
    by_row : (o : Option OverrideRow) → at_name override_key rows name ≡ o → override_seen disk name ≡ seen_of (at_name override_key rows name)
    by_row None e = others name e ∙ ap seen_of (sym e)
    by_row (Some row) e =
        let found = at_found override_key (IsLayer disk) rows name row each e in
        ap (override_seen disk) (sym found.1) ∙ found.0.is ∙ ap seen_of (sym e)
