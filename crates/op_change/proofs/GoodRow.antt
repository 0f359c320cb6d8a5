-- A good state with a good row is good.
use Rattle.std.proofs.Common.{◌≡◌, ◌<◌, ◌^◌, inl, inr, ℕ, List, [], ◌∷◌, true, Option, Some, None, refl}
use Rattle.std.specs.Prelude.{option_map}
use Rattle.std.specs.List.{AllByRecursion}
use Rattle.std.specs.Str.{bytes_eq}
use Rattle.std.proofs.lemmas.Bool.{cases_Bool}
use Rattle.fp_name.specs.Grammar.{is_remote_name}
use Rattle.fp_name.specs.Hex.{is_digest}
use Rattle.fp_name.specs.Refs.{Ref, is_ref, ref_text}
use Rattle.fp_small.specs.Order.{comes_before, inserted, removed}
use Rattle.fp_small.specs.declared.state.RefRow.{RefRow}
use Rattle.fp_small.specs.declared.state.State.{State}
use Rattle.dep_states.specs.After.{row_at, IsGoodPrevious, IsGoodRow, IsGood}
use Rattle.dep_states.specs.Shown.{ref_key}
use Rattle.dep_states.proofs.Changes.{replaced_ascends}
use Rattle.dep_states.proofs.Listed.{at_found}
use Rattle.dep_switch.specs.Rows.{IsAt, with_row}
use Rattle.op_change.specs.Brought.{left_at, row_brought}
use Rattle.op_change.proofs.Standing.{goes_back}

module _ {A : Type 0} (name : A → List ℕ) (P : A → Type 0) where
  all_removed : (xs : List A) (x : List ℕ) → AllByRecursion P xs → AllByRecursion P (removed name xs x)
  all_removed [] x all = tt
  all_removed (y ∷ ys) x all = elim (cases_Bool (bytes_eq (name y) x)) [
    | inl e ↦ rw e (all_removed ys x all.1)
    | inr e ↦ rw e (all.0, all_removed ys x all.1)
  ]

  all_inserted : (xs : List A) (a : A) → AllByRecursion P xs → P a → AllByRecursion P (inserted name xs a)
  all_inserted [] a all p = (p, tt)
  all_inserted (y ∷ ys) a all p = elim (cases_Bool (comes_before (name y) (name a))) [
    | inl e ↦ rw e (all.0, all_inserted ys a all.1 p)
    | inr e ↦ rw e (p, all)
  ]

good_with : (s : State) (row : RefRow) → IsGood s → IsGoodRow row → IsGood (with_row s row)
good_with s row good row_good = record {
  settings = good.settings;
  rows = all_inserted ref_key IsGoodRow (removed ref_key s.refs (ref_key row)) row (all_removed ref_key IsGoodRow s.refs (ref_key row) good.rows) row_good;
  refs_ascend = replaced_ascends ref_key s.refs row good.refs_ascend;
  layers = good.layers;
  overrides_ascend = good.overrides_ascend;
}

good_previous : (s : State) (name : Ref) (o : Option RefRow) → IsGood s → row_at s name ≡ o → IsGoodPrevious (option_map left_at o)
good_previous s name None good at = tt
good_previous s name (Some row) good at = let found = at_found ref_key IsGoodRow s.refs (ref_text name) row good.rows at in (found.0.commit, found.0.time)

pub good_brought : (s : State) (name : Ref) (origin commit : List ℕ) (time : ℕ) → IsGood s → is_ref name ≡ true → is_remote_name origin ≡ true → is_digest commit ≡ true → time < 2 ^ 64 → (IsAt s name commit → ⊥)
    → IsGood (with_row s (row_brought s name origin commit time))
good_brought s name origin commit time good named from digits short moves = good_with s (row_brought s name origin commit time) good (record {
  name = named;
  origin = from;
  commit = digits;
  previous = good_previous s name (row_at s name) good refl;
  moves = goes_back s name (row_at s name) commit refl moves;
  time = short;
})
