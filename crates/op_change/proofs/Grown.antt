-- What operations on refs and overrides make of a good state is good.
use Rattle.std.proofs.Common.{◌≡◌, inl, inr, ℕ, List, [], ◌∷◌, true, Option, Some, None, sym, ◌∙◌, ap, subst}
use Rattle.std.specs.List.{AllByRecursion}
use Rattle.std.specs.Str.{bytes_eq}
use Rattle.std.proofs.lemmas.Bool.{cases_Bool}
use Rattle.fp_keyfile.specs.KeyFile.{is_good}
use Rattle.fp_name.specs.Refs.{Ref, ref_text}
use Rattle.fp_small.specs.Order.{comes_before, inserted, removed, replaced}
use Rattle.fp_small.specs.declared.op.Op.TheVariants.{Uninstall, SetOverride, DropOverride, Rollback}
use Rattle.fp_small.specs.declared.state.OverrideRow.{OverrideRow}
use Rattle.fp_small.specs.declared.state.Previous.{Previous}
use Rattle.fp_small.specs.declared.state.RefRow.{RefRow}
use Rattle.fp_small.specs.declared.state.State.{State}
use Rattle.fp_small.proofs.Ordered.{bytes_eq-differ}
use Rattle.dep_states.specs.After.{with_refs, exchanged, back, rolled_back, state_after, plain, HasRow, HasPrevious, IsGoodPrevious, IsGoodRow, IsGoodLayer, IsGood}
use Rattle.fp_name.specs.Grammar.{is_override}
use Rattle.dep_states.specs.Shown.{ref_key, override_key}
use Rattle.dep_states.proofs.Changes.{removed_ascends, replaced_ascends}
use Rattle.dep_states.proofs.Listed.{at_found}
use Rattle.dep_states.proofs.Single.{some_is}
use Rattle.op_change.proofs.Backing.{no_moves}

module _ {A : Type 0} (name : A → List ℕ) (P : A → Type 0) where
  all_removed : (xs : List A) (x : List ℕ) → AllByRecursion P xs → AllByRecursion P (removed name xs x)
  all_removed [] x all = tt
  all_removed (y ∷ ys) x all = elim (cases_Bool (bytes_eq (name y) x)) [
    | inl e ↦ rw e (all_removed ys x all.1)
    | inr e ↦ rw e (all.0, all_removed ys x all.1)
  ]

  all_inserted : (xs : List A) (a : A) → AllByRecursion P xs → P a → AllByRecursion P (inserted name xs a)
  all_inserted [] a all p = (p, tt)
  all_inserted (y ∷ ys) a all p = elim (cases_Bool (comes_before (name y) (name a))) [
    | inl e ↦ rw e (all.0, all_inserted ys a all.1 p)
    | inr e ↦ rw e (p, all)
  ]

  all_replaced : (xs : List A) (a : A) → AllByRecursion P xs → P a → AllByRecursion P (replaced name xs a)
  all_replaced xs a all p = all_inserted (removed name xs (name a)) a (all_removed xs (name a) all) p

-- ---- overrides

pub good_set : (s : State) (row : OverrideRow) → is_override row.name ≡ true → is_good row.file ≡ true → IsGood s → IsGood (state_after s (plain (SetOverride row)))
good_set s row name file good = record {
  settings = good.settings;
  rows = good.rows;
  refs_ascend = good.refs_ascend;
  layers = all_replaced override_key IsGoodLayer s.overrides row good.layers (record { name = name; file = file });
  overrides_ascend = replaced_ascends override_key s.overrides row good.overrides_ascend;
}

pub good_drop : (s : State) (name : List ℕ) → IsGood s → IsGood (state_after s (plain (DropOverride name)))
good_drop s name good = record {
  settings = good.settings;
  rows = good.rows;
  refs_ascend = good.refs_ascend;
  layers = all_removed override_key IsGoodLayer s.overrides name good.layers;
  overrides_ascend = removed_ascends override_key s.overrides name good.overrides_ascend;
}

-- ---- refs

pub good_uninstall : (s : State) (name : Ref) → IsGood s → IsGood (state_after s (plain (Uninstall name)))
good_uninstall s name good = record {
  settings = good.settings;
  rows = all_removed ref_key IsGoodRow s.refs (ref_text name) good.rows;
  refs_ascend = removed_ascends ref_key s.refs (ref_text name) good.refs_ascend;
  layers = good.layers;
  overrides_ascend = good.overrides_ascend;
}

good_of : (o : Option Previous) (p : Previous) → o ≡ Some p → IsGoodPrevious o → IsGoodPrevious (Some p)
good_of None p e good = absurd (cc e)
good_of (Some q) p e good = subst (λ (x : Previous). IsGoodPrevious (Some x)) (some_is e) good

good_row : (row : RefRow) (p : Previous) → row.previous ≡ Some p → IsGoodRow row → IsGoodRow (exchanged row p)
good_row row p was good = let old = good_of row.previous p was good.previous in record {
  name = good.name;
  origin = good.origin;
  commit = old.0;
  previous = (good.commit, good.time);
  moves = bytes_eq-differ p.commit row.commit (no_moves row.commit row.previous p was good.moves);
  time = old.1;
}

with_good : (s : State) (new : RefRow) → IsGoodRow new → IsGood s → IsGood (with_refs s (replaced ref_key s.refs new))
with_good s new fine good = record {
  settings = good.settings;
  rows = all_replaced ref_key IsGoodRow s.refs new good.rows fine;
  refs_ascend = replaced_ascends ref_key s.refs new good.refs_ascend;
  layers = good.layers;
  overrides_ascend = good.overrides_ascend;
}

pub good_rollback : (s : State) (name : Ref) (commit : List ℕ) → HasRow s name (HasPrevious commit) → IsGood s → IsGood (state_after s (plain (Rollback name commit)))
good_rollback s name commit has good =
    let row = has.0 in
    let p = has.2.0 in
    subst IsGood (sym (ap (rolled_back s) has.1 ∙ ap (λ o. back s row o) has.2.1))
    (with_good s (exchanged row p) (good_row row p has.2.1 (at_found ref_key IsGoodRow s.refs (ref_text name) row good.rows has.1).0) good)
