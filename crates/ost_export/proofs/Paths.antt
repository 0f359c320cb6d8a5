-- Paths of a store, and of the work beside it.
use Rattle.std.proofs.Common.{◌≡◌, ◌⊎◌, inl, inr, ℕ, List, [], ◌∷◌, length, get_or, true, refl, sym, ◌∙◌, ap, subst, arith, codes}
use Rattle.fp_host.specs.Paths.{Elements, absent, IsAbove}
use Rattle.fp_host.specs.View.{View, IsTree}
use Rattle.fp_host.proofs.Above.{below_child}
use Rattle.fp_small.specs.Clear.{IsWithin}
use Rattle.fp_small.specs.Places.{tmp, new_name, IsWorkName}
use Rattle.fp_small.specs.Replace.{IsStaging}
use Rattle.fp_small.proofs.Replacement.{one_staging}
use Rattle.fp_small.proofs.Within.{within_on, within_up, one_child}
use Rattle.fp_name.specs.Hex.{is_digest}
use Rattle.fp_base.specs.declared.object.ObjKind.{ObjKind}
use Rattle.ost_model.specs.Objects.{object_path}
use Rattle.ost_store.specs.ObjectNames.{IsAboveObject}
use Rattle.ost_store.proofs.ObjectPaths.{object_within}
use Rattle.ost_export.specs.Staging.{IsApart}
use Rattle.ost_export.specs.Storing.{IsNoWork, IsWork, IsStoreFolder}

-- ---- one path and another

-- two folders of one path stand one in the other
meet : (a b q : Elements) → IsWithin a q → IsWithin b q → IsWithin a b ⊎ IsWithin b a
meet a b q (inl is) second = inr (subst (IsWithin b) is second)
meet a b q (inr above) (inl is) = inl (subst (IsWithin a) is (inr above))
meet a b [] (inr above) (inr other) = absurd above
meet a b (x ∷ up) (inr above) (inr other) = meet a b up (within_up a x up above) (within_up b x up other)

root_above : (x : List ℕ) (p : Elements) → IsAbove [] (x ∷ p)
root_above x [] = inl refl
root_above x (y ∷ up) = inr (root_above y up)

over : (p : Elements) → (p ≡ [] → ⊥) → IsAbove [] p
over [] off = absurd (off refl)
over (x ∷ rest) off = root_above x rest

-- ---- the folders of a store

-- what is in one isn't in another, nor above it
pub two_branches : (a b : List ℕ) (root q p : Elements) → (a ≡ b → ⊥) → IsWithin (a ∷ root) q → IsWithin (b ∷ root) p → IsWithin q p → ⊥
two_branches a b root q p off in_a in_b below = off (one_child a b root p (within_on (a ∷ root) q p in_a below) in_b)

-- a folder of a store that isn't named as one of the work is
pub record IsBranch (x : List ℕ) : Type 0 where
  pub no_tmp : x ≡ codes "tmp" → ⊥
  pub no_repo : x ≡ codes "repo" → ⊥

pub objects_branch : IsBranch (codes "objects")
objects_branch = record { no_tmp = λ is. cc is; no_repo = λ is. cc is }

pub config_branch : IsBranch (codes "config")
config_branch = record { no_tmp = λ is. cc is; no_repo = λ is. cc is }

pub refs_branch : IsBranch (codes "refs")
refs_branch = record { no_tmp = λ is. absurd (omega (arith, ap length is)); no_repo = λ is. let e : 102 ≡ 112 = ap (λ (l : List ℕ). get_or l 2 0) is in absurd (omega (arith, e)) }

-- ---- the work beside it

pub apart_of : {root t : Elements} {v : View} → IsNoWork root → IsStaging v t → IsApart root t
apart_of outer s = record { number = s.number; is = s.is; no_work = outer.no_work }

pub apart_named : {root t : Elements} → IsNoWork root → IsWorkName t → IsApart root t
apart_named outer name = record { number = name.number; is = name.is; no_work = outer.no_work }

module _ {root t : Elements} (apart : IsApart root t) (x : List ℕ) (branch : IsBranch x) where
  same_folder : (y : List ℕ) → y ∷ tmp ≡ x ∷ root → ⊥
  same_folder y is = apart.no_work (inl (cc is))

  higher : (y : List ℕ) → IsWithin (x ∷ root) (y ∷ tmp) → ⊥
  higher y (inl is) = same_folder y is
  higher y (inr (inl is)) = branch.no_tmp (cc is)
  higher y (inr (inr (inl is))) = branch.no_repo (cc is)
  higher y (inr (inr (inr (inl is)))) = absurd (cc is)
  higher y (inr (inr (inr (inr none)))) = none

  lower : (y : List ℕ) → IsWithin (y ∷ tmp) (x ∷ root) → ⊥
  lower y (inl is) = same_folder y (sym is)
  lower y (inr (inl is)) = apart.no_work (inr (subst (IsAbove tmp) is (inl refl)))
  lower y (inr (inr above)) = apart.no_work (inr (below_child y tmp root above))

  -- nothing of such a folder stands in the work
  pub branch_off : (q : Elements) → IsWithin (x ∷ root) q → IsWithin t q → ⊥
  branch_off q below work = elim (meet (x ∷ root) t q below work) [
    | inl up ↦ higher (new_name apart.number) (subst (IsWithin (x ∷ root)) apart.is up)
    | inr down ↦ lower (new_name apart.number) (subst (λ (p : Elements). IsWithin p (x ∷ root)) apart.is down)
  ]

  -- nor above it
  pub branch_under : (q : Elements) → IsWithin (x ∷ root) q → IsWithin q t → ⊥
  branch_under q below up = higher (new_name apart.number) (subst (IsWithin (x ∷ root)) apart.is (within_on (x ∷ root) q t below up))

module _ {root t : Elements} (apart : IsApart root t) where
  pub off_object : (d : List ℕ) (kind : ObjKind) → IsWithin t (object_path root d kind) → ⊥
  off_object d kind within = branch_off apart (codes "objects") objects_branch (object_path root d kind) (object_within root d kind) within

  pub off_above : (q : Elements) → IsAboveObject root q → IsWithin t q → ⊥
  off_above q above within = off_object above.digest above.kind (within_on t q (object_path root above.digest above.kind) within (inr above.above))

  -- a folder above the work's objects is work, or one of the store's folders
  pub above_work : (q : Elements) (d : List ℕ) (kind : ObjKind) → is_digest d ≡ true → IsAbove q (object_path t d kind) → IsWithin t q ⊎ IsStoreFolder root q
  above_work q d kind good (inl is) = inl (inr (subst (IsAbove t) (sym is) (inr (inl refl))))
  above_work q d kind good (inr (inl is)) = inl (inr (subst (IsAbove t) (sym is) (inl refl)))
  above_work q d kind good (inr (inr (inl is))) = inl (inl is)
  above_work q d kind good (inr (inr (inr up))) = inr (by_place (subst (IsAbove q) apart.is up))
    where
      by_place : IsAbove q (new_name apart.number ∷ tmp) → IsStoreFolder root q
      by_place (inl is) = inr (inr is)
      by_place (inr (inl is)) = inr (inl is)
      by_place (inr (inr (inl is))) = inl (record { digest = d; kind = kind; digits = good; above = subst (λ (p : Elements). IsAbove p (object_path root d kind)) (sym is) (over (object_path root d kind) (λ none. cc none)) })
      by_place (inr (inr (inr none))) = absurd none

-- ---- the one place of the work

pub one_work : {v : View} {t q : Elements} → IsStaging v t → IsWork v q → IsWithin t q
one_work {q = q} s work = subst (λ (p : Elements). IsWithin p q) (one_staging work.staging s) work.within

-- below what is absent nothing stands
pub none_below : (v : View) → IsTree v → (p q : Elements) → v.names p ≡ absent → IsWithin p q → v.names q ≡ absent
none_below v tree p q none (inl is) = ap v.names is ∙ none
none_below v tree p [] none (inr above) = absurd above
none_below v tree p (x ∷ up) none (inr above) = elim (tree.above x up) [
  | inl gone ↦ gone
  | inr there ↦ absurd (cc (sym (none_below v tree p up none (within_up p x up above)) ∙ there))
]
