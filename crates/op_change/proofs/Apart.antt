-- Paths that have nothing to do with each other: objects, the commit's folder, and work.
use Rattle.std.proofs.Common.{◌≡◌, ◌⊎◌, inl, inr, ℕ, List, [], ◌∷◌, codes, refl, sym, ap, subst, arith}
use Rattle.fp_base.specs.declared.object.ObjKind.{ObjKind}
use Rattle.fp_host.specs.Paths.{Elements, IsAbove}
use Rattle.fp_host.specs.View.{View, IsTree}
use Rattle.fp_host.specs.Outcome.{shows}
use Rattle.fp_host.specs.Paths.{Slot}
use Rattle.fp_host.proofs.Above.{above_longer}
use Rattle.fp_name.specs.Refs.{Ref}
use Rattle.fp_small.specs.Clear.{IsWithin}
use Rattle.fp_small.specs.Files.{KeepsFiles}
use Rattle.fp_small.specs.Places.{repo, tmp}
use Rattle.ost_model.specs.Objects.{object_path, object_at, store}
use Rattle.ost_pull.specs.Pulls.{IsApart}
use Rattle.ost_pull.proofs.Samples.{work_apart}
use Rattle.ost_checkout.specs.Checkout.{IsApart as IsApartFolder}
use Rattle.dep_states.specs.Names.{branch_dir, commit_dir}
use Rattle.dep_states.proofs.Deployed.{top}
use Rattle.dep_states.proofs.Switching.{word_no_repo}
use Rattle.dep_switch.proofs.Spots.{same_shown}

-- ---- objects

module _ (name : Ref) (commit : List ℕ) where
  pub object_off_dir : (d : List ℕ) (kind : ObjKind) → IsWithin (commit_dir name commit) (object_path repo d kind) → ⊥
  object_off_dir d kind (inl at) = cc at
  object_off_dir d kind (inr above) = omega (arith, above_longer (commit_dir name commit) (object_path repo d kind) above)

  pub object_not_above : (d : List ℕ) (kind : ObjKind) → IsAbove (object_path repo d kind) (commit_dir name commit) → ⊥
  object_not_above d kind (inl at) = word_no_repo name.kind (sym (ap top at))
  object_not_above d kind (inr above) = omega (arith, above_longer (object_path repo d kind) (branch_dir name) above)

  pub dir_apart : IsApartFolder repo (commit_dir name commit)
  dir_apart = record { off = object_off_dir }

-- ---- work

pub work_in_tmp : (n : List ℕ) (q : Elements) → IsWithin (n ∷ tmp) q → IsAbove tmp q
work_in_tmp n q (inl at) = subst (IsAbove tmp) (sym at) (inl refl)
work_in_tmp n [] (inr above) = absurd above
work_in_tmp n (x ∷ up) (inr (inl at)) = subst (λ (l : Elements). IsAbove tmp (x ∷ l)) at (inr (inl refl))
work_in_tmp n (x ∷ up) (inr (inr above)) = inr (work_in_tmp n up (inr above))

pub pull_apart : {r t : Elements} → repo ≡ r → codes "pull" ∷ tmp ≡ t → IsApart r t
pull_apart {t = t} r_is t_is = subst (λ (x : Elements). IsApart x t) r_is (subst (IsApart repo) t_is (work_apart (codes "pull")))

-- ---- a store whose names don't change has the same objects

pub store_by : {u w : View} → IsTree u → IsTree w → KeepsFiles u w → ((d : List ℕ) (kind : ObjKind) → w.names (object_path repo d kind) ≡ u.names (object_path repo d kind)) → store repo (shows w) ≡ store repo (shows u)
store_by before after files same = λ i d kind. (ap (object_at kind) (same_shown before after files (object_path repo d kind) (same d kind))) i

pub same_store : (W : Elements → Slot → Type 0) {u w : View} → IsTree u → IsTree w → KeepsFiles u w → ((q : Elements) → (w.names q ≡ u.names q) ⊎ W q (w.names q)) → ((d : List ℕ) (kind : ObjKind) (e : Slot) → W (object_path repo d kind) e → ⊥)
    → store repo (shows w) ≡ store repo (shows u)
same_store W before after files names off = store_by before after files (λ d kind. elim (names (object_path repo d kind)) [ inl same ↦ same | inr put ↦ absurd (off d kind _ put) ])
